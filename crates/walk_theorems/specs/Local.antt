-- Locality: two images of the same size and place that agree on the descriptors that the walk fetched give the same answer.
-- Any bytes, any numbers. What is stored elsewhere changes no walk.
use Rattle.std.specs.Prelude.{ℕ, ◌≡◌, List, length}
use Rattle.walk.specs.Memory.{Agrees}
use Rattle.walk.specs.Both.{stage_2, both, answer_2, answer}
use Rattle.walk.proofs.Laws.Local.{answer_2_same, answer_same}

module _ (ram ram' : List ℕ) (base : ℕ) (same : length ram ≡ length ram') where
  pub local_2 : (frames root ipa access : ℕ) → Agrees ram ram' base (stage_2 ram base root access ipa).fetched
      → answer_2 ram base frames root ipa access ≡ answer_2 ram' base frames root ipa access
  local_2 = answer_2_same ram ram' base same

  pub local : (frames root1 root2 va access el : ℕ) → Agrees ram ram' base (both ram base root1 root2 va access el).fetched
      → answer ram base frames root1 root2 va access el ≡ answer ram' base frames root1 root2 va access el
  local = answer_same ram ram' base same
