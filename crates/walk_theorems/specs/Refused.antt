-- "Refused with an answer of its own, REFUSED" (document 01, section 5): the answer is REFUSED exactly where an argument does not fit.
-- Any bytes, any numbers.
use Rattle.std.specs.Prelude.{ℕ, ◌≡◌, false, List, ◌↔◌, length}
use Rattle.walk.specs.declared.Answer.TheVariants.{Refused}
use Rattle.walk.specs.Both.{stage2_fits, both_fits, answer_2, answer}
use Rattle.walk.proofs.Laws.Refused.{refused_so_2, refused_so}

pub refused_2 : (ram : List ℕ) (base frames root ipa access : ℕ)
    → (answer_2 ram base frames root ipa access ≡ Refused) ↔ (stage2_fits (length ram) base frames root ipa access ≡ false)
refused_2 = refused_so_2

pub refused : (ram : List ℕ) (base frames root1 root2 va access el : ℕ)
    → (answer ram base frames root1 root2 va access el ≡ Refused)
    ↔ (both_fits (length ram) base frames root1 root2 access el ≡ false)
refused = refused_so
