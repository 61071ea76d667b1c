-- An address that is found is below 2^48 (document 01, section 1: physical addresses have 48 bits), by stage 2 alone and by both stages.
-- Any bytes, any numbers.
use Rattle.std.specs.Prelude.{ℕ, ◌<◌, List, ◌≡◌}
use Rattle.std.proofs.Common.{subst}
use Rattle.memory.specs.Ram.{address_end}
use Rattle.walk.specs.declared.Answer.TheVariants.{Found}
use Rattle.walk.specs.Both.{answer_2, answer}
use Rattle.walk.proofs.Laws.Answers.{answer_2_bounds, answer_bounds, Low}

pub found_low_2 : (ram : List ℕ) (base frames root ipa access a fetched : ℕ)
    → answer_2 ram base frames root ipa access ≡ Found a fetched → a < address_end
found_low_2 ram base frames root ipa access a fetched e = subst Low e (answer_2_bounds ram base frames root ipa access).low

pub found_low : (ram : List ℕ) (base frames root1 root2 va access el a fetched : ℕ)
    → answer ram base frames root1 root2 va access el ≡ Found a fetched → a < address_end
found_low ram base frames root1 root2 va access el a fetched e =
    subst Low e (answer_bounds ram base frames root1 root2 va access el).low
