-- "At most four descriptors are fetched" by stage 2 alone (document 01, section 4), and at most 24 by both stages (section 5).
-- Any bytes, any numbers: tables may point at each other or at themselves.
use Rattle.std.specs.Prelude.{ℕ, ◌≤◌, List}
use Rattle.walk.specs.Both.{answer_2, answer, fetched_in}
use Rattle.walk.proofs.Laws.Answers.{answer_2_bounds, answer_bounds}

pub at_most_4 : (ram : List ℕ) (base frames root ipa access : ℕ) → fetched_in (answer_2 ram base frames root ipa access) ≤ 4
at_most_4 ram base frames root ipa access = (answer_2_bounds ram base frames root ipa access).few

pub at_most_24 : (ram : List ℕ) (base frames root1 root2 va access el : ℕ)
    → fetched_in (answer ram base frames root1 root2 va access el) ≤ 24
at_most_24 ram base frames root1 root2 va access el = (answer_bounds ram base frames root1 root2 va access el).few
