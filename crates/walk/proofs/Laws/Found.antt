-- What both stages find, stage 2 found: whatever stands in the tables of stage 1, the address comes from a walk of stage 2 with the
-- original kind of access.
-- Any bytes, any numbers.
use Prim.Native.Nat.{ℕ}
use mathlib.Core.Path.{◌≡◌, subst}
use mathlib.Core.List.{List}
use Rattle.walk.specs.Both.{found, both}
use Rattle.walk.proofs.Laws.Answers.{ByStage2, ResultBounds, both_brief}

pub both_found : (m : List ℕ) (b root2 access el va p root1 : ℕ) → (both m b root1 root2 va access el).result ≡ found p
    → ByStage2 m b root2 access p
both_found m b root2 access el va p root1 e = (subst (ResultBounds m b root2 access) e (both_brief m b root2 access el va root1).bounds).1
