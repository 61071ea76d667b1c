-- Demand 3: "a page changes hands only when no cache can lead to it and its contents are gone".
-- Any run from Start, then any step after which frame f is a page of g and before which it was not: it was free, nobody reaches a byte of
-- it before the step nor after it, and it is all zero.
use Rattle.std.specs.Prelude.{◌≡◌, ℕ}
use Rattle.model_moves.specs.Spaces.{page}
use Rattle.model_moves.specs.Machine.{Machine, Step, Run}
use Rattle.model_moves.specs.Terms.{Start, Handed}
use Rattle.model_moves.proofs.Invariant.Hands.{handed}
use Rattle.model_moves.proofs.Invariant.Always.{good}

pub changes_hands : {m z z' : Machine} → Start m → Run m z → Step z z' → (f g : ℕ) →
    (z.spaces.kind f ≡ page g → ⊥) → z'.spaces.kind f ≡ page g → Handed z z' f
changes_hands st run t = handed (good st run) t
