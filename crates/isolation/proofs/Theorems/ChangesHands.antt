-- Demand 3: "a page changes hands only when no cache can lead to it and its contents are gone".
-- Any steps of the slices from set-up, then one more, after which frame f is a page of g and before which it was not: f was free, nobody
-- reaches a byte of it before the step or after it, and each of its bytes is 0.
use Rattle.std.specs.Prelude.{◌≡◌, ℕ}
use Rattle.model.specs.State.{page}
use Rattle.ledger.specs.Layout.{kind_of}
use Rattle.isolation_runs.specs.Slices.{Slices, Step, Run, Begun}
use Rattle.isolation_runs.specs.Terms.{Handed}
use Rattle.isolation_runs.proofs.Laws.Runs.{always_fits}
use Rattle.isolation_runs.proofs.Isolation.Hands.{handed_so}

module _ {x y : Slices} (begun : Begun x) (run : Run x y) where
  pub changes_hands : {z : Slices} → Step y z → (f g : ℕ) → (kind_of y.ledger f ≡ page g → ⊥) → kind_of z.ledger f ≡ page g →
      Handed y z f
  changes_hands {z} s f g before after = handed_so y z (always_fits begun run) f g before after s
