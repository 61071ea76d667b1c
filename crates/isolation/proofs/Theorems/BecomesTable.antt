-- Demand 3: "no guest reaches a table": nor does a frame become one while somebody reaches it.
-- Any steps of the slices from set-up, then one more, after which frame f is a table that it was not before: it was free, and nobody
-- reaches
-- a byte of it before the step or after it. While it is cleared, and until it is linked, the processor sees a free frame: hidden.
use Rattle.std.specs.Prelude.{◌≡◌, ℕ}
use Rattle.model.specs.State.{table}
use Rattle.ledger.specs.Layout.{kind_of}
use Rattle.isolation_runs.specs.Slices.{Slices, Step, Run, Begun}
use Rattle.isolation_runs.specs.Terms.{Laid}
use Rattle.isolation_runs.proofs.Laws.Runs.{always_fits}
use Rattle.isolation_runs.proofs.Isolation.Hands.{laid_so}

module _ {x y : Slices} (begun : Begun x) (run : Run x y) where
  pub becomes_table : {z : Slices} → Step y z → (f g h p : ℕ) → (kind_of y.ledger f ≡ table g h p → ⊥) →
      kind_of z.ledger f ≡ table g h p →
      Laid y z f
  becomes_table {z} s f g h p before after = laid_so y z (always_fits begun run) f g h p before after s
