-- Demand 3: "no guest reaches a table"; nor one that drains, nor a free frame, nor the monitor's.
-- Any steps of the slices from set-up; any frame of such a kind; any guest's number, access and byte of it.
use Rattle.std.specs.Prelude.{◌≡◌, ℕ}
use Rattle.model.specs.State.{KindOfFrame}
use Rattle.ledger.specs.Layout.{kind_of}
use Rattle.isolation_runs.specs.Slices.{Slices, Run, Begun}
use Rattle.isolation_runs.specs.Terms.{Hidden, Unreached}
use Rattle.isolation_runs.proofs.Laws.Runs.{always_fits}
use Rattle.isolation_runs.proofs.Isolation.Words.{unreached_so}

module _ {x y : Slices} (begun : Begun x) (run : Run x y) where
  pub hidden : (f : ℕ) (k : KindOfFrame) → kind_of y.ledger f ≡ k → Hidden k → Unreached y f
  hidden = unreached_so y (always_fits begun run)
