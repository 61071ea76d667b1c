-- Demand 2: "Taking a page out of a guest is complete."
-- Any steps of the slices from set-up; any frame of which nothing is counted for g, and g not dirty: g reaches no byte of it, neither by
-- its
-- tables nor by anything that was kept.
use Rattle.std.specs.Prelude.{◌≡◌, false, ℕ}
use Rattle.model.specs.Cache.{Access}
use Rattle.ledger.specs.Layout.{count_of, dirty_of}
use Rattle.isolation_runs.specs.Slices.{Slices, Reaches, Run, Begun}
use Rattle.isolation_runs.specs.Terms.{In}
use Rattle.isolation_runs.proofs.Laws.Runs.{always_fits}
use Rattle.isolation_runs.proofs.Isolation.TakenOut.{taken_so}

module _ {x y : Slices} (begun : Begun x) (run : Run x y) where
  pub taken_out : (f g : ℕ) → count_of y.ledger f g ≡ 0 → dirty_of y.ledger g ≡ false → (w : Access) (a : ℕ) → In y a f →
      Reaches y g w a → ⊥
  taken_out f g none clean = taken_so y (always_fits begun run) g clean f none
