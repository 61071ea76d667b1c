-- After f turns, the test holds of the first f frames.
use mathlib.Core.Path.{◌≡◌}
use mathlib.Core.Bool.{true}
use Prim.Native.Nat.{ℕ, ◌<◌}
use Rattle.model.specs.Operations.{unshared}
use Rattle.ledger.specs.Layout.{state_of}
use Rattle.monitor_destroy.proofs.all_unshared.Given as goal

abbrev pub invariant-loop-f : goal.invariant-loop-f
invariant-loop-f l = (k : ℕ) → k < l.f → unshared (state_of l.ram l.ledger) k l.g ≡ true
