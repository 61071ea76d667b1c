-- Document 03, section 4: a number's translations "are there until the report". So nothing is left of them when a guest gets the number.
-- Any steps of the slices from set-up, then create g, answered 0: nothing is kept for g before it, and after it g reaches nothing at all.
use Rattle.std.specs.Prelude.{ℕ}
use Rattle.model.specs.Cache.{Access}
use Rattle.isolation_runs.specs.Calls.{Create}
use Rattle.isolation_runs.specs.Slices.{Slices, Reaches, Called, called, Run, Begun}
use Rattle.isolation_runs.specs.Terms.{NothingKept}
use Rattle.isolation_runs.proofs.Laws.Steps.{step_fits}
use Rattle.isolation_runs.proofs.Laws.Runs.{are_runs, always_fits}
use Rattle.isolation_runs.proofs.Isolation.TakenOut.{nothing_so, unreached_new}
use Rattle.model_moves.proofs.Invariant.Always.{levels}

module _ {x y : Slices} (begun : Begun x) (run : Run x y) where
  pub nothing_kept : (z : Slices) (g : ℕ) → Called (Create g) 0 y z → NothingKept y g
  nothing_kept z g c = let r = are_runs begun run in nothing_so y z (always_fits begun run) g c (levels r.0 r.1)

  pub new_guest : (z : Slices) (g : ℕ) → Called (Create g) 0 y z → (w : Access) (a : ℕ) → Reaches z g w a → ⊥
  new_guest z g c = let h = always_fits begun run in unreached_new y z h g c (step_fits h (called (Create g) 0 c))
