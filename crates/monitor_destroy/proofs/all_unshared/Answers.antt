-- The test of all frames, from the test of each, or from one where it fails.
use mathlib.Core.Path.{◌∙◌, sym}
use Rattle.ledger.specs.Layout.{state_in}
use Rattle.monitor_destroy.proofs.Laws.Destroy.{all_holds, all_fails}
use native.Mathlib.Omega.{arith}
use Rattle.monitor_destroy.proofs.all_unshared.Goals as goal

pub returns-then-not-unshared : goal.returns-then-not-unshared
unfolding state_in
returns-then-not-unshared c = sym (all_fails _ _ c.loop-f.f (omega arith) (sym c.unshared.ensures ∙ c.if-not-unshared.true))

pub returns : goal.returns
unfolding state_in
returns c = sym (all_holds _ _ (λ k l. c.loop-f.invariant k (omega arith)))
