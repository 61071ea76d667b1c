-- Before the turn of g, the guests below g share nothing.
use Rattle.ledger.proofs.Laws.Stores.{unshared_none, unshared_more, unshared_all}
use native.Mathlib.Omega.{arith}
use Rattle.ledger.proofs.frame.clear_shares.Goals as goal

pub loop-g-init : goal.loop-g-init
loop-g-init c = unshared_none _ c.requires.ledger_sound _ c.requires.f_bound

pub loop-g-preserved : goal.loop-g-preserved
loop-g-preserved c = unshared_more _ c.requires.ledger_sound _ c.requires.f_bound _ _ c.loop-g.invariant _ c.set_share.ensures

pub returns : goal.returns
returns c = unshared_all _ c.requires.ledger_sound _ c.requires.f_bound _ _ c.loop-g.invariant (omega (arith, c.loop-g.auto.g-end))
