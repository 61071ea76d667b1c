-- At first no row is filled.
use Rattle.ledger_free.proofs.Laws.Start.{filled_none}
use Rattle.ledger_free.proofs.start.fill.Goals as goal

pub loop-f-init : goal.loop-f-init
loop-f-init c = filled_none _ _ c.args.ledger.now _ c.requires.0 (c.fill.ensures.after (λ y e. e))
