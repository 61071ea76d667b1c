-- Each turn drains one frame more.
use Rattle.model.specs.Changes.{drained}
use Rattle.monitor_contract.specs.EachFrame.{without}
use Rattle.monitor_contract.proofs.Laws.EachFrame.{none_turned, one_more_turned, drain_turn}
use Rattle.monitor_destroy.proofs.drain_all.Goals as goal

pub loop-f-init : goal.loop-f-init
loop-f-init c = none_turned (drained c.args.g) (without c.args.g) _ c.requires.ledger_sound

pub loop-f-preserved : goal.loop-f-preserved
loop-f-preserved c = one_more_turned (drained c.args.g) (without c.args.g) _ c.loop-f.invariant
    (drain_turn _ _ c.drain.ensures c.set_count.ensures)
