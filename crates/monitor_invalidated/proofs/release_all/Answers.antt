-- Each turn releases one frame more.
use Rattle.model.specs.Changes.{released}
use Rattle.monitor_contract.specs.EachFrame.{same}
use Rattle.monitor_contract.proofs.Laws.EachFrame.{none_turned, one_more_turned, release_turn}
use Rattle.monitor_invalidated.proofs.release_all.Goals as goal

pub loop-f-init : goal.loop-f-init
loop-f-init c = none_turned (released c.args.g) same _ c.requires

pub loop-f-preserved : goal.loop-f-preserved
loop-f-preserved c = one_more_turned (released c.args.g) same _ c.loop-f.invariant (release_turn _ _ c.release.ensures)
