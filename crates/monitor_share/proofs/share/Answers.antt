-- The store is what is shared then.
use mathlib.Core.Path.{sym}
use Rattle.monitor_contract.proofs.Laws.Answers.{answered}
use Rattle.monitor_share.proofs.Laws.Share.{share_end}
use Rattle.monitor_share.proofs.share.Goals as goal

pub returns : goal.returns
returns c = answered (share_end c.requires c.args.g c.args.f c.args.h c.args.w (sym c.in_ok-check_share.ensures) _ _
    c.extent.ensures c.set_share.ensures)
