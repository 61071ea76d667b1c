-- The cell keeps its other number.
use Rattle.ledger.proofs.Laws.Stores.{share_changed}
use Rattle.ledger.proofs.frame.set_share.Goals as goal

pub returns : goal.returns
returns c = share_changed _ _ _ _ _ _ _ c.from.ensures c.cell-theirs.ensures.count c.set_cell.ensures
