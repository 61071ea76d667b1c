-- The cell keeps its other number.
use Rattle.ledger.proofs.Laws.Stores.{count_changed}
use Rattle.ledger.proofs.frame.set_count.Goals as goal

pub returns : goal.returns
returns c = count_changed _ _ _ _ _ _ c.cell-theirs.ensures.share c.set_cell.ensures
