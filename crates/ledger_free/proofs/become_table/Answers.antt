-- The number of its kind, and three cells.
use Rattle.ledger_free.proofs.Laws.Moves.{table_taken}
use Rattle.ledger_free.proofs.become_table.Goals as goal

pub returns : goal.returns
returns c = table_taken _ c.requires.ledger_sound _ c.requires.f_bound c.requires.f_value c.occupy.ensures c.store_of_frame.ensures
    c.store_of_frame-2.ensures c.store_of_frame-3.ensures
