-- The number of its kind, and its guest.
use Rattle.ledger_free.proofs.Laws.Moves.{page_taken}
use Rattle.ledger_free.proofs.become_page.Goals as goal

pub returns : goal.returns
returns c = page_taken _ c.requires.ledger_sound _ c.requires.f_bound c.requires.f_value c.occupy.ensures c.store_of_frame.ensures
