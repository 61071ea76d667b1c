-- The last of the free ones in the set.
use Rattle.ledger.proofs.Laws.Sound.{next_is}
use Rattle.ledger_free.proofs.next.Goals as goal

pub returns : goal.returns
returns c = next_is c.args.ledger.now c.requires.ledger_sound c.free.result c.of_frame.result c.requires.ledger_nonzero c.free.ensures.0
    c.of_frame.ensures.0
