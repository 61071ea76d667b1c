-- The guest's row is there.
use Rattle.ledger.proofs.Laws.Fields.{guest_low}
use Rattle.ledger.proofs.Laws.Sound.{guest_there}
use Rattle.monitor_query.proofs.root_address.Goals as goal

pub root-requires-clause-g_bound : goal.root-requires-clause-g_bound
root-requires-clause-g_bound c = (guest_low c.args.g
    (guest_there c.args.ram.now c.args.ledger.now c.requires.sound c.args.g c.requires.g_value)).1
