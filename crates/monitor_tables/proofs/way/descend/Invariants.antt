-- At each height the way from here on is the whole way.
use Rattle.ledger.specs.Layout.{state_of}
use Rattle.monitor_tables.specs.Way.{Reached}
use Rattle.monitor_tables.proofs.way.descend.Given as goal

abbrev pub invariant-loop-height : goal.invariant-loop-height
invariant-loop-height l = Reached (state_of l.ram l.ledger) l.g l.v l.height l.table
