-- A free frame becomes a table, is cleared, and is linked in.
use Rattle.monitor_tables.proofs.Laws.NewTable.{make_end}
use native.Mathlib.Omega.{arith}
use Rattle.monitor_tables.proofs.new_table.make_table.Goals as goal

pub returns : goal.returns
returns c = make_end c.requires.growing c.requires.h_nonzero c.upper-p.ensures c.next-u.ensures.1 c.next-u.ensures.2 c.become_table.ensures
    c.next-u.ensures.0 _ c.clear_and_link.ensures (omega (arith, c.clear_and_link.auto))
