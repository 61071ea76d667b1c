-- The number of an entry that leads to a page.
use Rattle.monitor_tables.proofs.Laws.Entries.{frame_there}
use Rattle.monitor_tables.proofs.entries.frame_in.Goals as goal

pub overflow_sub-result : goal.overflow_sub-result
overflow_sub-result c = (frame_there c.args.first c.args.x c.requires).0

pub returns : goal.returns
returns c = (frame_there c.args.first c.args.x c.requires).1
