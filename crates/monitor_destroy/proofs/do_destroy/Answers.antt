-- Every frame of the guest drains; then the guest is no more, and dirty.
use Rattle.monitor_destroy.proofs.Laws.Destroy.{destroy_end}
use Rattle.monitor_destroy.proofs.do_destroy.Goals as goal

pub returns : goal.returns
returns c = destroy_end c.requires.sound c.args.g c.requires.g_value _ _ _ c.drain_all.ensures c.set_existence.ensures c.set_dirty.ensures
