-- What is laid out is the state that set-up makes.
use mathlib.Core.Path.{sym}
use Rattle.monitor.proofs.Laws.SetUp.{set_up_end}
use Rattle.monitor.proofs.start.set_up.Goals as goal

pub returns : goal.returns
returns c = set_up_end _ _ _ _ _ (sym c.in_ok-check_set_up.ensures) _ c.lay_out.ensures
