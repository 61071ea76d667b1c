-- The page is cleared, taken, and shared with nobody.
use Rattle.monitor_give_take.proofs.Laws.Give.{give_end}
use native.Mathlib.Omega.{arith}
use Rattle.monitor_give_take.proofs.do_give.Goals as goal

pub returns : goal.returns
returns c = give_end c.requires.sound c.args.f c.args.g c.requires.g_value _ _ _ c.become_page.ensures c.clear_shares.ensures
    c.clear_frame.ensures
    (omega (arith, c.clear_frame.auto))
