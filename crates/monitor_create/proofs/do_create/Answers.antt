-- The next free frame is cleared, taken, and the root.
use Rattle.monitor_create.proofs.Laws.Create.{create_end}
use native.Mathlib.Omega.{arith}
use Rattle.monitor_create.proofs.do_create.Goals as goal

pub returns : goal.returns
returns c = create_end c.requires.sound c.args.g c.requires.ledger_value c.next-t.result _ _ _ _ c.next-t.ensures.0 c.become_table.ensures
    c.clear_frame.ensures (omega (arith, c.clear_frame.auto)) c.set_existence.ensures c.set_root.ensures
