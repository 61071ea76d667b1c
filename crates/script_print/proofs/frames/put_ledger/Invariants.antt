use Prim.Native.Nat.{◌*◌}
use Rattle.script_text.specs.Wrote.{Wrote}
use Rattle.ledger.specs.Layout.{state_of}
use Rattle.script_print.specs.Frame.{line_bytes, lines_to}
use Rattle.script_print.proofs.frames.put_ledger.Given as goal

abbrev pub invariant-loop-f : goal.invariant-loop-f
invariant-loop-f l = Wrote (line_bytes * l.f) l.initial.out l.at l.out l.next (lines_to (state_of l.ram l.ledger) l.f)
