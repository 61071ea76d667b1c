use Prim.Native.Nat.{◌*◌, ◌-◌}
use Rattle.script_text.specs.Wrote.{Wrote}
use Rattle.ledger.specs.Kinds.{share_code}
use Rattle.ledger.specs.Layout.{state_of}
use Rattle.monitor_query.specs.Questions.{share_told}
use Rattle.script_print.specs.Frame.{listed_guest_bytes, guest_list_to}
use Rattle.script_print.proofs.frames.put_guests.Given as goal

abbrev pub invariant-loop-g : goal.invariant-loop-g
invariant-loop-g l = Wrote (listed_guest_bytes * (l.g - 1)) l.initial.out l.at l.out l.next
    (guest_list_to (share_code l.least) (share_told (state_of l.ram l.ledger) l.f) (l.g - 1))
