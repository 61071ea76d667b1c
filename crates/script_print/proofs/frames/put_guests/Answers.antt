-- Before the turn of guest g the guests 1 to g - 1 are told.
use Prim.Native.Nat.{◌+◌, ◌-◌}
use mathlib.Core.Path.{◌≡◌}
use Rattle.model.specs.State.{guests}
use Rattle.ledger.specs.Kinds.{share_code}
use Rattle.ledger.specs.Layout.{state_of}
use Rattle.monitor_query.specs.Questions.{share_told}
use Rattle.script_print.proofs.Laws.Listing.{list_passed, list_more}
use native.Mathlib.Omega.{arith}
use Rattle.script_print.proofs.frames.put_guests.Goals as goal
use Rattle.script_print.proofs.frames.put_guests.Goals.{then-from-shared_with, else-from-shared_with}

pub loop-g-preserved : goal.loop-g-preserved
loop-g-preserved c =
    let shares = share_told (state_of c.args.ram.now c.args.ledger.now) c.args.f in
    let last : c.loop-g.g + 1 - 1 ≡ c.loop-g.g = omega arith in
    let one : c.loop-g.g - 1 + 1 ≡ c.loop-g.g = omega arith in
    rw last (elim c.if-from-shared_with.branch [
      | then-from-shared_with w ↦
          let least = rw c.from.ensures at w.if-from-shared_with.true in
          rw (w.out-is, w.next-is)
          (list_more (share_code c.args.least) shares _ _ one c.loop-g.invariant c.shared_with.ensures least
          w.put_listed_guest-next.ensures)
      | else-from-shared_with w ↦
          let less = rw c.from.ensures at w.if-from-shared_with.false in
          rw (w.out-is, w.next-is)
          (list_passed (share_code c.args.least) shares _ _ one c.loop-g.invariant c.shared_with.ensures less)
    ])

pub returns : goal.returns
returns c = let all : c.loop-g.g - 1 ≡ guests = omega arith in rw all at c.loop-g.invariant
