-- The loop closed: the guest of space c is a program, and what it does next depends on what it has learnt so far and on nothing else. That
-- its stores are the same on both computers is not assumed, but follows. (model_two_computers, Programs: Loop)
-- Assumed: what it is told, as answers to what it asks for, is the same on both (3 and 6 may differ, as document 03 says); and where it
-- touches a page of which something waits for a report, it is served on both or on neither. Nothing is said of time.
use Rattle.std.specs.Prelude.{◌≡◌, refl, List, [], ℕ}
use Rattle.model_moves.specs.Machine.{Machine}
use Rattle.model_moves.specs.Terms.{Bounded, Start}
use Rattle.model_two_computers.specs.Terms.{Frames, no_frames, Two}
use Rattle.model_two_computers.proofs.Reading.{start_paired}
use Rattle.model_two_computers.specs.Programs.{News, Program, Loop}
use Rattle.model_two_computers.proofs.Acts.{loop_same}

-- The program learns the same on both computers, whatever others do on either.
pub learns_the_same : {p : Program} {c : ℕ} {R : Frames} {xs ys : List News} {m n y z : Machine} → Start m → Start n → Bounded m →
    Bounded n → Loop p c no_frames [] m [] n R xs y ys z → xs ≡ ys
learns_the_same {p} {c} u w by bz l = (loop_same p c refl (start_paired c u w) by bz l).0

-- And the two are as TwoComputers asks for: its theorems hold of them, with no assumption on c's stores.
pub as_there : {p : Program} {c : ℕ} {R : Frames} {xs ys : List News} {m n y z : Machine} → Start m → Start n → Bounded m → Bounded n →
    Loop p c no_frames [] m [] n R xs y ys z → Two c no_frames m n R y z
as_there {p} {c} u w by bz l = (loop_same p c refl (start_paired c u w) by bz l).1
