-- How an answer lies in the array that a C caller lends, and what the caller is told by it.
-- A number that an answer does not have is 0.
use Rattle.std.specs.Prelude.{ℕ, ◌≡◌, Bool, cond, List, [], ◌∷◌, ◌++◌, length, drop, ltb}
use Rattle.walk_descriptor.specs.declared.FaultKind.{FaultKind}
use Rattle.walk_descriptor.specs.declared.FaultKind.TheVariants.{WalkAbort, Translation, NotModelled, AccessFlag, Permission}
use Rattle.walk.specs.declared.Answer.{Answer}
use Rattle.walk.specs.declared.Answer.TheVariants.{Found, Fault, During, Refused}
use Rattle.monitor_query.specs.declared.FrameKind.{FrameKind}
use Rattle.monitor_query.specs.declared.FrameKind.TheVariants.{Outside, Monitor, Free, Table, Draining, Page}
use Rattle.monitor_query.specs.declared.GuestKind.{GuestKind}
use Rattle.monitor_query.specs.declared.GuestKind.TheVariants.{Nobody, Absent, Present}
use Rattle.c_answers.specs.Numbers as C

abbrev pub kind_number : FaultKind → ℕ
kind_number WalkAbort = C.walk_abort
kind_number Translation = C.translation
kind_number NotModelled = C.not_modelled
kind_number AccessFlag = C.access_flag
kind_number Permission = C.permission

-- enum pageledger_answer: the places of a walk's answer, from 0 on
abbrev pub walk_places : (what address kind stage level of fetched : ℕ) → List ℕ
walk_places what address kind stage level of fetched = what ∷ address ∷ kind ∷ stage ∷ level ∷ of ∷ fetched ∷ []

-- enum pageledger_frame_answer and enum pageledger_guest_answer: three places both
abbrev pub state_places : (what second third : ℕ) → List ℕ
state_places what second third = what ∷ second ∷ third ∷ []

abbrev pub walk_answer : Answer → List ℕ
walk_answer (Found address fetched) = walk_places C.found address 0 0 0 0 fetched
walk_answer (Fault kind stage level fetched) = walk_places C.fault 0 (kind_number kind) stage level 0 fetched
walk_answer (During kind level of fetched) = walk_places C.during 0 (kind_number kind) 2 level of fetched
walk_answer Refused = walk_places C.refused 0 0 0 0 0 0

-- what a frame is, the guest whose table or page it is or for whom it drains, and of a page the number of places where it is mapped
abbrev pub frame_answer : FrameKind → List ℕ
frame_answer Outside = state_places C.frame_outside 0 0
frame_answer Monitor = state_places C.frame_monitor 0 0
frame_answer Free = state_places C.frame_free 0 0
frame_answer (Table guest) = state_places C.frame_table guest 0
frame_answer (Draining guest) = state_places C.frame_draining guest 0
frame_answer (Page owner places) = state_places C.frame_page owner places

abbrev pub flag : Bool → ℕ
flag holds = cond holds 1 0

-- what a guest is, its root table's physical address, and whether it is dirty
abbrev pub guest_answer : GuestKind → List ℕ
guest_answer Nobody = state_places C.guest_nobody 0 0
guest_answer (Absent dirty) = state_places C.guest_absent 0 (flag dirty)
guest_answer (Present root dirty) = state_places C.guest_present root (flag dirty)

-- What a caller is told by an answer of `count` numbers. They are at the start of its array, and what lay behind them is as before;
-- an array that is shorter is all as before, and the status says so.
pub record Tells (count : ℕ) (answer before : List ℕ) (status : ℕ) (after : List ℕ) : Type 0 where
  pub status_is : status ≡ cond (ltb (length before) count) C.short C.done
  pub array_is : after ≡ cond (ltb (length before) count) before (answer ++ drop count before)
