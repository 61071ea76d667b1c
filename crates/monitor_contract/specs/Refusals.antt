-- Document 03, section 2: the number of each refusal, as the operations' definitions answer it; and of an answer, which is 0 where nothing
-- is refused.
use Rattle.std.specs.Prelude.{◌≡◌, Bool, true, false, ℕ, Result, Ok, Err}
use Rattle.monitor_contract.specs.declared.refusals.Refusal.{Refusal}
use Rattle.monitor_contract.specs.declared.refusals.Refusal.TheVariants.{NoGuestNumber, GuestExists, NoFreeFrames, NoFrame, NoGuest, NotFree, NoPageAddress, NoRights, NotItsPage, MappedAlready, NotMapped, WithItself, StillUsed, Dirty}

abbrev pub refusal_number : Refusal → ℕ
refusal_number NoGuestNumber = 1
refusal_number GuestExists = 2
refusal_number NoFreeFrames = 3
refusal_number NoFrame = 4
refusal_number NoGuest = 5
refusal_number NotFree = 6
refusal_number NoPageAddress = 7
refusal_number NoRights = 8
refusal_number NotItsPage = 9
refusal_number MappedAlready = 10
refusal_number NotMapped = 11
refusal_number WithItself = 12
refusal_number StillUsed = 13
refusal_number Dirty = 14

abbrev pub answer_number : {A : Type 0} → Result A Refusal → ℕ
answer_number (Ok _) = 0
answer_number (Err refusal) = refusal_number refusal

-- what a test of the code has found: it holds, or it fails and is refused so
abbrev pub Tested : Bool → Refusal → Result Unit Refusal → Type 0
Tested b refusal (Ok _) = b ≡ true
Tested b refusal (Err e) = (e ≡ refusal) × (b ≡ false)
