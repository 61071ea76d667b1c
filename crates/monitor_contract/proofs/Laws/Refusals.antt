-- Laws of specs/Refusals.
use mathlib.Core.Path.{◌≡◌}
use native.Mathlib.Omega.{arith}
use Rattle.std.specs.Prelude.{Result, Ok, Err, OnOk}
use Rattle.monitor_contract.specs.declared.refusals.Refusal.{Refusal}
use Rattle.monitor_contract.specs.declared.refusals.Refusal.TheVariants.{NoGuestNumber, GuestExists, NoFreeFrames, NoFrame, NoGuest, NotFree, NoPageAddress, NoRights, NotItsPage, MappedAlready, NotMapped, WithItself, StillUsed, Dirty}
use Rattle.monitor_contract.specs.Refusals.{refusal_number, answer_number}

-- no refusal is 0, which is the answer of what is done
pub positive : (refusal : Refusal) → refusal_number refusal ≡ 0 → ⊥
positive NoGuestNumber e = omega arith
positive GuestExists e = omega arith
positive NoFreeFrames e = omega arith
positive NoFrame e = omega arith
positive NoGuest e = omega arith
positive NotFree e = omega arith
positive NoPageAddress e = omega arith
positive NoRights e = omega arith
positive NotItsPage e = omega arith
positive MappedAlready e = omega arith
positive NotMapped e = omega arith
positive WithItself e = omega arith
positive StillUsed e = omega arith
positive Dirty e = omega arith

-- so what holds of an answer that refuses nothing holds where its number is 0
pub at_0 : {A P : Type 0} (answer : Result A Refusal) → OnOk answer P → answer_number answer ≡ 0 → P
at_0 (Ok x) h e = h
at_0 (Err refusal) h e = absurd (positive refusal e)
