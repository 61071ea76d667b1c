-- unmap as an operation of the state, and the plan that the check makes for the doing: what the contracts cite.
use Rattle.std.specs.Prelude.{◌≡◌, true, ℕ, Result, Ok, Err, ◌/◌, ◌%◌}
use Rattle.std.proofs.Math.Option.{some}
use Rattle.model.specs.State.{State}
use Rattle.model.specs.Entry.{to_page}
use Rattle.model.specs.Translate.{entry_at, leaf}
use Rattle.model.specs.Operations.{refuse, page_address, unmap}
use Rattle.model.specs.Translate.{At}
use Rattle.model.specs.Invariant.{May}
use Rattle.monitor_contract.specs.Answers.{Operation}
use Rattle.monitor_contract.specs.declared.refusals.Refusal.{Refusal}
use Rattle.monitor_contract.specs.Refusals.{refusal_number}
use Rattle.monitor_unmap.specs.declared.Slot.{Slot}

abbrev pub unmapping : (a g : ℕ) → Operation
unmapping a g s pick = unmap s a g

-- the place that was found: entry a / 4096 % 512 of table t leads to f
pub record Slotted (s : State) (a g t f : ℕ) : Type 0 where
  pub exists : s.exists g ≡ true
  pub address : page_address a ≡ true
  pub leaf_is : leaf s g (a / 4096) ≡ some t
  pub serves : At s g 0 (a / 4096) t
  pub rights : ℕ
  pub leads : entry_at s t (a / 4096 % 512) ≡ to_page f rights
  pub may : May s g f rights

abbrev pub IsUnmapPlan : State → (a g : ℕ) → Result Slot Refusal → Type 0
IsUnmapPlan s a g (Err refusal) = unmap s a g ≡ refuse (refusal_number refusal)
IsUnmapPlan s a g (Ok slot) = Slotted s a g slot.table slot.frame
