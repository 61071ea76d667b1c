-- What the code's functions hand to each other, in the words of the definitions. No sentence of document 01 is decided here.
use Rattle.std.specs.Prelude.{ℕ, ◌+◌, ◌-◌, ◌<◌, ◌≤◌, ◌≡◌, Bool, List, length, Result, Ok, Err}
use Rattle.std.specs.declared.ops.ControlFlow.{ControlFlow}
use Rattle.std.specs.declared.ops.ControlFlow.TheVariants.{Continue, Break}
use Rattle.std.proofs.Math.Option.{Option, none, some}
use Rattle.memory.specs.Ram.{address_end}
use Rattle.walk.specs.declared.Answer.{Answer}
use Rattle.walk_descriptor.specs.declared.FaultKind.TheVariants.{WalkAbort}
use Rattle.walk_descriptor.specs.Descriptor.{last_level}
use Rattle.walk_level.specs.declared.Step.{Step}
use Rattle.walk_level.specs.declared.Step.TheVariants.{Absent}
use Rattle.walk.specs.declared.stage_1.NextTable.{NextTable}
use Rattle.walk.specs.declared.stage_2.Reached.{Reached}
use Rattle.walk.specs.declared.stage_2.Failed.{Failed}
use Rattle.walk.specs.Memory.{read_at}
use Rattle.walk_level.specs.Stage.{meaning, walk_from}
use Rattle.walk_level.specs.Step.{step_of}
use Rattle.walk.specs.Both.{Walked, ends, fetched_at, Stage2Result, reached, failed, BothResult, fault, as_answer, fetch_1, fetch_2, rules_1, rules_2}

-- Stage 2 fetches 4 descriptors at most, and a level of stage 1 one more. Before the last walk of stage 2 there were 20 at most.
abbrev pub most_by_stage_2 : ℕ
most_by_stage_2 = 4

abbrev pub most_by_level : ℕ
most_by_level = 5

abbrev pub most_before_last : ℕ
most_before_last = 20

abbrev pub step_read : (rights : ℕ → Bool) (ia level : ℕ) → Option ℕ → Step
step_read rights ia level none = Absent
step_read rights ia level (some d) = step_of rights ia level d

-- what the descriptor at the physical address a comes to
unfoldable pub step_at : (ram : List ℕ) (base : ℕ) (rights : ℕ → Bool) (ia level a : ℕ) → Step
step_at ram base rights ia level a = step_read rights ia level (read_at ram base a)

-- what is said of a walk before which some descriptors had been fetched: its result, and the number of all of them
unfoldable pub with_count : {R A : Type 0} → (say : R → ℕ → A) (before : ℕ) → Walked R → A
with_count say before w = say w.result (before + length w.fetched)

abbrev pub Ended : Type 0
Ended = Result Reached Failed

abbrev pub as_ended : Stage2Result → (fetched : ℕ) → Ended
as_ended (reached a) n = Ok (record { address = a; fetched = n })
as_ended (failed kind level) n = Err (record { kind = kind; level = level; fetched = n })

abbrev pub ended : (before : ℕ) → Walked Stage2Result → Ended
ended = with_count as_ended

abbrev pub answered : (before : ℕ) → Walked BothResult → Answer
answered = with_count as_answer

-- the rest of a walk from a table below which `left` levels are left
abbrev pub from_table_2 : (ram : List ℕ) (base access ipa left table : ℕ) → Walked Stage2Result
from_table_2 ram base access ipa left table = walk_from (rules_2 access) ipa (fetch_2 ram base) left table

abbrev pub from_table_1 : (ram : List ℕ) (base root2 access el va left table : ℕ) → Walked BothResult
from_table_1 ram base root2 access el va left table =
    walk_from (rules_1 ram base root2 access el) va (fetch_1 ram base root2) left table

-- the rest of stage 1 from the descriptor of a level, which was reached at the physical address a
unfoldable pub from_descriptor_1 : (ram : List ℕ) (base root2 access el va level a : ℕ) → Walked BothResult
from_descriptor_1 ram base root2 access el va level a =
    fetched_at a (read_at ram base a) (ends (fault WalkAbort 1 level))
    (λ d. meaning (rules_1 ram base root2 access el) va level d (from_table_1 ram base root2 access el va (last_level - (level + 1))))

abbrev pub LevelOutcome : Type 0
LevelOutcome = ControlFlow Answer NextTable

-- A level of stage 1 came to the answer, `whole`, or the walk goes on from the next table, and `most` descriptors at most were fetched.
module _ (ram : List ℕ) (base root2 access el va level most : ℕ) (whole : Answer) where
  abbrev pub ComesTo : LevelOutcome → Type 0
  ComesTo (Break x) = x ≡ whole
  ComesTo (Continue next) =
      (level < last_level) × (next.table < address_end) × (next.fetched ≤ most)
      × (whole ≡ answered (next.fetched) (from_table_1 ram base root2 access el va (last_level - (level + 1)) (next.table)))

  pub record LevelComesTo (x : LevelOutcome) : Type 0 where
    pub so : ComesTo x
