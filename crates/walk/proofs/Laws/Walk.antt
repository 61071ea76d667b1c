-- A turn of the loop over the levels, as the code of either stage sees it.
use Prim.Native.Nat.{ℕ, ◌+◌, ◌-◌, ◌≤◌, ◌<◌}
use mathlib.Core.Path.{◌≡◌, refl, sym, ap, subst, ◌∙◌}
use mathlib.Core.Bool.{Bool}
use mathlib.Core.List.{List, [], ◌∷◌}
use mathlib.Core.Option.{Option, none, some}
use native.Mathlib.Omega.{arith}
use lib.ListN.{length}
use Rattle.memory.specs.Ram.{address_end}
use Rattle.walk_descriptor.specs.declared.FaultKind.{FaultKind}
use Rattle.walk_descriptor.specs.declared.FaultKind.TheVariants.{WalkAbort}
use Rattle.walk.specs.declared.Answer.{Answer}
use Rattle.std.specs.Prelude.{Ok, Err}
use Rattle.std.specs.declared.ops.ControlFlow.TheVariants.{Continue, Break}
use Rattle.walk.specs.declared.Answer.TheVariants.{Found, Fault, During}
use Rattle.walk.specs.declared.stage_1.NextTable.{NextTable}
use Rattle.walk.specs.declared.stage_2.Reached.{Reached}
use Rattle.walk.specs.declared.stage_2.Failed.{Failed}
use Rattle.walk_level.specs.declared.Step.{Step}
use Rattle.walk_level.specs.declared.Step.TheVariants.{Absent, Down, Output, Fail}
use Rattle.walk_descriptor.specs.Descriptor.{slot, allows_1, allows_2, last_level, to_read}
use Rattle.walk_level.specs.Stage.{Stage, meaning}
use Rattle.walk.specs.Memory.{read_at}
use Rattle.walk.specs.Both.{Walked, ends, fetched_at, Stage2Result, reached, failed, BothResult, found, fault, during, by_result, through, as_answer, as_answer_2, rules_1, rules_2, fetch_1, fetch_2, stage_1, stage_2}
use Rattle.walk_level.specs.Step.{step_of}
use Rattle.walk.specs.Steps.{most_by_stage_2, most_by_level, Ended, LevelOutcome, step_read, step_at, with_count, as_ended, ended, answered, from_table_1, from_table_2, from_descriptor_1, ComesTo, LevelComesTo}
use Rattle.walk.proofs.Laws.OneLevel.{one_level, meaning_of_step, meaning_by_step}
use Rattle.walk.proofs.Laws.Counts.{after_stage_2, count_more, count_now, answered_through}
use Rattle.walk.proofs.Laws.Short.{LowEnd, ended_low, stage_2_short}
use Rattle.walk.proofs.Laws.Bounds.{InBounds, step_in_bounds}

-- `fails` is a failure of this stage, `out` what follows from its output address, and `below` from the next table;
-- n descriptors had been fetched before this one.
module _ {R A : Type 0} (say : R → ℕ → A) (fails : FaultKind → ℕ → R) (out below : ℕ → Walked R) (level n : ℕ) where
  abbrev pub after_step : Step → A
  after_step Absent = say (fails WalkAbort level) n
  after_step (Down t) = with_count say (n + 1) (below t)
  after_step (Output o) = with_count say (n + 1) (out o)
  after_step (Fail kind) = say (fails kind level) (n + 1)

  -- what is told of the walk from this level on, where its descriptor came to the step x
  pub record AfterStep (whole : A) (x : Step) : Type 0 where
    pub in_bounds : InBounds level x
    pub so : whole ≡ after_step x

  module _ (rights : ℕ → Bool) (ia a : ℕ) where
    abbrev rules : Stage (Walked R)
    rules = record { allows = rights; fault = λ kind l. ends (fails kind l); output = out }

    abbrev from_here : Option ℕ → Walked R
    from_here o = fetched_at a o (ends (fails WalkAbort level)) (λ d. meaning rules ia level d below)

    by_step : (x : Step) → meaning_of_step rules ia level below (with_count say (n + 1)) (say (fails WalkAbort level) n) x ≡ after_step x
    by_step Absent = refl
    by_step (Down t) = refl
    by_step (Output o) = refl
    by_step (Fail kind) = count_now say (n + 1) (fails kind level)

    by_read : (o : Option ℕ) → with_count say n (from_here o) ≡ after_step (step_read rights ia level o)
    by_read none = count_now say n (fails WalkAbort level)
    by_read (some d) =
        count_more say n (a ∷ []) (meaning rules ia level d below)
        ∙ meaning_by_step rules ia level below (with_count say (n + 1)) (say (fails WalkAbort level) n) d
        ∙ by_step (step_of rights ia level d)

    after_step_is : (m : List ℕ) (b : ℕ) → level ≤ last_level → {x : Step} → x ≡ step_at m b rights ia level a
        → AfterStep (with_count say n (from_here (read_at m b a))) x
    unfolding step_at
    after_step_is m b le visited =
        subst (AfterStep (with_count say n (from_here (read_at m b a)))) (sym visited)
        (record { in_bounds = step_in_bounds m b rights ia level a le; so = by_read (read_at m b a) })

module _ {R A : Type 0} {say : R → ℕ → A} {fails : FaultKind → ℕ → R} {out below : ℕ → Walked R} {level n : ℕ} {whole : A} {x : Step}
    (one_level : AfterStep say fails out below level n whole x) where
  at_step : {y : Step} → x ≡ y → AfterStep say fails out below level n whole y
  at_step e = subst (AfterStep say fails out below level n whole) e one_level

  pub lower : {t : ℕ} → x ≡ Down t → (level < last_level) × (t < address_end)
  lower e = (at_step e).in_bounds

  pub went_down : {t k : ℕ} → x ≡ Down t → n + 1 ≡ k → whole ≡ with_count say k (below t)
  went_down {t} e more = (at_step e).so ∙ ap (λ (i : ℕ). with_count say i (below t)) more

  pub went_out : {o : ℕ} → x ≡ Output o → whole ≡ with_count say (n + 1) (out o)
  went_out e = (at_step e).so

  pub went_wrong : {kind : FaultKind} → x ≡ Fail kind → whole ≡ say (fails kind level) (n + 1)
  went_wrong e = (at_step e).so

  pub was_absent : x ≡ Absent → whole ≡ say (fails WalkAbort level) n
  was_absent e = (at_step e).so

-- Stage 2.

module _ (m : List ℕ) (b access ipa level table n : ℕ) where
  pub after_step_2 : level ≤ last_level → {a : ℕ} → a ≡ slot level ipa table → {x : Step}
      → x ≡ step_at m b (allows_2 access) ipa level a
      → AfterStep as_ended failed (λ o. ends (reached o)) (from_table_2 m b access ipa (last_level - (level + 1))) level n
      (ended n (from_table_2 m b access ipa (last_level - level) table)) x
  unfolding rules_2 fetch_2
  after_step_2 le at {x} visited =
      let below = from_table_2 m b access ipa (last_level - (level + 1)) in
      subst (λ (whole : Ended). AfterStep as_ended failed (λ o. ends (reached o)) below level n whole x)
      (sym (ap (ended n) (one_level (rules_2 access) ipa (fetch_2 m b) level table le)))
      (after_step_is as_ended failed (λ o. ends (reached o)) below level n (allows_2 access) ipa (slot level ipa table) m b le
      (visited ∙ ap (step_at m b (allows_2 access) ipa level) at))

-- A turn of the loop of stage 2, which stands at a table from which the whole walk goes on as from its root.
pub turn_2 : (m : List ℕ) (b access ipa level table before : ℕ) {whole : Ended}
    → (level ≤ last_level) × (table < address_end)
    × (whole ≡ ended (before + level) (from_table_2 m b access ipa (last_level - level) table))
    → {a : ℕ} → a ≡ slot level ipa table → {x : Step} → x ≡ step_at m b (allows_2 access) ipa level a
    → AfterStep as_ended failed (λ o. ends (reached o)) (from_table_2 m b access ipa (last_level - (level + 1))) level (before + level)
    whole x
turn_2 m b access ipa level table before stands at visited =
    let here = after_step_2 m b access ipa level table (before + level) stands.0 at visited in
    record { in_bounds = here.in_bounds; so = stands.2 ∙ here.so }

pub from_root : (m : List ℕ) (b access ipa root before : ℕ)
    → ended before (stage_2 m b root access ipa) ≡ ended (before + 0) (from_table_2 m b access ipa 3 root)
unfolding stage_2
from_root m b access ipa root before = ap (λ (n : ℕ). ended n (from_table_2 m b access ipa 3 root)) (omega arith)

-- stage 2 as the last part of a walk: its end is the answer
abbrev pub told : Ended → Answer
told (Ok r) = Found (r.address) (r.fetched)
told (Err e) = Fault (e.kind) 2 (e.level) (e.fetched)

told_so : (r : Stage2Result) (k : ℕ) → told (as_ended r k) ≡ as_answer_2 r k
told_so (reached a) k = refl
told_so (failed kind level) k = refl

pub at_last : (n : ℕ) (w : Walked Stage2Result) {end : Ended} → end ≡ ended n w → told end ≡ with_count as_answer_2 n w
unfolding with_count
at_last n w e = ap told e ∙ told_so w.result (n + length w.fetched)

-- Stage 1: the descriptor's way through stage 2, and then the descriptor.

-- what follows from the output address
abbrev pub out_1 : List ℕ → ℕ → ℕ → ℕ → ℕ → Walked BothResult
out_1 m b root2 access ipa = through (stage_2 m b root2 access ipa) (λ kind level. fault kind 2 level) (λ a. ends (found a))

module _ (m : List ℕ) (b root2 access el va level : ℕ) where
  pub after_step_1 : (n a : ℕ) → level ≤ last_level → {x : Step} → x ≡ step_at m b (allows_1 access el) va level a
      → AfterStep as_answer (λ kind l. fault kind 1 l) (out_1 m b root2 access)
      (from_table_1 m b root2 access el va (last_level - (level + 1))) level n
      (answered n (from_descriptor_1 m b root2 access el va level a)) x
  unfolding from_descriptor_1 rules_1
  after_step_1 n a le =
      after_step_is as_answer (λ kind l. fault kind 1 l) (out_1 m b root2 access)
      (from_table_1 m b root2 access el va (last_level - (level + 1))) level n (allows_1 access el) va a m b le

  module _ (table n : ℕ) where
    -- where the way through stage 2 ended so
    pub record Arrived (way : Ended) : Type 0 where
      pub low : LowEnd n way
      pub so : answered n (from_table_1 m b root2 access el va (last_level - level) table)
          ≡ after_stage_2 (λ kind level2. during kind level2 level) (from_descriptor_1 m b root2 access el va level) way

    pub arrives : level ≤ last_level → {ipa : ℕ} → ipa ≡ slot level va table → {way : Ended}
        → way ≡ ended n (stage_2 m b root2 to_read ipa) → Arrived way
    unfolding fetch_1 from_descriptor_1
    arrives le at walked =
        let w = stage_2 m b root2 to_read (slot level va table) in
        subst Arrived (sym (walked ∙ ap (λ (i : ℕ). ended n (stage_2 m b root2 to_read i)) at))
        (record {
          low = ended_low n w (stage_2_short m b to_read (slot level va table) root2);
          so =
              ap (answered n) (one_level (rules_1 m b root2 access el) va (fetch_1 m b root2) level table le)
              ∙ answered_through (λ kind level2. during kind level2 level) (from_descriptor_1 m b root2 access el va level) n w;
        })

module _ {m : List ℕ} {b root2 access el va level table n : ℕ} {way : Ended}
    (arrived : Arrived m b root2 access el va level table n way) where
  at_end : {end : Ended} → way ≡ end → Arrived m b root2 access el va level table n end
  at_end e = subst (Arrived m b root2 access el va level table n) e arrived

  pub was_lost : {f : Failed} → way ≡ Err f
      → answered n (from_table_1 m b root2 access el va (last_level - level) table) ≡ During (f.kind) (f.level) level (f.fetched)
  was_lost e = (at_end e).so

  way_low : {r : Reached} → way ≡ Ok r → (r.address < address_end) × (r.fetched ≤ n + most_by_stage_2)
  way_low e = (at_end e).low

  pub followed : {r : Reached} → way ≡ Ok r → {x : LevelOutcome}
      → LevelComesTo m b root2 access el va level (r.fetched + 1)
      (answered (r.fetched) (from_descriptor_1 m b root2 access el va level (r.address))) x
      → LevelComesTo m b root2 access el va level (n + most_by_level)
      (answered n (from_table_1 m b root2 access el va (last_level - level) table)) x
  followed {r} e {x} turns = record { so = by_turn x turns.so }
    where
      by_turn : (y : LevelOutcome) → ComesTo m b root2 access el va level (r.fetched + 1)
          (answered (r.fetched) (from_descriptor_1 m b root2 access el va level (r.address))) y
          → ComesTo m b root2 access el va level (n + most_by_level)
          (answered n (from_table_1 m b root2 access el va (last_level - level) table)) y
      by_turn (Break answer) h = h ∙ sym (at_end e).so
      by_turn (Continue next) h = let low = (way_low e).1 in let few = h.2 in (h.0, h.1, omega arith, (at_end e).so ∙ h.3)

-- stage 2 as the last part of stage 1
by_last : (r : Stage2Result) (k : ℕ) → answered k (by_result r (λ kind level. fault kind 2 level) (λ a. ends (found a))) ≡
    as_answer_2 r k
by_last (reached a) k = count_now as_answer k (found a)
by_last (failed kind level) k = count_now as_answer k (fault kind 2 level)

pub answered_last : (n : ℕ) (w : Walked Stage2Result)
    → answered n (through w (λ kind level. fault kind 2 level) (λ a. ends (found a))) ≡ with_count as_answer_2 n w
unfolding with_count
answered_last n w =
    count_more as_answer n w.fetched (by_result w.result (λ kind level. fault kind 2 level) (λ a. ends (found a)))
    ∙ by_last w.result (n + length w.fetched)

module _ {m : List ℕ} {b root2 access el va level most : ℕ} {whole : Answer} {x : LevelOutcome}
    (turns : LevelComesTo m b root2 access el va level most whole x) where
  at_turn : {y : LevelOutcome} → x ≡ y → ComesTo m b root2 access el va level most whole y
  at_turn e = (subst (LevelComesTo m b root2 access el va level most whole) e turns).so

  pub was_answered : {answer : Answer} → x ≡ Break answer → answer ≡ whole
  was_answered e = at_turn e

  pub went_on : {next : NextTable} → x ≡ Continue next
      → (level < last_level) × (next.table < address_end) × (next.fetched ≤ most)
      × (whole ≡ answered (next.fetched) (from_table_1 m b root2 access el va (last_level - (level + 1)) (next.table)))
  went_on e = at_turn e

pub answered_from : (m : List ℕ) (b root1 root2 va access el : ℕ)
    → answered 0 (stage_1 m b root1 root2 va access el) ≡ answered 0 (from_table_1 m b root2 access el va 3 root1)
unfolding stage_1
answered_from m b root1 root2 va access el = refl
