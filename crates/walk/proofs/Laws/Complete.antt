-- The sentence on a complete walk: stage 1 makes five walks of stage 2, and each of these fetches four descriptors.
use Prim.Native.Nat.{ℕ, zero, suc, ◌+◌, ◌*◌, ◌-◌, ◌<◌}
use mathlib.Core.Path.{◌≡◌, refl, sym, ap, subst, ◌∙◌}
use mathlib.Core.List.{List, [], ◌∷◌}
use mathlib.Core.Option.{Option, none, some}
use native.Mathlib.Omega.{arith}
use borrow.Author.Tests.{lt-ltb}
use lib.ListN.{length, length-append}
use Rattle.memory.specs.Ram.{address_end}
use Rattle.walk_descriptor.specs.declared.FaultKind.TheVariants.{WalkAbort, Translation}
use Rattle.walk_level.specs.declared.Step.{Step}
use Rattle.walk_level.specs.declared.Step.TheVariants.{Absent, Down, Output, Fail}
use Rattle.walk.specs.Memory.{read_at}
use Rattle.walk_descriptor.specs.Descriptor.{slot, allows_1, last_level, to_read}
use Rattle.walk_level.specs.Stage.{meaning, walk_from}
use Rattle.walk.specs.Both.{Walked, ends, fetched_at, Stage2Result, reached, failed, BothResult, found, fault, during, by_result}
use Rattle.walk.specs.Both.{rules_1, fetch_1, stage_1, stage_2, both}
use Rattle.walk_level.specs.Step.{step_of}
use Rattle.walk.specs.Steps.{from_table_1}
use Rattle.walk.specs.Walks.{Walks, onward, read_on, rules_of_walks, fetch_of_walks, walks, EachFour}
use Rattle.walk.proofs.Laws.OneLevel.{meaning_of_step, meaning_by_step, one_level_last}

module _ (m : List ℕ) (b root2 access el va : ℕ) where
  -- n levels are left below this one; `ws` and `fs` are the two walks from there
  module _ (n level : ℕ) (ws : ℕ → Walks) (fs : ℕ → Walked BothResult)
      (below : (t : ℕ) → EachFour (ws t) → length (ws t) ≡ n + 1 → length (fs t).fetched ≡ 5 * n + 4) where
    by_step : (x : Step) (abort : Walked BothResult)
        → EachFour (meaning_of_step (rules_of_walks m b root2 access el) va level ws (λ l. l) [] x)
        → length (meaning_of_step (rules_of_walks m b root2 access el) va level ws (λ l. l) [] x) ≡ n + 1
        → length (meaning_of_step (rules_1 m b root2 access el) va level fs (λ w. w) abort x).fetched ≡ 5 * n + 4
    unfolding rules_of_walks rules_1
    by_step Absent abort each len = absurd (omega arith)
    by_step (Down t) abort each len = below t each len
    by_step (Output ipa) abort each len =
        let four = each.0 in
        let w = stage_2 m b root2 access ipa in
        let whole =
        length-append w.fetched
        (by_result w.result (λ kind level. fault kind 2 level) (λ a. ends (found a))).fetched in
        let last = nothing_more w.result in
        omega arith
      where
        nothing_more : (r : Stage2Result) → length (by_result r (λ kind level. fault kind 2 level) (λ a. ends (found a))).fetched ≡ 0
        nothing_more (reached a) = refl
        nothing_more (failed kind level) = refl
    by_step (Fail kind) abort each len = absurd (omega arith)

    by_word : (d : ℕ) → EachFour (meaning (rules_of_walks m b root2 access el) va level d ws)
        → length (meaning (rules_of_walks m b root2 access el) va level d ws) ≡ n + 1
        → length (meaning (rules_1 m b root2 access el) va level d fs).fetched ≡ 5 * n + 4
    unfolding rules_of_walks rules_1
    by_word d each len =
        let abort : Walked BothResult = ends (fault Translation 1 0) in
        let p = meaning_by_step (rules_of_walks m b root2 access el) va level ws (λ l. l) [] d in
        let q = meaning_by_step (rules_1 m b root2 access el) va level fs (λ w. w) abort d in
        ap (λ (w : Walked BothResult). length w.fetched) q
        ∙ by_step (step_of (allows_1 access el) va level d) abort (subst EachFour p each)
        (sym (ap length p) ∙ len)

    by_read : (a : ℕ) (o : Option ℕ)
        → EachFour (read_on o (λ d. meaning (rules_of_walks m b root2 access el) va level d ws))
        → length (read_on o (λ d. meaning (rules_of_walks m b root2 access el) va level d ws)) ≡ n + 1
        → length (fetched_at a o (ends (fault WalkAbort 1 level)) (λ d. meaning (rules_1 m b root2 access el) va level d fs)).fetched
        ≡ 5 * n + 5
    by_read a none each len = absurd (omega arith)
    by_read a (some d) each len = let h = by_word d each len in omega arith

    by_way : (r : Stage2Result)
        → EachFour (onward r (λ a. read_on (read_at m b a) (λ d. meaning (rules_of_walks m b root2 access el) va level d ws)))
        → length (onward r (λ a. read_on (read_at m b a) (λ d. meaning (rules_of_walks m b root2 access el) va level d ws))) ≡ n + 1
        → length
        (by_result r (λ kind level2. during kind level2 level)
        (λ a. fetched_at a (read_at m b a) (ends (fault WalkAbort 1 level))
        (λ d. meaning (rules_1 m b root2 access el) va level d fs))).fetched
        ≡ 5 * n + 5
    by_way (reached a) each len = by_read a (read_at m b a) each len
    by_way (failed kind level2) each len = absurd (omega arith)

    at_level : (ipa : ℕ)
        → EachFour (fetch_of_walks m b root2 level ipa (λ d. meaning (rules_of_walks m b root2 access el) va level d ws))
        → length (fetch_of_walks m b root2 level ipa (λ d. meaning (rules_of_walks m b root2 access el) va level d ws)) ≡ n + 2
        → length (fetch_1 m b root2 level ipa (λ d. meaning (rules_1 m b root2 access el) va level d fs)).fetched ≡ 5 * n + 9
    unfolding fetch_of_walks fetch_1
    at_level ipa each len =
        let w = stage_2 m b root2 to_read ipa in
        let four = each.0 in
        let more = by_way w.result each.1 (omega arith) in
        omega (
          arith,
          length-append w.fetched
              (by_result w.result (λ kind level2. during kind level2 level)
              (λ a. fetched_at a (read_at m b a) (ends (fault WalkAbort 1 level))
              (λ d. meaning (rules_1 m b root2 access el) va level d fs))).fetched,
        )

  from_left : (left table : ℕ)
      → EachFour (walk_from (rules_of_walks m b root2 access el) va (fetch_of_walks m b root2) left table)
      → length (walk_from (rules_of_walks m b root2 access el) va (fetch_of_walks m b root2) left table) ≡ left + 2
      → length (from_table_1 m b root2 access el va left table).fetched ≡ 5 * left + 9
  unfolding walk_from
  from_left zero table each len =
      let out : ℕ → Walks = λ ipa. stage_2 m b root2 access ipa ∷ [] in
      let p = one_level_last (rules_of_walks m b root2 access el) va (fetch_of_walks m b root2) table (λ t. []) in
      let q = one_level_last (rules_1 m b root2 access el) va (fetch_1 m b root2) table (λ t. ends (fault Translation 1 0)) in
      ap (λ (w : Walked BothResult). length w.fetched) q
      ∙ at_level 0 3 (λ t. []) (λ t. ends (fault Translation 1 0)) (λ t e l. absurd (omega arith)) (slot 3 va table)
      (subst EachFour p each) (sym (ap length p) ∙ len)
  from_left (suc left) table each len =
      let h =
      at_level (suc left) (last_level - suc left) (walk_from (rules_of_walks m b root2 access el) va (fetch_of_walks m b root2) left)
      (from_table_1 m b root2 access el va left)
      (λ t e l. let r = from_left left t e (omega arith) in omega arith) (slot (last_level - suc left) va table) each len in
      h

  pub stage_1_complete : (root1 : ℕ) → EachFour (walks m b root1 root2 va access el) → length (walks m b root1 root2 va access el) ≡ 5
      → length (stage_1 m b root1 root2 va access el).fetched ≡ 24
  unfolding walks stage_1
  stage_1_complete root1 each len = from_left 3 root1 each len

  pub both_complete : (root1 : ℕ) → va < address_end → EachFour (walks m b root1 root2 va access el)
      → length (walks m b root1 root2 va access el) ≡ 5 → length (both m b root1 root2 va access el).fetched ≡ 24
  unfolding both
  both_complete root1 low each len = simp (lt-ltb va address_end low) (stage_1_complete root1 each len)
