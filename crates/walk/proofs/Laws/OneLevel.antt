-- One level of a walk: what the descriptor comes to decides how the walk goes on, in either stage.
use Prim.Native.Nat.{ℕ, zero, suc, ◌+◌, ◌-◌, ◌%◌, ◌≤◌}
use mathlib.Core.Path.{◌≡◌, refl, sym, ap, ◌∙◌}
use mathlib.Core.Bool.{Bool, true, false, cond, ◌&&◌}
use native.Mathlib.Omega.{arith}
use lib.Dec.{eqb}
use Rattle.walk_descriptor.specs.declared.FaultKind.TheVariants.{Translation, NotModelled, AccessFlag, Permission}
use Rattle.walk_level.specs.declared.Step.{Step}
use Rattle.walk_level.specs.declared.Step.TheVariants.{Absent, Down, Output, Fail}
use Rattle.walk_descriptor.specs.Descriptor.{span, slot, bit, address, is_table, is_valid, is_modelled, last_level, low_bits}
use Rattle.walk_level.specs.Stage.{Stage, valid, leaf, meaning, walk_from}
use Rattle.walk_level.specs.Step.{step_of}

and_false : (x : Bool) → (x && false) ≡ false
and_false true = refl
and_false false = refl

module _ {A : Type 0} (s : Stage A) (ia : ℕ) (fetch : ℕ → ℕ → (ℕ → A) → A) where
  -- at level 3 no descriptor is a table, so it does not matter where a table would lead
  page_meaning : (d : ℕ) (below : ℕ → A) → valid s ia 3 d (leaf s ia 3 d) ≡ meaning s ia 3 d below
  unfolding meaning
  page_meaning d below =
      ap (λ (t : Bool). valid s ia 3 d (cond t (below (address d)) (leaf s ia 3 d))) (sym (and_false (eqb (low_bits d) 3)))

  pub one_level_last : (table : ℕ) (below : ℕ → A)
      → walk_from s ia fetch 0 table ≡ fetch 3 (slot 3 ia table) (λ d. meaning s ia 3 d below)
  unfolding walk_from
  one_level_last table below = ap (fetch 3 (slot 3 ia table)) (λ i d. page_meaning d below i)

  pub one_level_left : (left table : ℕ)
      → walk_from s ia fetch left table
      ≡ fetch (last_level - left) (slot (last_level - left) ia table)
      (λ d. meaning s ia (last_level - left) d (walk_from s ia fetch (left - 1)))
  unfolding walk_from
  one_level_left zero table = one_level_last table (walk_from s ia fetch 0)
  one_level_left (suc left) table =
      let same : left ≡ suc left - 1 = omega arith in
      ap (λ (k : ℕ). fetch (last_level - suc left) (slot (last_level - suc left) ia table)
      (λ d. meaning s ia (last_level - suc left) d (walk_from s ia fetch k))) same

  pub one_level : (level table : ℕ) → level ≤ last_level
      → walk_from s ia fetch (last_level - level) table
      ≡ fetch level (slot level ia table) (λ d. meaning s ia level d (walk_from s ia fetch (last_level - (level + 1))))
  one_level level table le =
      let up : last_level - (last_level - level) ≡ level = omega arith in
      let down : last_level - level - 1 ≡ last_level - (level + 1) = omega arith in
      one_level_left (last_level - level) table
      ∙ ap (λ (l : ℕ). fetch l (slot l ia table) (λ d. meaning s ia l d (walk_from s ia fetch (last_level - level - 1)))) up
      ∙ ap (λ (k : ℕ). fetch level (slot level ia table) (λ d. meaning s ia level d (walk_from s ia fetch k))) down

-- What a descriptor means is decided by its step, whatever is then made of it (h).
module _ {A B : Type 0} (s : Stage A) (ia level : ℕ) (below : ℕ → A) (h : A → B) (abort : B) where
  abbrev pub meaning_of_step : Step → B
  meaning_of_step Absent = abort
  meaning_of_step (Down t) = h (below t)
  meaning_of_step (Output o) = h (s.output o)
  meaning_of_step (Fail kind) = h (s.fault kind level)

  by_tests : (v m t f r : Bool) (d : ℕ)
      → h
      (cond v
      (cond m
      (cond t (below (address d))
      (cond f (s.fault AccessFlag level) (cond r (s.output (address d + ia % span level)) (s.fault Permission level))))
      (s.fault NotModelled level))
      (s.fault Translation level))
      ≡ meaning_of_step
      (cond v
      (cond m
      (cond t (Down (address d)) (cond f (Fail AccessFlag) (cond r (Output (address d + ia % span level)) (Fail Permission))))
      (Fail NotModelled))
      (Fail Translation))
  by_tests false m t f r d = refl
  by_tests true false t f r d = refl
  by_tests true true true f r d = refl
  by_tests true true false true r d = refl
  by_tests true true false false true d = refl
  by_tests true true false false false d = refl

  pub meaning_by_step : (d : ℕ) → h (meaning s ia level d below) ≡ meaning_of_step (step_of s.allows ia level d)
  unfolding step_of meaning valid leaf
  meaning_by_step d = by_tests (is_valid level d) (is_modelled level d) (is_table level d) (eqb (bit 10 d) 0) (s.allows d) d
