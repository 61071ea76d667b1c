-- A walk of either stage, level by level: what is so of every fault and of every output address below 2^48 is so of the result,
-- and the number of descriptors adds up.
use Prim.Native.Nat.{ℕ, zero, suc, ◌+◌, ◌-◌, ◌≤◌, ◌<◌}
use mathlib.Core.Path.{◌≡◌, refl, sym, subst}
use mathlib.Core.Option.{Option, none, some}
use native.Mathlib.Omega.{arith}
use lib.ListN.{length, length-append}
use Rattle.memory.specs.Ram.{address_end}
use Rattle.walk_descriptor.specs.declared.FaultKind.{FaultKind}
use Rattle.walk_descriptor.specs.declared.FaultKind.TheVariants.{Translation}
use Rattle.walk_level.specs.declared.Step.{Step}
use Rattle.walk_level.specs.declared.Step.TheVariants.{Absent, Down, Output, Fail}
use Rattle.walk_descriptor.specs.Descriptor.{slot, last_level}
use Rattle.walk_level.specs.Stage.{Stage, meaning, walk_from}
use Rattle.walk_level.specs.Step.{step_of}
use Rattle.walk.specs.Both.{Walked, fetched_at, Stage2Result, reached, failed, by_result, through, BothResult}
use Rattle.walk.proofs.Laws.OneLevel.{meaning_of_step, meaning_by_step, one_level_last}
use Rattle.walk.proofs.Laws.Bounds.{InBounds, step_of_in_bounds}

pub record Within {R : Type 0} (ResultBounds : R → Type 0) (most : ℕ) (w : Walked R) : Type 0 where
  pub bounds : ResultBounds w.result
  pub few : length w.fetched ≤ most

module _ {R : Type 0} {ResultBounds : R → Type 0} where
  pub wider : {w : Walked R} {most more : ℕ} → most ≤ more → Within ResultBounds most w → Within ResultBounds more w
  wider le h = let few = h.few in record { bounds = h.bounds; few = omega arith }

  pub fetched_within : (a : ℕ) (o : Option ℕ) (abort : Walked R) (next : ℕ → Walked R) {most : ℕ}
      → Within ResultBounds 0 abort → ((d : ℕ) → Within ResultBounds most (next d))
      → Within ResultBounds (1 + most) (fetched_at a o abort next)
  fetched_within a none abort next first h = wider (omega arith) first
  fetched_within a (some d) abort next first h = let few = (h d).few in record { bounds = (h d).bounds; few = omega arith }

  module _ (s : Stage (Walked R)) (ia last : ℕ) (faults : (kind : FaultKind) (level : ℕ) → Within ResultBounds last (s.fault kind level))
      (outputs : (o : ℕ) → o < address_end → Within ResultBounds last (s.output o)) where
    by_step : (level most : ℕ) (below : ℕ → Walked R) → last ≤ most → ((t : ℕ) → Within ResultBounds most (below t)) → (x : Step)
        → InBounds level x
        → Within ResultBounds most (meaning_of_step s ia level below (λ w. w) (s.fault Translation level) x)
    by_step level most below le h Absent in_bounds = wider le (faults Translation level)
    by_step level most below le h (Down t) in_bounds = h t
    by_step level most below le h (Output o) in_bounds = wider le (outputs o in_bounds)
    by_step level most below le h (Fail kind) in_bounds = wider le (faults kind level)

    by_word : (level most : ℕ) (below : ℕ → Walked R) → level ≤ last_level → last ≤ most → ((t : ℕ) → Within ResultBounds most (below t))
        → (d : ℕ)
        → Within ResultBounds most (meaning s ia level d below)
    by_word level most below le lm h d =
        subst (Within ResultBounds most) (sym (meaning_by_step s ia level below (λ w. w) (s.fault Translation level) d))
        (by_step level most below lm h (step_of s.allows ia level d) (step_of_in_bounds ia level d le s.allows))

    -- `each` is what a level adds
    module _ (fetch : ℕ → ℕ → (ℕ → Walked R) → Walked R) (each : ℕ)
        (fetches : (level a most : ℕ) (next : ℕ → Walked R) → ((d : ℕ) → Within ResultBounds most (next d))
        → Within ResultBounds (each + most) (fetch level a next)) where
      abbrev pub all : ℕ → ℕ
      all zero = each + last
      all (suc left) = each + all left

      last_all : (left : ℕ) → last ≤ all left
      last_all zero = omega arith
      last_all (suc left) = let le = last_all left in omega arith

      pub walk_within : (left table : ℕ) → Within ResultBounds (all left) (walk_from s ia fetch left table)
      unfolding walk_from
      walk_within zero table =
          let out : ℕ → Walked R = λ t. s.fault Translation 3 in
          subst (Within ResultBounds (each + last)) (sym (one_level_last s ia fetch table out))
          (fetches 3 (slot 3 ia table) last (λ d. meaning s ia 3 d out)
          (by_word 3 last out (omega arith) (omega arith) (λ t. faults Translation 3)))
      walk_within (suc left) table =
          let level = last_level - suc left in
          fetches level (slot level ia table) (all left) (λ d. meaning s ia level d (walk_from s ia fetch left))
          (by_word level (all left) (walk_from s ia fetch left) (omega arith) (last_all left) (walk_within left))

-- a way through stage 2 adds what it fetched
module _ {ResultBounds : BothResult → Type 0} (fails : FaultKind → ℕ → BothResult) (next : ℕ → Walked BothResult) (most : ℕ)
    (lost : (kind : FaultKind) (level : ℕ) → ResultBounds (fails kind level)) where
  by_end : (r : Stage2Result) → ((a : ℕ) → r ≡ reached a → Within ResultBounds most (next a))
      → Within ResultBounds most (by_result r fails next)
  by_end (reached a) h = h a refl
  by_end (failed kind level) h = record { bounds = lost kind level; few = omega arith }

  pub through_within : {k : ℕ} (w : Walked Stage2Result) → length w.fetched ≤ k
      → ((a : ℕ) → w.result ≡ reached a → Within ResultBounds most (next a))
      → Within ResultBounds (k + most) (through w fails next)
  through_within w le h =
      let rest = by_end w.result h in
      let few = rest.few in
      record { bounds = rest.bounds; few = omega (arith, length-append w.fetched (by_result w.result fails next).fetched) }
