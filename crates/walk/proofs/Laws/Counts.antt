-- How the numbers of descriptors fetched add up, and what an end of stage 2 says of the walk.
use Prim.Native.Nat.{ℕ, ◌+◌}
use mathlib.Core.Path.{◌≡◌, refl, ap, ◌∙◌}
use mathlib.Core.List.{List}
use native.Mathlib.Omega.{arith}
use lib.ListN.{length, length-append}
use Rattle.walk_descriptor.specs.declared.FaultKind.{FaultKind}
use Rattle.walk.specs.declared.Answer.{Answer}
use Rattle.std.specs.Prelude.{Ok, Err}
use Rattle.walk.specs.Both.{Walked, ends, having_fetched, Stage2Result, reached, failed, BothResult, by_result, through, as_answer}
use Rattle.walk.specs.Steps.{with_count, Ended, as_ended, ended, answered}

module _ {R A : Type 0} (say : R → ℕ → A) where
  pub count_more : (n : ℕ) (places : List ℕ) (w : Walked R)
      → with_count say n (having_fetched places w) ≡ with_count say (n + length places) w
  unfolding with_count
  count_more n places w = ap (say w.result) (omega (arith, length-append places w.fetched))

  pub count_now : (n : ℕ) (r : R) → with_count say n (ends r) ≡ say r n
  unfolding with_count
  count_now n r = ap (say r) (omega arith)

  -- the answer of a whole walk, where nothing was fetched before
  pub count_whole : (w : Walked R) → with_count say 0 w ≡ say w.result (length w.fetched)
  unfolding with_count
  count_whole w = ap (say w.result) (omega arith)

-- What the end of stage 2 says of the whole walk that went through it.
module _ (fails : FaultKind → ℕ → BothResult) (next : ℕ → Walked BothResult) where
  abbrev pub after_stage_2 : Ended → Answer
  after_stage_2 (Ok r) = answered (r.fetched) (next (r.address))
  after_stage_2 (Err e) = as_answer (fails (e.kind) (e.level)) (e.fetched)

  by_end : (r : Stage2Result) (k : ℕ) → answered k (by_result r fails next) ≡ after_stage_2 (as_ended r k)
  by_end (reached a) k = refl
  by_end (failed kind level) k = count_now as_answer k (fails kind level)

  pub answered_through : (n : ℕ) (w : Walked Stage2Result) → answered n (through w fails next) ≡ after_stage_2 (ended n w)
  unfolding with_count
  answered_through n w =
      count_more as_answer n w.fetched (by_result w.result fails next) ∙ by_end w.result (n + length w.fetched)
