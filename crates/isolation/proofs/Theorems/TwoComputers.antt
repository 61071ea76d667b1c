-- Demand 3, of the two slices: "What one guest can read depends on nothing another does, but for pages shared on purpose."
-- Two computers, each with its own two slices, set up with any numbers and any RAM. On each: any calls, and any guests' stores. The
-- calls that concern g and are answered with 0 are the same on both,
-- but for the numbers of frames (Matches); a byte that g may read is stored on both or on neither; everything else differs at will. What
-- g reads at each of its pages is then the same on both.
use Rattle.std.specs.Prelude.{◌≡◌, refl, true, false, ◌⊎◌, ◌↔◌, ℕ}
use Rattle.std.proofs.Common.{sym, ap, ◌∙◌, subst, inl, inr}
use Rattle.model.specs.Operations.{Out}
use Rattle.model.specs.Machine as M
use Rattle.model_noninterference.specs.TwoRunsTerms.{shown, SameBytes, answered, Stores}
use Rattle.model_noninterference.specs.ApartTerms as T
use Rattle.model_theorems.specs.TwoRunsApart as A
use Rattle.ledger.specs.Layout.{state_in, pick_of}
use Rattle.isolation_runs.proofs.Coarse.Joined.{joined}
use Rattle.isolation_runs.specs.Calls.{Call}
use Rattle.isolation_runs.proofs.Laws.Calls.{defined_is}
use Rattle.isolation_runs.specs.Coarse.{Slices, machine, Called, Stored, called, stored, Begun}
use Rattle.isolation_runs.specs.Coarse as S
use Rattle.isolation_runs.proofs.Coarse.Steps.{Fit, after_call, after_store, chosen_so}
use Rattle.isolation_runs.proofs.Coarse.Runs.{run_fits, begun_is, begun_fits}
use Rattle.isolation_runs.proofs.Laws.Answered.{done_at_0, unchanged_else}
use Rattle.isolation.specs.TwoComputers.{state, asked, Apart, first_calls, second_calls, both_call, first_stores, second_stores, both_store, RunsApart, stop, then}

-- what a call was answered with, in the model's words
was_done : (x x' : Slices) (c : Call) → Called c 0 x x' → answered (M.answer (state x) (asked x c)) ≡ true
was_done x x' c a = ap (λ (u : Out). answered u) (sym (defined_is c (state x) (pick_of x.ledger))
    ∙ done_at_0 c x.ram x.ledger a.answers refl)

was_quiet : (g : ℕ) (x x' : Slices) (c : Call) (r : ℕ) → Called c r x x' → (T.concerns g (asked x c) ≡ false) ⊎ (r ≡ 0 → ⊥) →
    (T.concerns g (asked x c) ≡ false) ⊎ (answered (M.answer (state x) (asked x c)) ≡ false)
was_quiet g x x' c r a (inl e) = inl e
was_quiet g x x' c r a (inr ne) = inr (ap (λ (u : Out). answered u)
    (sym (defined_is c (state x) (pick_of x.ledger)) ∙ (unchanged_else c x.ram x.ledger a.answers ne).0))

stores : (x x' : Slices) (h f o b : ℕ) → Stored h f o b x x' → Stores (machine x) h f o b
unfolding state_in
stores x x' h f o b a = record { lives = a.lives; in_ram = a.in_ram; in_frame = a.in_frame; is_byte = a.is_byte; reaches = a.reaches }

-- each step of the two is one of the model's
module _ (g : ℕ) where
  pub apart_is : {R : T.Frames} {x y : Slices} {R' : T.Frames} {x' y' : Slices} → Fit x → Fit y → Apart g R x y R' x' y' →
      T.Apart g R (machine x) (machine y) R' (machine x') (machine y')
  apart_is {R} {x} {y} {x'} hx hy (first_calls c r a quiet) =
      subst (λ (z : M.Machine). T.Apart g R (machine x) (machine y) R z (machine y)) (sym (after_call x x' c r a))
      (T.first_calls (asked x c) (chosen_so hx c) (was_quiet g x x' c r a quiet))
  apart_is {R} {x} {y} {y'} hx hy (second_calls c r a quiet) =
      subst (λ (z : M.Machine). T.Apart g R (machine x) (machine y) R (machine x) z) (sym (after_call y y' c r a))
      (T.second_calls (asked y c) (chosen_so hy c) (was_quiet g y y' c r a quiet))
  apart_is {R} {x} {y} {x'} {y'} hx hy (both_call c c' a b m) =
      subst (λ (z : M.Machine). T.Apart g R (machine x) (machine y) (T.after g R (asked x c) (asked y c') (state x') z.state)
      (machine x') z) (sym (after_call y y' c' 0 b))
      (subst (λ (z : M.Machine). T.Apart g R (machine x) (machine y)
      (T.after g R (asked x c) (asked y c') z.state (M.call (machine y) (asked y c')).state) z (M.call (machine y) (asked y c')))
      (sym (after_call x x' c 0 a))
      (T.both_call (asked x c) (asked y c') (chosen_so hx c) (chosen_so hy c') (was_done x x' c a) (was_done y y' c' b) m))
  apart_is {R} {x} {y} {x'} hx hy (first_stores h f o b a out) =
      subst (λ (z : M.Machine). T.Apart g R (machine x) (machine y) R z (machine y)) (sym (after_store x x' hx h f o b a))
      (T.first_stores h f o b (stores x x' h f o b a) out)
  apart_is {R} {x} {y} {y'} hx hy (second_stores h f o b a out) =
      subst (λ (z : M.Machine). T.Apart g R (machine x) (machine y) R (machine x) z) (sym (after_store y y' hy h f o b a))
      (T.second_stores h f o b (stores y y' h f o b a) out)
  apart_is {R} {x} {y} {x'} {y'} hx hy (both_store h h' f f' o b a a' same) =
      subst (λ (z : M.Machine). T.Apart g R (machine x) (machine y) R (machine x') z) (sym (after_store y y' hy h' f' o b a'))
      (subst (λ (z : M.Machine). T.Apart g R (machine x) (machine y) R z (M.write (machine y) f' o b))
      (sym (after_store x x' hx h f o b a))
      (T.both_store h h' f f' o b (stores x x' h f o b a) (stores y y' h' f' o b a') same))

-- each of the two runs as in all other theorems, step by step
firsts : {g : ℕ} {R : T.Frames} {x y : Slices} {R' : T.Frames} {x' y' : Slices} → Apart g R x y R' x' y' → S.Run x x'
firsts (first_calls c r a quiet) = S.then (called c r a) S.stop
firsts (second_calls c r a quiet) = S.stop
firsts (both_call c c' a b m) = S.then (called c 0 a) S.stop
firsts (first_stores h f o b a out) = S.then (stored h f o b a) S.stop
firsts (second_stores h f o b a out) = S.stop
firsts (both_store h h' f f' o b a a' same) = S.then (stored h f o b a) S.stop

seconds : {g : ℕ} {R : T.Frames} {x y : Slices} {R' : T.Frames} {x' y' : Slices} → Apart g R x y R' x' y' → S.Run y y'
seconds (first_calls c r a quiet) = S.stop
seconds (second_calls c r a quiet) = S.then (called c r a) S.stop
seconds (both_call c c' a b m) = S.then (called c' 0 b) S.stop
seconds (first_stores h f o b a out) = S.stop
seconds (second_stores h f o b a out) = S.then (stored h f o b a) S.stop
seconds (both_store h h' f f' o b a a' same) = S.then (stored h' f' o b a') S.stop

runs_are : {g : ℕ} {R R' : T.Frames} {x y x' y' : Slices} → Fit x → Fit y → RunsApart g R x y R' x' y' →
    T.RunsApart g R (machine x) (machine y) R' (machine x') (machine y')
runs_are hx hy stop = T.stop
runs_are {g} hx hy (then s r) = T.then (apart_is g hx hy s) (runs_are (run_fits hx (firsts s)) (run_fits hy (seconds s)) r)

-- The hypotheses: each half is a run as in all other theorems; and they can be met, see BesideItself.
pub are_runs : {g : ℕ} {R R' : T.Frames} {x y x' y' : Slices} → RunsApart g R x y R' x' y' → S.Run x x' × S.Run y y'
are_runs stop = (S.stop, S.stop)
are_runs (then s r) = let more = are_runs r in (joined (firsts s) more.0, joined (seconds s) more.1)

module _ {g : ℕ} {R : T.Frames} {x y x' y' : Slices} (first : Begun x) (second : Begun y)
    (runs : RunsApart g T.no_frames x y R x' y') where
  in_the_model : T.RunsApart g T.no_frames (machine x) (machine y) R (machine x') (machine y')
  in_the_model = runs_are (begun_fits first) (begun_fits second) runs

  -- by the tables, and by whatever the processor has kept
  pub same_reads : (v r : ℕ) (bytes : ℕ → ℕ) → T.Reads (machine x') g v r bytes ↔ T.Reads (machine y') g v r bytes
  same_reads = A.same_reads (begun_is first) (begun_is second) in_the_model

  -- by the tables alone
  pub same_reads_now : (v r : ℕ) (bytes : ℕ → ℕ) → T.ReadsNow (machine x') g v r bytes ↔ T.ReadsNow (machine y') g v r bytes
  same_reads_now = A.same_reads_now (begun_is first) (begun_is second) in_the_model

  -- each frame that g may read, mapped or not, has its counterpart, with the same bytes
  pub same_frames : (f : ℕ) → shown (state x') g f ≡ true → (f' : ℕ) × R f f' × (shown (state y') g f' ≡ true) ×
      SameBytes (state x') (state y') f f'
  same_frames = A.same_frames (begun_is first) (begun_is second) in_the_model
