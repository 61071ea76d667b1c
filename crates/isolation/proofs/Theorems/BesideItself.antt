-- The hypotheses on two computers can be met: whatever happens to the two slices of one can happen to those of another beside it.
use Rattle.std.specs.Prelude.{◌≡◌, refl, true, false, ◌⊎◌, ℕ}
use Rattle.std.proofs.Common.{sym, ◌∙◌, subst, inl, inr}
use Rattle.std.proofs.Math.Option.{some}
use Rattle.model.proofs.Laws.Base.{eq?, bool?}
use Rattle.model.specs.Operations.{done}
use Rattle.model.specs.Machine as M
use Rattle.model_noninterference.specs.TwoRunsTerms.{shown}
use Rattle.model_noninterference.specs.ApartTerms as T
use Rattle.model_noninterference.proofs.Invariant.ApartSteps.{shown_role}
use Rattle.model_noninterference.proofs.Invariant.ApartRuns.{Seen, step_apart, start_seen}
use Rattle.model_noninterference.proofs.Invariant.Beside.{itself, match_itself}
use Rattle.ledger.specs.Layout.{pick_of}
use Rattle.isolation_runs.specs.Calls.{Call}
use Rattle.isolation_runs.proofs.Laws.Calls.{defined_is}
use Rattle.isolation_runs.specs.Coarse as S
use Rattle.isolation_runs.specs.Coarse.{Slices, machine, Called, Stored, called, stored, Begun}
use Rattle.isolation_runs.proofs.Coarse.Steps.{Fit, step_fits}
use Rattle.isolation_runs.proofs.Coarse.Runs.{begun_is, begun_fits}
use Rattle.isolation_runs.proofs.Laws.Answered.{done_at_0}
use Rattle.isolation.specs.TwoComputers.{state, asked, first_calls, second_calls, both_call, first_stores, second_stores, both_store, RunsApart, stop, then}
use Rattle.isolation.proofs.Theorems.TwoComputers.{apart_is}

abbrev Beside : (g : ℕ) → T.Frames → Slices → Slices → Type 1
Beside g R x z = (R' : T.Frames) × RunsApart g R x x R' z z

-- each frame corresponds to itself alone
abbrev Diagonal : T.Frames → Type 0
Diagonal R = (f f' : ℕ) → R f f' → f ≡ f'

-- what happens after a step
abbrev Rest : (g : ℕ) (y z : Slices) → Type 1
Rest g y z = (R : T.Frames) → Seen g R (machine y) (machine y) → Diagonal R → Beside g R y z

module _ (g : ℕ) (x y z : Slices) (h : Fit x) (R : T.Frames) (p : Seen g R (machine x) (machine x)) (same : Diagonal R)
    (rest : Rest g y z) where
  module _ (c : Call) (r : ℕ) (a : Called c r x y) where
    alone : (T.concerns g (asked x c) ≡ false) ⊎ (r ≡ 0 → ⊥) → Beside g R x z
    alone w =
        let s1 = first_calls {R = R} {x = x} {y = x} {x' = y} c r a w in
        let s2 = second_calls {R = R} {x = y} {y = x} {y' = y} c r a w in
        let q = rest R (step_apart (apart_is g (step_fits h (called c r a)) h s2) (step_apart (apart_is g h h s1) p)) same in
        (q.0, then s1 (then s2 q.1))

    brought_same : (o : M.Operation) (f f' : ℕ) → T.brings o ≡ some f → T.brings o ≡ some f' → f ≡ f'
    brought_same o f f' a b = cc

    together : r ≡ 0 → T.concerns g (asked x c) ≡ true → Beside g R x z
    together e q =
        let b : Called c 0 x y = subst (λ (k : ℕ). Called c k x y) e a in
        let d : M.answer (state x) (asked x c) ≡ done (state y) = sym (defined_is c (state x) (pick_of x.ledger))
        ∙ done_at_0 c x.ram x.ledger b.answers refl in
        let s1 = both_call {R = R} {x = x} {y = x} {x' = y} {y' = y} c c b b
        (match_itself g R (machine x) p same (asked x c) q (state y) d) in
        let w = rest (T.after g R (asked x c) (asked x c) (state y) (state y)) (step_apart (apart_is g h h s1) p)
        (λ f f' w. elim w.0 [ inl k ↦ same f f' k | inr k ↦ brought_same (asked x c) f f' k.0 k.1 ]) in
        (w.0, then s1 w.1)

    both_called : Beside g R x z
    both_called = elim (eq? r 0) [
      | inl e ↦ elim (bool? (T.concerns g (asked x c))) [ inl q ↦ together e q | inr q ↦ alone (inl q) ]
      | inr e ↦ alone (inr e)
    ]

  both_stored : (k f o b : ℕ) → Stored k f o b x y → Beside g R x z
  both_stored k f o b a = elim (bool? (shown (state x) g f)) [ inl q ↦ seen q | inr q ↦ unseen q ]
    where
      seen : shown (state x) g f ≡ true → Beside g R x z
      seen q =
          let s1 = both_store {R = R} {x = x} {y = x} {x' = y} {y' = y} k k f f o b a a
          (itself g R (machine x) p same f (shown_role (state x) g f q)) in
          let w = rest R (step_apart (apart_is g h h s1) p) same in
          (w.0, then s1 w.1)

      unseen : shown (state x) g f ≡ false → Beside g R x z
      unseen q =
          let s1 = first_stores {R = R} {x = x} {y = x} {x' = y} k f o b a q in
          let s2 = second_stores {R = R} {x = y} {y = x} {y' = y} k f o b a q in
          let w = rest R (step_apart (apart_is g (step_fits h (stored k f o b a)) h s2) (step_apart (apart_is g h h s1) p)) same in
          (w.0, then s1 (then s2 w.1))

beside_from : (g : ℕ) {x z : Slices} → Fit x → S.Run x z → (R : T.Frames) → Seen g R (machine x) (machine x) → Diagonal R → Beside g R x z
beside_from g h S.stop R p same = (R, stop)
beside_from g {x} {z} h (S.then {y} (called c r a) more) R p same =
    both_called g x y z h R p same (beside_from g (step_fits h (called c r a)) more) c r a
beside_from g {x} {z} h (S.then {y} (stored k f o b a) more) R p same =
    both_stored g x y z h R p same (beside_from g (step_fits h (stored k f o b a)) more) k f o b a

pub beside_itself : (g : ℕ) {x z : Slices} → Begun x → S.Run x z → (R : T.Frames) × RunsApart g T.no_frames x x R z z
beside_itself g b r = beside_from g (begun_fits b) r T.no_frames (start_seen g (begun_is b) (begun_is b)) (λ f f' a. absurd a)
