-- The two halves of a pair of runs are runs; and the hypotheses on two runs can be met: every run stands beside itself.
use mathlib.Core.Path.{◌≡◌, refl, sym}
use mathlib.Core.Bool.{Bool, true, false, cond}
use mathlib.Core.Logic.{◌⊎◌, inl, inr}
use mathlib.Core.Option.{some}
use Prim.Native.Nat.{ℕ, ◌<◌}
use native.Mathlib.Omega.{arith}
use lib.Dec.{eqb, ltb}
use borrow.Author.Tests.{eqb-true, ltb-true, le-leb, eq-eqb}
use Rattle.model.proofs.Laws.Base.{bool?, and_true}
use Rattle.model.specs.State.{State, page, is_page_of}
use Rattle.model.specs.Operations.{done, map, unshare, take}
use Rattle.model.specs.Machine.{Machine, Operation, Create, Give, Take, Map, Unmap, Share, Unshare, Destroy, Invalidated, answer, call, write, calls, stores, Run, stop, then, SetUp}
use Rattle.model_noninterference.specs.TwoRunsTerms.{shown, answered, Stores, both_call, both_store, first_stores, second_stores, TwoRuns, stop as stop_two, then as then_two}
use Rattle.model_noninterference.specs.ApartTerms.{concerns, Frames, Matches, creates, gives, takes, maps, unmaps, lends, unlends, destroys, reports, brings, after, Apart, first_calls as first_calls_apart, second_calls as second_calls_apart, both_call as both_call_apart, first_stores as first_stores_apart, second_stores as second_stores_apart, both_store as both_store_apart, RunsApart, stop as stop_apart, then as then_apart, no_frames}
use Rattle.model.proofs.Invariant.Kinds.{page_of_is}
use Rattle.model.proofs.Invariant.Answer.{Then, then_done, then_is, checked, may_is}
use Rattle.model_noninterference.proofs.Invariant.Alike.{stores_step}
use Rattle.model_noninterference.proofs.Invariant.Apart.{role, role_of}
use Rattle.model_noninterference.proofs.Invariant.ApartSteps.{shown_role}
use Rattle.model_noninterference.proofs.Invariant.ApartAnswers.{may_role}
use Rattle.model_noninterference.proofs.Invariant.ApartRuns.{Seen, step_apart, done_is, start_seen}

-- each half is a run
pub halves : {g : ℕ} {y z y' z' : Machine} → TwoRuns g y z y' z' → Run y y' × Run z z'
halves stop_two = (stop, stop)
halves (then_two (both_call o ch ch' x) r) = let w = halves r in (then (calls o ch) w.0, then (calls o ch') w.1)
halves (then_two (both_store h f o x a b) r) = let w = halves r in (then (stores_step a) w.0, then (stores_step b) w.1)
halves (then_two (first_stores h f o x a e) r) = let w = halves r in (then (stores_step a) w.0, w.1)
halves (then_two (second_stores h f o x a e) r) = let w = halves r in (w.0, then (stores_step a) w.1)

-- a step of the two, before what is left of each half
half_steps : {g : ℕ} {R : Frames} {y z : Machine} {R' : Frames} {y' z' a b : Machine} → Apart g R y z R' y' z' → Run y' a × Run z' b →
    Run y a × Run z b
half_steps (first_calls_apart o ch e) w = (then (calls o ch) w.0, w.1)
half_steps (second_calls_apart o ch e) w = (w.0, then (calls o ch) w.1)
half_steps (both_call_apart o o' ch ch' a b m) w = (then (calls o ch) w.0, then (calls o' ch') w.1)
half_steps (first_stores_apart h f o x a e) w = (then (stores_step a) w.0, w.1)
half_steps (second_stores_apart h f o x a e) w = (w.0, then (stores_step a) w.1)
half_steps (both_store_apart h h' f f' o x a b e) w = (then (stores_step a) w.0, then (stores_step b) w.1)

pub halves_apart : {g : ℕ} {R R' : Frames} {y z y' z' : Machine} → RunsApart g R y z R' y' z' → Run y y' × Run z z'
halves_apart stop_apart = (stop, stop)
halves_apart (then_apart x r) = half_steps x (halves_apart r)

-- every run beside itself
pub beside : (g : ℕ) {y z : Machine} → Run y z → TwoRuns g y y z z
beside g stop = stop_two
beside g (then (calls o ch) r) = then_two (both_call o ch ch (λ f x a i l. refl)) (beside g r)
beside g (then (stores {m} h f o x a b c d e) r) =
    let s : Stores m h f o x = record { lives = a; in_ram = b; in_frame = c; is_byte = d; reaches = e } in
    then_two (both_store h f o x s s) (beside g r)

-- what take, map and unshare name is something that g may read
module _ (g : ℕ) (s : State) where
  taken_role : (f : ℕ) (s' : State) → answer s (Take f g) ≡ done s' → role_of s g f ≡ 0 → ⊥
  taken_role f s' e n = let z : ◌≡◌ {A = ℕ} 1 0 = rw (then_is (answer s (Take f g)) s' was e, eq-eqb g g refl) at n in omega arith
    where
      was : Then (λ s'. s.kind f ≡ page g) (answer s (Take f g))
      was = unfold answer take in checked 5 λ e1. checked 4 λ e2. checked 9 λ e3. checked 13 λ e4. then_done (page_of_is (s.kind f) g e3)

  mapped_role : (f a r : ℕ) (pick : ℕ → ℕ) (s' : State) → answer s (Map f g a r pick) ≡ done s' → role_of s g f ≡ 0 → ⊥
  mapped_role f a r pick s' e = then_is (answer s (Map f g a r pick)) s' was e
    where
      was : Then (λ s'. role_of s g f ≡ 0 → ⊥) (answer s (Map f g a r pick))
      was = unfold answer map in checked 5 λ e1. checked 14 λ e2. checked 7 λ e3. checked 8 λ e4. checked 4 λ e5. checked 9 λ e6.
          checked 10 λ e7. checked 3 λ e8. then_done (may_role s g f r (inl (may_is s g f r e6)))

  lent_role : (o how : ℕ) → 0 < how → role g (page o) how ≡ 0 → ⊥
  lent_role o how l n = go (eqb o g) (rw (le-leb 1 how (omega arith)) at n)
    where
      go : (b : Bool) → ◌≡◌ {A = ℕ} (cond b 1 2) 0 → ⊥
      go true e = omega arith
      go false e = omega arith

  unlent_role : (o f : ℕ) (s' : State) → answer s (Unshare o f g) ≡ done s' → role_of s g f ≡ 0 → ⊥
  unlent_role o f s' e n = let w = then_is (answer s (Unshare o f g)) s' was e in lent_role o (s.shared f g) w.1 (rw w.0 at n)
    where
      was : Then (λ s'. (s.kind f ≡ page o) × (0 < s.shared f g)) (answer s (Unshare o f g))
      was = unfold answer unshare in checked 5 λ e1. checked 4 λ e2. checked 9 λ e3. checked 13 λ e4. checked 14 λ e5.
          let w = and_true (is_page_of (s.kind f) o) (ltb 0 (s.shared f g)) e3 in then_done
          (page_of_is (s.kind f) o w.0, ltb-true 0 (s.shared f g) w.1)

-- each frame corresponds to itself
module _ (g : ℕ) (R : Frames) (m : Machine) (p : Seen g R m m) (same : (f f' : ℕ) → R f f' → f ≡ f') where
  pub itself : (f : ℕ) → (role_of m.state g f ≡ 0 → ⊥) → R f f
  itself f n = let w = p.covers.there f n in rw (sym (same f w.0 w.1)) at w.1

  abbrev pub Beside : Operation → Type 0
  Beside o = Matches g R m.state m.state o o

  pub match_itself : (o : Operation) → concerns g o ≡ true → (s' : State) → answer m.state o ≡ done s' → Beside o
  match_itself (Create h pick) e s' d = let q = eqb-true h g e in rw q creates
  match_itself (Give f h) e s' d = let q = eqb-true h g e in rw q gives
  match_itself (Take f h) e s' d = let q = eqb-true h g e in rw q (takes (itself f (taken_role g m.state f s' (rw q at d))))
  match_itself (Map f h a r pick) e s' d = let q = eqb-true h g e in rw q
      (maps (itself f (mapped_role g m.state f a r pick s' (rw q at d))))
  match_itself (Unmap a h) e s' d = let q = eqb-true h g e in rw q unmaps
  match_itself (Share o f h w) e s' d =
      let q = eqb-true h g e in
      rw q (elim (bool? (shown m.state g f)) [
        | inl x ↦ lends (inl (itself f (shown_role m.state g f x)))
        | inr x ↦ lends
            (inr (x, x, λ i l. refl))
      ])
  match_itself (Unshare o f h) e s' d = let q = eqb-true h g e in rw q (unlends (itself f (unlent_role g m.state o f s' (rw q at d))))
  match_itself (Destroy h) e s' d = let q = eqb-true h g e in rw q destroys
  match_itself (Invalidated h) e s' d = let q = eqb-true h g e in rw q reports

abbrev BesideItself : (g : ℕ) → Frames → Machine → Machine → Type 1
BesideItself g R y z = (R' : Frames) × RunsApart g R y y R' z z

beside_apart_from : (g : ℕ) {y z : Machine} → Run y z → (R : Frames) → Seen g R y y → ((f f' : ℕ) → R f f' → f ≡ f') →
    BesideItself g R y z
beside_apart_from g stop R p same = (R, stop_apart)
beside_apart_from g {z = z} (then (calls {m} o ch) r) R p same =
    go (beside_apart_from g r) (answered (answer m.state o)) refl (concerns g o) refl
  where
    IH : Type 1
    IH = (R : Frames) → Seen g R (call m o) (call m o) → ((f f' : ℕ) → R f f' → f ≡ f') → BesideItself g R (call m o) z

    alone : IH → (concerns g o ≡ false) ⊎ (answered (answer m.state o) ≡ false) → BesideItself g R m z
    alone ih w =
        let s1 = first_calls_apart {R = R} {y = m} {z = m} o ch w in
        let s2 = second_calls_apart {R = R} {y = call m o} {z = m} o ch w in
        let x = ih R (step_apart s2 (step_apart s1 p)) same in
        (x.0, then_apart s1 (then_apart s2 x.1))

    brought_same : (f f' : ℕ) → brings o ≡ some f → brings o ≡ some f' → f ≡ f'
    brought_same f f' a b = cc

    together : IH → answered (answer m.state o) ≡ true → concerns g o ≡ true → BesideItself g R m z
    together ih a e =
        let d = done_is (answer m.state o) a in
        let s1 = both_call_apart {R = R} {y = m} {z = m} o o ch ch a a (match_itself g R m p same o e d.0 d.1) in
        let x = ih (after g R o o (call m o).state (call m o).state) (step_apart s1 p)
        (λ f f' w. elim w.0 [ inl q ↦ same f f' q | inr q ↦ brought_same f f' q.0 q.1 ]) in
        (x.0, then_apart s1 x.1)

    go : IH → (b : Bool) → answered (answer m.state o) ≡ b → (d : Bool) → concerns g o ≡ d → BesideItself g R m z
    go ih false e d q = alone ih (inr e)
    go ih true e false q = alone ih (inl q)
    go ih true e true q = together ih e q
beside_apart_from g {z = z} (then (stores {m} h f o x a b c d e) r) R p same = go (beside_apart_from g r) (shown m.state g f) refl
  where
    IH : Type 1
    IH = (R : Frames) → Seen g R (write m f o x) (write m f o x) → ((f f' : ℕ) → R f f' → f ≡ f') → BesideItself g R (write m f o x) z

    s : Stores m h f o x
    s = record { lives = a; in_ram = b; in_frame = c; is_byte = d; reaches = e }

    go : IH → (t : Bool) → shown m.state g f ≡ t → BesideItself g R m z
    go ih true q =
        let s1 = both_store_apart {R = R} {y = m} {z = m} h h f f o x s s (itself g R m p same f (shown_role m.state g f q)) in
        let w = ih R (step_apart s1 p) same in
        (w.0, then_apart s1 w.1)
    go ih false q =
        let s1 = first_stores_apart {R = R} {y = m} {z = m} h f o x s q in
        let s2 = second_stores_apart {R = R} {y = write m f o x} {z = m} h f o x s q in
        let w = ih R (step_apart s2 (step_apart s1 p)) same in
        (w.0, then_apart s1 (then_apart s2 w.1))

pub beside_apart : (g : ℕ) {y z : Machine} → SetUp y → Run y z → (R : Frames) × RunsApart g no_frames y y R z z
beside_apart g x r = beside_apart_from g r no_frames (start_seen g x x) (λ f f' a. absurd a)
