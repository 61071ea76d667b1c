-- Operations for g that match, both answered: what g has after them corresponds again.
use mathlib.Core.Path.{◌≡◌, refl, sym, ap, ◌∙◌}
use mathlib.Core.Bool.{Bool, true, false, ◌&&◌, ◌||◌, cond}
use mathlib.Core.Logic.{◌⊎◌, inl, inr}
use mathlib.Core.Option.{Option, none, some}
use Prim.Native.Nat.{ℕ, ◌+◌, ◌<◌, ◌/◌}
use native.Mathlib.Omega.{arith}
use lib.Dec.{eqb, ltb, leb}
use borrow.Author.Tests.{ltb-true, le-leb, eq-eqb, ne_eqb}
use Rattle.model.proofs.Laws.Base.{eq?, bool?, and_true}
use Rattle.model.specs.Base.{upd}
use Rattle.model.proofs.Laws.Base.{upd_same}
use Rattle.model.specs.State.{State, free, page, draining_page, byte, page_count}
use Rattle.model.specs.Translate.{Page, translate}
use Rattle.model.specs.Changes.{zeros, becomes}
use Rattle.model.specs.Operations.{done, shares, give, share}
use Rattle.model.specs.Machine.{Machine, Operation, Give, Share, answer}
use Rattle.model.specs.Terms.{expected}
use Rattle.model_noninterference.specs.TwoRunsTerms.{shown, SameBytes}
use Rattle.model_noninterference.specs.ApartTerms.{Frames, Matches, creates, gives, takes, maps, unmaps, lends, unlends, destroys, reports, brings, after}
use Rattle.model.proofs.Invariant.Kinds.{free_is}
use Rattle.model.specs.Invariant.{May}
use Rattle.model.proofs.Invariant.Answer.{Then, then_done, then_is, checked}
use Rattle.model.proofs.Invariant.Holds.{Holds}
use Rattle.model.proofs.Invariant.Bytes.{bytes_zero}
use Rattle.model_noninterference.proofs.Invariant.Apart.{role, role_of, role_after, dirty_after}
use Rattle.model.proofs.Invariant.Reaching.{reported}
use Rattle.model_noninterference.proofs.Invariant.ApartKept.{Sane, sane_holds, now_kept}
use Rattle.model_noninterference.proofs.Invariant.ApartSteps.{Called, not_shown, is_shown, shown_role}
use Rattle.model_noninterference.proofs.Invariant.ApartFrames.{flip, Covers, same_eqb, new_eqb}

-- what is kept is something that g may read
shares_role : (g h how r : ℕ) → shares how r ≡ true → role g (page h) how ≡ 0 → ⊥
unfolding shares
shares_role g h how r e n =
    let l = ltb-true 0 how (and_true (ltb 0 how) (ltb r 4) (and_true (ltb 0 how && ltb r 4) (ltb r 2 || leb 2 how) e).0).0 in
    go (eqb h g) (rw (le-leb 1 how (omega arith)) at n)
  where
    go : (b : Bool) → ◌≡◌ {A = ℕ} (cond b 1 2) 0 → ⊥
    go true e = omega arith
    go false e = omega arith

pub may_role : (s : State) (g f r : ℕ) → May s g f r ⊎ (s.kind f ≡ draining_page g) → role_of s g f ≡ 0 → ⊥
may_role s g f r (inl (inl a)) n = let z : ◌≡◌ {A = ℕ} 1 0 = rw (a, eq-eqb g g refl) at n in omega arith
may_role s g f r (inl (inr a)) n = shares_role g a.0 (s.shared f g) r a.2 (rw a.1 at n)
may_role s g f r (inr a) n = let z : ◌≡◌ {A = ℕ} 3 0 = rw (a, eq-eqb g g refl) at n in omega arith

pub kept_role : {m : Machine} → Holds m → (g v f r : ℕ) → m.caches.page_kept g v (m.state.first + f) r → role_of m.state g f ≡ 0 → ⊥
kept_role {m} h g v f r a =
    let b = h.kept.page_ok g v (m.state.first + f) r a in
    let b1 = b.1 in
    let f= : b.0 ≡ f = omega arith in
    may_role m.state g f r (rw f= at b.2)

-- give and share, answered
given_was : (s : State) (f h : ℕ) (s' : State) → answer s (Give f h) ≡ done s' → s.kind f ≡ free
given_was s f h s' e = then_is (answer s (Give f h)) s' was e
  where
    was : Then (λ s'. s.kind f ≡ free) (answer s (Give f h))
    was = unfold answer give in checked 5 λ e1. checked 4 λ e2. checked 6 λ e3. then_done (free_is (s.kind f) e3)

given_bytes : (s : State) (f h : ℕ) (s' : State) → answer s (Give f h) ≡ done s' → (i : ℕ) → byte s' f i ≡ 0
given_bytes s f h s' e = then_is (answer s (Give f h)) s' clear e
  where
    clear : Then (λ s'. (i : ℕ) → byte s' f i ≡ 0) (answer s (Give f h))
    clear = unfold answer give in checked 5 λ e1. checked 4 λ e2. checked 6 λ e3. then_done (bytes_zero
        (becomes s f (page h) (upd s.word f zeros) (upd s.shared f zeros)) f
        (unfold becomes zeros in λ i. rw (upd_same s.word f zeros)))

lent_bytes : (s : State) (o f h w : ℕ) (s' : State) → answer s (Share o f h w) ≡ done s' → (i : ℕ) → byte s' f i ≡ byte s f i
lent_bytes s o f h w s' e = then_is (answer s (Share o f h w)) s' as_before e
  where
    as_before : Then (λ s'. (i : ℕ) → byte s' f i ≡ byte s f i) (answer s (Share o f h w))
    as_before =
        unfold answer share becomes byte in checked 5 λ e1. checked 12 λ e2. checked 4 λ e3. checked 9 λ e4. checked 13 λ e5.
        checked 14 λ e6. then_done (λ i. refl)

pub mirror : (g : ℕ) (R : Frames) (s s' : State) {o o' : Operation} → Matches g R s s' o o' → Matches g (flip R) s' s o' o
mirror g R s s' creates = creates
mirror g R s s' gives = gives
mirror g R s s' (takes x) = takes x
mirror g R s s' (maps x) = maps x
mirror g R s s' unmaps = unmaps
mirror g R s s' (lends (inl x)) = lends (inl x)
mirror g R s s' (lends (inr x)) = lends (inr (x.1, x.0, λ i l. sym (x.2 i l)))
mirror g R s s' (unlends x) = unlends x
mirror g R s s' destroys = destroys
mirror g R s s' reports = reports

module _ (g : ℕ) (R : Frames) (y z : Machine) (cy : Covers g R y z) (cz : Covers g (flip R) z y) where
  -- a frame that g gets: the two correspond already, or neither is seen
  given_new : (f f' : ℕ) (s₁ s₂ : State) → answer y.state (Give f g) ≡ done s₁ → answer z.state (Give f' g) ≡ done s₂ →
      (role_of y.state g f ≡ 0) × (role_of z.state g f' ≡ 0)
  given_new f f' s₁ s₂ e e' = (rw (given_was y.state f g s₁ e), rw (given_was z.state f' g s₂ e'))

  named : (f f' a b : ℕ) → R f f' ⊎ ((shown y.state g f ≡ false) × (shown z.state g f' ≡ false) ×
      SameBytes y.state z.state f f') → R a b → eqb a f ≡ eqb b f'
  named f f' a b (inl x) w = same_eqb g R y z cy cz f f' a b x w
  named f f' a b (inr x) w = new_eqb g R y z cy cz f f' a b (not_shown y.state g f x.0) (not_shown z.state g f' x.1) w

  -- what corresponds turns into the same
  same_turn : {o o' : Operation} → Matches g R y.state z.state o o' → (s₁ s₂ : State) → answer y.state o ≡ done s₁ →
      answer z.state o' ≡ done s₂ →
      (d : Bool) (a b k : ℕ) → R a b → role_after g d o a k ≡ role_after g d o' b k
  same_turn creates s₁ s₂ e e' d a b k w = refl
  same_turn (gives {f} {f'}) s₁ s₂ e e' d a b k w = let n = given_new f f' s₁ s₂ e e' in rw
      (new_eqb g R y z cy cz f f' a b n.0 n.1 w)
  same_turn (takes {f} {f'} x) s₁ s₂ e e' d a b k w = rw (same_eqb g R y z cy cz f f' a b x w)
  same_turn (maps x) s₁ s₂ e e' d a b k w = refl
  same_turn unmaps s₁ s₂ e e' d a b k w = refl
  same_turn (lends {o} {f} {f'} x) s₁ s₂ e e' d a b k w = rw (named f f' a b x w)
  same_turn (unlends {o} {f} {f'} x) s₁ s₂ e e' d a b k w = rw (same_eqb g R y z cy cz f f' a b x w)
  same_turn destroys s₁ s₂ e e' d a b k w = refl
  same_turn reports s₁ s₂ e e' d a b k w = refl

  -- what is brought becomes the same, whatever it was
  brought_turn : {o o' : Operation} → Matches g R y.state z.state o o' → (d : Bool) (a b k k' : ℕ) → brings o ≡ some a →
      brings o' ≡ some b → role_after g d o a k ≡ role_after g d o' b k'
  brought_turn creates d a b k k' p q = cc
  brought_turn (gives {f} {f'}) d a b k k' p q = let p' : a ≡ f = cc in let q' : b ≡ f' =
      cc in rw (eq-eqb a f p', eq-eqb b f' q', eq-eqb g g refl)
  brought_turn (takes x) d a b k k' p q = cc
  brought_turn (maps x) d a b k k' p q = cc
  brought_turn unmaps d a b k k' p q = cc
  brought_turn (lends {o} {f} {f'} x) d a b k k' p q = let p' : a ≡ f = cc in let q' : b ≡ f' =
      cc in rw (eq-eqb a f p', eq-eqb b f' q', eq-eqb g g refl)
  brought_turn (unlends x) d a b k k' p q = cc
  brought_turn destroys d a b k k' p q = cc
  brought_turn reports d a b k k' p q = cc

  -- nothing comes to g but what is brought, and both bring something
  brought : {o o' : Operation} → Matches g R y.state z.state o o' → (d : Bool) (a : ℕ) → role_of y.state g a ≡ 0 →
      (role_after g d o a 0 ≡ 0 → ⊥) → (b : ℕ) × (brings o ≡ some a) × (brings o' ≡ some b)
  brought creates d a e n = absurd (n refl)
  brought (gives {f} {f'}) d a e n = elim (eq? a f) [ inl p ↦ (f', ap some (sym p), refl) | inr p ↦ absurd (n (rw (ne_eqb a f p))) ]
  brought (takes {f} {f'} x) d a e n = elim (eq? a f) [
    | inl p ↦ absurd (cy.seen f f' x (ap (role_of y.state g) (sym p) ∙ e))
    | inr p ↦ absurd (n (rw (ne_eqb a f p)))
  ]
  brought (maps x) d a e n = absurd (n refl)
  brought unmaps d a e n = absurd (n refl)
  brought (lends {o} {f} {f'} x) d a e n = elim (eq? a f) [ inl p ↦ (f', ap some (sym p), refl) | inr p ↦ absurd (n (rw (ne_eqb a f p))) ]
  brought (unlends {o} {f} {f'} x) d a e n = elim (eq? a f) [
    | inl p ↦ absurd (cy.seen f f' x (ap (role_of y.state g) (sym p) ∙ e))
    | inr p ↦ absurd (n (rw (ne_eqb a f p)))
  ]
  brought destroys d a e n = absurd (n (rw (eq-eqb g g refl)))
  brought reports d a e n = absurd (n (rw (eq-eqb g g refl)))

  -- a frame that is brought corresponds to no other
  brought_single : {o o' : Operation} → Matches g R y.state z.state o o' → (s₁ s₂ : State) → answer y.state o ≡ done s₁ →
      answer z.state o' ≡ done s₂ →
      (a b b' : ℕ) → brings o ≡ some a → brings o' ≡ some b → R a b' → b' ≡ b
  brought_single creates s₁ s₂ e e' a b b' p q w = cc
  brought_single (gives {f} {f'}) s₁ s₂ e e' a b b' p q w =
      let p' : a ≡ f = cc in
      absurd (cy.seen a b' w (ap (role_of y.state g) p' ∙ (given_new f f' s₁ s₂ e e').0))
  brought_single (takes x) s₁ s₂ e e' a b b' p q w = cc
  brought_single (maps x) s₁ s₂ e e' a b b' p q w = cc
  brought_single unmaps s₁ s₂ e e' a b b' p q w = cc
  brought_single (lends {o} {f} {f'} (inl x)) s₁ s₂ e e' a b b' p q w =
      let p' : a ≡ f = cc in
      let q' : f' ≡ b = cc in
      cy.single f b' f' (rw p' at w) x ∙ q'
  brought_single (lends {o} {f} {f'} (inr x)) s₁ s₂ e e' a b b' p q w =
      let p' : a ≡ f = cc in
      absurd (cy.seen a b' w (ap (role_of y.state g) p' ∙ not_shown y.state g f x.0))
  brought_single (unlends x) s₁ s₂ e e' a b b' p q w = cc
  brought_single destroys s₁ s₂ e e' a b b' p q w = cc
  brought_single reports s₁ s₂ e e' a b b' p q w = cc

  lent_same : (f f' : ℕ) → R f f' ⊎ ((shown y.state g f ≡ false) × (shown z.state g f' ≡ false) ×
      SameBytes y.state z.state f f') → SameBytes y.state z.state f f'
  lent_same f f' (inl x) = cy.bytes f f' x
  lent_same f f' (inr x) = x.2

  -- what is brought has the same bytes
  brought_bytes : {o o' : Operation} → Matches g R y.state z.state o o' → (s₁ s₂ : State) → answer y.state o ≡ done s₁ →
      answer z.state o' ≡ done s₂ →
      (a b : ℕ) → brings o ≡ some a → brings o' ≡ some b → SameBytes s₁ s₂ a b
  brought_bytes creates s₁ s₂ e e' a b p q i l = cc
  brought_bytes (gives {f} {f'}) s₁ s₂ e e' a b p q i l =
      let p' : a ≡ f = cc in
      let q' : b ≡ f' = cc in
      rw (p', q') (given_bytes y.state f g s₁ e i ∙ sym (given_bytes z.state f' g s₂ e' i))
  brought_bytes (takes x) s₁ s₂ e e' a b p q i l = cc
  brought_bytes (maps x) s₁ s₂ e e' a b p q i l = cc
  brought_bytes unmaps s₁ s₂ e e' a b p q i l = cc
  brought_bytes (lends {o} {f} {f'} {w} x) s₁ s₂ e e' a b p q i l =
      let p' : a ≡ f = cc in
      let q' : b ≡ f' = cc in
      rw (p', q') (lent_bytes y.state o f g w s₁ e i ∙ lent_same f f' x i l ∙ sym (lent_bytes z.state o f' g w s₂ e' i))
  brought_bytes (unlends x) s₁ s₂ e e' a b p q i l = cc
  brought_bytes destroys s₁ s₂ e e' a b p q i l = cc
  brought_bytes reports s₁ s₂ e e' a b p q i l = cc

  same_report : {o o' : Operation} → Matches g R y.state z.state o o' → reported g o ≡ reported g o'
  same_report creates = refl
  same_report gives = refl
  same_report (takes x) = refl
  same_report (maps x) = refl
  same_report unmaps = refl
  same_report (lends x) = refl
  same_report (unlends x) = refl
  same_report destroys = refl
  same_report reports = refl

  same_dirty : {o o' : Operation} → Matches g R y.state z.state o o' → (d : Bool) → dirty_after g o d ≡ dirty_after g o' d
  same_dirty creates d = refl
  same_dirty gives d = refl
  same_dirty (takes x) d = refl
  same_dirty (maps x) d = refl
  same_dirty unmaps d = refl
  same_dirty (lends x) d = refl
  same_dirty (unlends x) d = refl
  same_dirty destroys d = refl
  same_dirty reports d = refl

  -- at one page something else, elsewhere as before
  elsewhere : (v v' f r : ℕ) (p p' : Option Page) → v < page_count → (p ≡ some (f, r) → (f' : ℕ) × R f f' × (p' ≡ some (f', r))) →
      cond (eqb v v') p (translate y.state g v) ≡ some (f, r) →
      (f' : ℕ) × R f f' × (cond (eqb v v') p' (translate z.state g v) ≡ some (f', r))
  elsewhere v v' f r p p' l here e = elim (bool? (eqb v v')) [
    | inl a ↦ rw a (here (rw a at e))
    | inr a ↦ rw a (cy.now v f r l (rw a at e))
  ]

  nowhere : (f r : ℕ) (P : Type 0) → ◌≡◌ {A = Option Page} none (some (f, r)) → P
  nowhere f r P e = let z : ◌≡◌ {A = ℕ} 0 1 = cc in absurd (omega arith)

  page_parts : (f r f₀ r₀ : ℕ) → ◌≡◌ {A = Option Page} (some (f₀, r₀)) (some (f, r)) → (f₀ ≡ f) × (r₀ ≡ r)
  page_parts f r f₀ r₀ e = let q : ◌≡◌ {A = Page} (f₀, r₀) (f, r) = cc in (ap (λ (x : Page). x.0) q, ap (λ (x : Page). x.1) q)

  -- the tables say the same
  same_now : {o o' : Operation} → Matches g R y.state z.state o o' → (v f r : ℕ) → v < page_count →
      expected y.state o g v ≡ some (f, r) → (f' : ℕ) × R f f' × (expected z.state o' g v ≡ some (f', r))
  unfolding expected
  same_now creates v f r l e = cy.now v f r l e
  same_now gives v f r l e = cy.now v f r l e
  same_now (takes x) v f r l e = cy.now v f r l e
  same_now (maps {f = f₀} {f' = f₀'} {a = a} {r = r₀} x) v f r l e =
      rw (eq-eqb g g refl) (elsewhere v (a / 4096) f r (some (f₀, r₀)) (some (f₀', r₀)) l
      (λ q. let w = page_parts f r f₀ r₀ q in (f₀', rw w.0 at x, ap (λ (n : ℕ). some (f₀', n)) w.1)) (rw (eq-eqb g g refl) at e))
  same_now (unmaps {a}) v f r l e = rw (eq-eqb g g refl) (elsewhere v (a / 4096) f r none none l
      (λ q. nowhere f r ((f' : ℕ) × R f f' × (none ≡ some (f', r))) q) (rw (eq-eqb g g refl) at e))
  same_now (lends x) v f r l e = cy.now v f r l e
  same_now (unlends x) v f r l e = cy.now v f r l e
  same_now destroys v f r l e = nowhere f r ((f' : ℕ) × R f f' × (cond (eqb g g) none (translate z.state g v) ≡ some (f', r)))
      (rw (eq-eqb g g refl) at e)
  same_now reports v f r l e = cy.now v f r l e

  -- both answered: everything again, over what corresponds then
  module _ {o o' : Operation} (ma : Matches g R y.state z.state o o') (y' z' : Machine)
      (ey : answer y.state o ≡ done y'.state) (ez : answer z.state o' ≡ done z'.state)
      (sy : Sane y') (sz : Sane z') (a : Called g y o y') (b : Called g z o' z') where
    R' : Frames
    R' = after g R o o' y'.state z'.state

    old_roles : (f f' : ℕ) → R f f' → role_of y'.state g f ≡ role_of z'.state g f'
    old_roles f f' x =
        a.turns.roles f
        ∙ same_turn ma y'.state z'.state ey ez (y.state.dirty g) f f' (role_of y.state g f) x
        ∙ ap (λ (d : Bool). role_after g d o' f' (role_of y.state g f)) cy.dirty
        ∙ ap (role_after g (z.state.dirty g) o' f') (cy.roles f f' x)
        ∙ sym (b.turns.roles f')

    new_roles : (f f' : ℕ) → brings o ≡ some f → brings o' ≡ some f' → role_of y'.state g f ≡ role_of z'.state g f'
    new_roles f f' p q =
        a.turns.roles f
        ∙ brought_turn ma (y.state.dirty g) f f' (role_of y.state g f) (role_of z.state g f') p q
        ∙ ap (λ (d : Bool). role_after g d o' f' (role_of z.state g f')) cy.dirty
        ∙ sym (b.turns.roles f')

    old : (f f' : ℕ) → (role_of y'.state g f ≡ 0 → ⊥) → R f f' → R' f f'
    unfolding R'
    old f f' n x = (inl x, is_shown y'.state g f n, is_shown z'.state g f' (λ e. n (old_roles f f' x ∙ e)))

    same_roles : (f f' : ℕ) → R' f f' → role_of y'.state g f ≡ role_of z'.state g f'
    unfolding R'
    same_roles f f' x = elim x.0 [ inl w ↦ old_roles f f' w | inr w ↦ new_roles f f' w.0 w.1 ]

    there_again : (f : ℕ) → (role_of y'.state g f ≡ 0 → ⊥) → (f' : ℕ) × R' f f'
    unfolding R'
    there_again f n = elim (eq? (role_of y.state g f) 0) [
      | inr p ↦ let w = cy.there f p in (w.0, old f w.0 n w.1)
      | inl p ↦
          let w = brought ma (y.state.dirty g) f p (λ e. n (a.turns.roles f ∙ ap (role_after g (y.state.dirty g) o f) p ∙ e)) in (
            w.0,
            (
              inr (w.1, w.2),
              is_shown y'.state g f n,
              is_shown z'.state g w.0 (λ e. n (new_roles f w.0 w.1 w.2 ∙ e)),
            ),
          )
    ]

    single_again : (f f' f'' : ℕ) → R' f f' → R' f f'' → f' ≡ f''
    unfolding R'
    single_again f f' f'' x w = go x.0 w.0
      where
        go : R f f' ⊎ ((brings o ≡ some f) × (brings o' ≡ some f')) → R f f'' ⊎ ((brings o ≡ some f) × (brings o' ≡ some f'')) → f' ≡ f''
        go (inl p) (inl q) = cy.single f f' f'' p q
        go (inl p) (inr q) = brought_single ma y'.state z'.state ey ez f f'' f' q.0 q.1 p
        go (inr p) (inl q) = sym (brought_single ma y'.state z'.state ey ez f f' f'' p.0 p.1 q)
        go (inr p) (inr q) = let p1 = p.1 in let q1 = q.1 in cc

    now_again : (v f r : ℕ) → v < page_count → translate y'.state g v ≡ some (f, r) →
        (f' : ℕ) × R' f f' × (translate z'.state g v ≡ some (f', r))
    now_again v f r l e =
        let w = same_now ma v f r l (sym (a.now v l) ∙ e) in
        (w.0, old f w.0 (kept_role (sane_holds sy) g v f r (now_kept sy g v f r l e)) w.1, b.now v l ∙ w.2)

    kept_again : (v f r : ℕ) → y'.caches.page_kept g v (y'.state.first + f) r →
        (f' : ℕ) × R' f f' × z'.caches.page_kept g v (z'.state.first + f') r
    kept_again v f r k = elim (a.was_kept v f r k) [
      | inl p ↦
          let w = cy.kept v f r p.1 in
          (w.0, old f w.0 (kept_role (sane_holds sy) g v f r k) w.1, b.still_kept v w.0 r (sym (same_report ma) ∙ p.0) w.2)
      | inr p ↦ let w = now_again v f r p.0 p.1 in (w.0, w.1, now_kept sz g v w.0 r p.0 w.2)
    ]

    bytes_again : (f f' : ℕ) → R' f f' → SameBytes y'.state z'.state f f'
    unfolding R'
    bytes_again f f' x = elim x.0 [
      | inl w ↦ λ i l. a.bytes f (cy.seen f f' w) i l ∙ cy.bytes f f' w i l ∙ sym (b.bytes f' (cz.seen f' f w) i l)
      | inr w ↦ brought_bytes ma y'.state z'.state ey ez f f' w.0 w.1
    ]

    pub covers_again : Covers g (after g R o o' y'.state z'.state) y' z'
    unfolding R'
    covers_again = record {
      roles = same_roles;
      seen = λ f f' x. shown_role y'.state g f x.1;
      there = there_again;
      single = single_again;
      dirty = a.turns.dirty ∙ same_dirty ma (y.state.dirty g) ∙ ap (dirty_after g o') cy.dirty ∙ sym b.turns.dirty;
      now = now_again;
      kept = kept_again;
      bytes = bytes_again;
    }
