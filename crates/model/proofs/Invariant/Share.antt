-- share and unshare keep the invariant.
use mathlib.Core.Path.{◌≡◌, refl, sym, ap, ◌∙◌}
use mathlib.Core.Bool.{true≢false, Bool, true, false, not, ◌&&◌, ◌||◌, cond}
use mathlib.Core.Logic.{◌⊎◌, inl, inr}
use Prim.Native.Nat.{ℕ, ◌+◌, ◌<◌, ◌/◌, ◌%◌}
use native.Mathlib.Omega.{arith}
use lib.Dec.{eqb, ltb, leb}
use borrow.Author.Tests.{eqb-true}
use Rattle.model.proofs.Laws.Base.{eq?, bool?, and_true, not_true, or_right}
use Rattle.model.specs.Base.{upd, upd2}
use Rattle.model.proofs.Laws.Base.{upd_at, upd_other, upd2_at, upd2_other}
use Rattle.model.specs.State.{State, table, page, is_page_of}
use Rattle.model.specs.Entry.{to_page}
use Rattle.model.specs.Translate.{entry_at}
use Rattle.model.specs.Changes.{becomes}
use Rattle.model.specs.Operations.{done, shares, narrows, share, unshare}
use Rattle.model.specs.Cache.{Caches}
use Rattle.model.proofs.Invariant.Kinds.{page_of_is}
use Rattle.model.specs.Invariant.{May, Core, Kept}
use Rattle.model.proofs.Invariant.Core.{low}
use Rattle.model.proofs.Invariant.Counts.{places_zero}
use Rattle.model.proofs.Invariant.Becomes.{becomes_core, becomes_kept}
use Rattle.model.proofs.Invariant.Answer.{Good, then_done, checked}

either : (b : Bool) → (b || true) ≡ true
either true = refl
either false = refl

-- who shares for writing shares whatever was shared; for reading, what was shared for no more than that
module _ (how r : ℕ) (e : shares how r ≡ true) where
  parts : (ltb 0 how ≡ true) × (ltb r 4 ≡ true)
  unfolding shares
  parts = and_true (ltb 0 how) (ltb r 4) (and_true (ltb 0 how && ltb r 4) (ltb r 2 || leb 2 how) e).0

  pub shares_2 : shares 2 r ≡ true
  unfolding shares
  shares_2 = rw parts.1 (either (ltb r 2))

  pub shares_1 : leb 2 how ≡ false → shares 1 r ≡ true
  unfolding shares
  shares_1 n = rw parts.1 (rw n at (and_true (ltb 0 how && ltb r 4) (ltb r 2 || leb 2 how) e).1)

-- g's page f is shared with h anew, as j; what h could do that j does not allow, it does nowhere
module _ (s : State) (c : Core s) (k : Caches) (q : Kept s k) (f g h j : ℕ) (hf : s.kind f ≡ page g) (lh : s.exists h ≡ true)
    (ok : (r : ℕ) → shares (s.shared f h) r ≡ true → (shares j r ≡ true) ⊎ ((s.count f h ≡ 0) × (s.dirty h ≡ false))) where
  sh : ℕ → ℕ → ℕ
  sh = upd2 s.shared f h j

  same : (f' : ℕ) → upd s.kind f (page g) f' ≡ s.kind f'
  same f' = elim (eq? f' f) [
    | inl e ↦ upd_at s.kind f (page g) f' e ∙ sym hf
        ∙ ap s.kind (sym e)
    | inr e ↦ upd_other s.kind f (page g) f' e
  ]

  keep : (g' f' r : ℕ) → (f' ≡ f → g' ≡ h → shares (s.shared f' g') r ≡ true → shares j r ≡ true) → May s g' f' r →
      May (becomes s f (page g) s.word sh) g' f' r
  unfolding becomes sh
  keep g' f' r z (inl a) = inl (same f' ∙ a)
  keep g' f' r z (inr a) = inr (
    a.0,
    same f' ∙ a.1,
    elim (eq? f' f) [
      | inr x ↦ rw (upd2_other s.shared f h j f' g' (λ u v. x u)) a.2
      | inl x ↦ elim (eq? g' h) [
        | inr y ↦ rw (upd2_other s.shared f h j f' g' (λ u v. y v)) a.2
        | inl y ↦ rw (upd2_at s.shared f h j f' g' x y) (z x y a.2)
      ]
    ],
  )

  still : (g' t p i f' r : ℕ) → s.kind t ≡ table g' 0 p → i < 512 → entry_at s t i ≡ to_page f' r → f' ≡ f → g' ≡ h →
      shares (s.shared f' g') r ≡ true → shares j r ≡ true
  still g' t p i f' r a l b x y e = elim (ok r (rw (x, y) at e)) [
    | inl z ↦ z
    | inr z ↦ absurd (places_zero s f h (sym (c.counts f h) ∙ z.0) t p i r (low s c t (table g' 0 p) a refl) l (rw y at a)
        (b ∙ ap (λ (u : ℕ). to_page u r) x))
  ]

  shared_core : Core (becomes s f (page g) s.word sh)
  unfolding sh
  shared_core = becomes_core s c f (page g) (page g) s.word sh hf (refl, refl, refl, refl) refl refl (λ t ne i. refl)
      (λ g' t p i f' r a l b m. keep g' f' r (still g' t p i f' r a l b) m)
      (λ g' e. let g= : g ≡ g' = cc in rw (← g=) (c.page_exists f g hf))
      (λ f' o h' a l. upd2_other s.shared f h j f' h' (λ x (y : h' ≡ h). true≢false (sym lh ∙ ap s.exists (sym y) ∙ l))
      ∙ c.strangers f' o h' (sym (same f') ∙ a) l)

  shared_kept : Kept (becomes s f (page g) s.word sh) k
  shared_kept = becomes_kept s c f (page g) (page g) s.word sh hf (refl, refl, refl, refl) refl refl (λ t ne i. refl) k q
      (λ g' v f' r a.
      elim [
        | inl m ↦ inl (keep g' f' r (now g' v f' r a) m)
        | inr m ↦ inr (same f' ∙ m)
      ])
    where
      now : (g' v f' r : ℕ) → k.page_kept g' v (s.first + f') r → f' ≡ f → g' ≡ h → shares (s.shared f' g') r ≡ true → shares j r ≡ true
      now g' v f' r a x y e = elim (ok r (rw (x, y) at e)) [
        | inl z ↦ z
        | inr z ↦
            let b = q.page_now g' v (s.first + f') r (ap s.dirty y ∙ z.1) a in
            let m = b.2 in
            let b1 = b.1 in
            let f= : b.0 ≡ f' = omega arith in
            still g' m.0 (v / 512) (v % 512) f' r m.1 (omega arith) (m.2 ∙ ap (λ (u : ℕ). to_page u r) f=) x y e
      ]

  pub shared_good : Good k (done (becomes s f (page g) s.word (upd2 s.shared f h j)))
  unfolding sh
  shared_good = then_done (record { core = shared_core; kept = shared_kept })

pub unshare_good : (s : State) (c : Core s) (k : Caches) (q : Kept s k) (g f h : ℕ) → Good k (unshare s g f h)
unfolding unshare
unshare_good s c k q g f h =
    checked 5 λ e1. checked 4 λ e2. checked 9 λ e3. checked 13 λ e4. checked 14 λ e5.
    shared_good s c k q f g h 0 (page_of_is (s.kind f) g (and_true (is_page_of (s.kind f) g) (ltb 0 (s.shared f h)) e3).0)
    (and_true (s.exists g) (s.exists h) e1).1
    (λ r a. inr (eqb-true (s.count f h) 0 e4, not_true (s.dirty h) e5))

pub share_good : (s : State) (c : Core s) (k : Caches) (q : Kept s k) (g f h w : ℕ) → Good k (share s g f h w)
unfolding share
share_good s c k q g f h w =
    checked 5 λ e1. checked 12 λ e2. checked 4 λ e3. checked 9 λ e4. checked 13 λ e5. checked 14 λ e6.
    shared_good s c k q f g h (cond (eqb w 0) 1 2) (page_of_is (s.kind f) g e4) (and_true (s.exists g) (s.exists h) e1).1 (go e5 e6)
  where
    go : (not (narrows s f h w) || eqb (s.count f h) 0) ≡ true → (not (narrows s f h w) || not (s.dirty h)) ≡ true →
        (r : ℕ) → shares (s.shared f h) r ≡ true → (shares (cond (eqb w 0) 1 2) r ≡ true) ⊎ ((s.count f h ≡ 0) × (s.dirty h ≡ false))
    go e5 e6 r a = elim (bool? (eqb w 0)) [
      | inr x ↦ inl (rw x (shares_2 (s.shared f h) r a))
      | inl x ↦ elim (bool? (leb 2 (s.shared f h))) [
        | inr y ↦ inl (rw x (shares_1 (s.shared f h) r a y))
        | inl y ↦
            let n : narrows s f h w ≡ true = rw (y, x) in
            inr (
              eqb-true (s.count f h) 0 (or_right (narrows s f h w) (eqb (s.count f h) 0) e5 n),
              not_true (s.dirty h) (or_right (narrows s f h w) (not (s.dirty h)) e6 n),
            )
      ]
    ]
