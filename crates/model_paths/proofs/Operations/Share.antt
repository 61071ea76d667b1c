-- share and unshare: a page is lent for more, or where it is mapped nowhere and nothing is stale.
use mathlib.Core.Path.{◌≡◌, refl, sym, ap, ◌∙◌}
use mathlib.Core.Bool.{Bool, true, false, true≢false, not, ◌&&◌, ◌||◌, cond}
use mathlib.Core.Logic.{◌⊎◌, inl, inr}
use Prim.Native.Nat.{ℕ, ◌≤◌}
use native.Mathlib.Omega.{arith}
use lib.Dec.{eqb, ltb, leb}
use borrow.Author.Tests.{eqb-true, lt-ltb, ltb-true, leb-true, le-leb, leb-false}
use Rattle.model.proofs.Laws.Base.{eq?, and_true, not_true, upd_at, upd_other}
use Rattle.model.specs.Base.{upd, upd2}
use Rattle.model.specs.State
use Rattle.model.specs.Changes.{becomes}
use Rattle.model.specs.Operations.{share, unshare, narrows, shares}
use Rattle.model.specs.Invariant.{Core}
use Rattle.model.proofs.Invariant.Kinds.{page_of_is}
use Rattle.model.proofs.Invariant.Answer.{Then, then_done, checked}
use Rattle.model_moves.specs.Moves.{lend, Lend}
use Rattle.model_paths.specs.View.{whole_slot, use_of, waits_of, view}
use Rattle.model_paths.proofs.Laws.View.{same}
use Rattle.model_paths.specs.Goes.{Goes, Ended}
use Rattle.model_paths.proofs.Laws.Reads.{has_none}
use Rattle.model_paths.proofs.Operations.Frames.{and_false}
use Rattle.model_moves.proofs.Laws.Paths.{stay, by, way_to}
use Rattle.model.specs.Machine.{Share, Unshare}
use Rattle.model_moves.specs.Path.{Deed, lends, Way}

-- shared for no less
pub more_shares : (a b r : ℕ) → a ≤ b → shares a r ≡ true → shares b r ≡ true
unfolding shares
more_shares a b r l e =
    let p = and_true (ltb 0 a && ltb r 4) (ltb r 2 || leb 2 a) e in
    let q = and_true (ltb 0 a) (ltb r 4) p.0 in
    let n = ltb-true 0 a q.0 in
    let u : ltb 0 b ≡ true = lt-ltb 0 b (omega arith) in
    rw (u, q.1) (or (ltb r 2) (leb 2 a) (leb 2 b) p.1 (λ x. le-leb 2 b (let y = leb-true 2 a x in omega arith)))
  where
    or : (x y z : Bool) → (x || y) ≡ true → (y ≡ true → z ≡ true) → (x || z) ≡ true
    or true y z e f = refl
    or false y z e f = f e

-- sharing for writing is sharing for all that can be shared
pub shares_two : (a r : ℕ) → shares a r ≡ true → shares 2 r ≡ true
unfolding shares
shares_two a r e = rw (and_true (ltb 0 a) (ltb r 4) (and_true (ltb 0 a && ltb r 4) (ltb r 2 || leb 2 a) e).0).1 (or (ltb r 2))
  where
    or : (x : Bool) → (x || true) ≡ true
    or true = refl
    or false = refl

-- what share and unshare check: not less, or mapped nowhere and not dirty
pub either : (x y : Bool) → (not x || y) ≡ true → (x ≡ false) ⊎ (y ≡ true)
either true y e = inr e
either false y e = inl refl

module _ (s : State.State) (c : Core s) (n : Ended s) where
  lend_path : (g f h how : ℕ) → s.kind f ≡ State.page g → Lend (view s) f h how →
      Way (λ d. d ≡ lends f h how) (view s) (view (becomes s f (State.page g) s.word (upd2 s.shared f h how)))
  unfolding becomes
  lend_path g f h how k m =
      let D : Deed → Type 0 = λ d. d ≡ lends f h how in
      by D (lend f h how m) refl (way_to D (stay D)
      (same _ (view (becomes s f (State.page g) s.word (upd2 s.shared f h how))) refl refl (λ t. ap use_of (again t)) (λ t d. refl)
      (λ t d j. ap (λ x. waits_of x d j) (again t)) (λ d. refl) (λ d j v. refl) (λ t i. refl)))
    where
      again : (t : ℕ) → s.kind t ≡ upd s.kind f (State.page g) t
      again t = elim (eq? t f) [
        | inl p ↦ ap s.kind p ∙ k
            ∙ sym (upd_at s.kind f (State.page g) t p)
        | inr p ↦ sym (upd_other s.kind f (State.page g) t p)
      ]

  idle : (f h how : ℕ) → s.exists h ≡ true → s.count f h ≡ 0 → s.dirty h ≡ false → Lend (view s) f h how
  idle f h how l z d = record { allowed = inr (λ r x. has_none s c n h f r l z x, λ j v. and_false (eqb j whole_slot) (s.dirty h) d) }

  not_narrow : (f h w : ℕ) → narrows s f h w ≡ false →
      s.shared f h ≤ cond (eqb w 0) 1 2 ⊎ (leb 2 (s.shared f h) ≡ true) × (eqb w 0 ≡ false)
  not_narrow f h w e = go (leb 2 (s.shared f h)) (eqb w 0) refl refl e
    where
      go : (a b : Bool) → leb 2 (s.shared f h) ≡ a → eqb w 0 ≡ b → (a && b) ≡ false →
          s.shared f h ≤ cond b 1 2 ⊎ (a ≡ true) × (b ≡ false)
      go true true p q e = absurd (true≢false e)
      go true false p q e = inr (refl, refl)
      go false true p q e = inl (let x = leb-false 2 (s.shared f h) p in omega arith)
      go false false p q e = inl (let x = leb-false 2 (s.shared f h) p in omega arith)

  pub share_goes : (g f h w : ℕ) → Then (Goes s (Share g f h w)) (share s g f h w)
  unfolding share
  share_goes g f h w = checked 5 λ e1. checked 12 λ e2. checked 4 λ e3. checked 9 λ e4. checked 13 λ e5. checked 14 λ e6.
      then_done (lend_path g f h (cond (eqb w 0) 1 2) (page_of_is (s.kind f) g e4)
      (elim (either (narrows s f h w) (eqb (s.count f h) 0) e5) [
        | inl x ↦ more x
        | inr x ↦ elim (either (narrows s f h w) (not (s.dirty h)) e6) [
          | inl y ↦ more y
          | inr y ↦ idle f h (cond (eqb w 0) 1 2) (and_true (s.exists g) (s.exists h) e1).1 (eqb-true (s.count f h) 0 x)
              (not_true (s.dirty h) y)
        ]
      ]))
    where
      more : narrows s f h w ≡ false → Lend (view s) f h (cond (eqb w 0) 1 2)
      more x = record {
        allowed = inl (λ r a. elim
            (not_narrow f h w x) [
              | inl l ↦ more_shares (s.shared f h) (cond (eqb w 0) 1 2) r l a
              | inr l ↦ rw l.1
                  (shares_two (s.shared f h) r a)
            ]);
      }

  pub unshare_goes : (g f h : ℕ) → Then (Goes s (Unshare g f h)) (unshare s g f h)
  unfolding unshare
  unshare_goes g f h = checked 5 λ e1. checked 4 λ e2. checked 9 λ e3. checked 13 λ e4. checked 14 λ e5.
      then_done (lend_path g f h 0 (page_of_is (s.kind f) g (and_true (State.is_page_of (s.kind f) g) (ltb 0 (s.shared f h)) e3).0)
      (idle f h 0 (and_true (s.exists g) (s.exists h) e1).1 (eqb-true (s.count f h) 0 e4) (not_true (s.dirty h) e5)))
