-- Laws of specs/FreeSet.
use mathlib.Core.Path.{◌≡◌, refl, sym, ap, ◌∙◌}
use mathlib.Core.Bool.{Bool, true, false, ◌&&◌, cond}
use mathlib.Core.Logic.{inl, inr}
use Prim.Native.Nat.{ℕ, zero, suc, ◌≤◌, ◌<◌}
use native.Mathlib.Omega.{arith}
use lib.Dec.{eqb, ltb}
use borrow.Author.Tests.{lt-ltb, le-ltb, eqb-true}
use Rattle.model.proofs.Laws.Base.{lt?, sum_cong, sum_none, sum_point}
use Rattle.model.specs.Base.{sum}
use Rattle.model.specs.State.{FREE}
use Rattle.ledger.specs.FreeSet.{FreeSet}

-- The set has as many frames as are free.
module _ (n : ℕ) (K D P : ℕ → ℕ) (count : ℕ) (s : FreeSet n K D P count) where
  abbrev among : ℕ → ℕ → ℕ
  among c f = cond (ltb f n && ltb (P f) c) 1 0

  same : (c j : ℕ) → (j ≡ D c → ⊥) → among c j ≡ among (suc c) j
  same c j ne = elim (lt? j n) [
    | inr l ↦ rw (le-ltb j n l)
    | inl l ↦ elim (lt? (P j) c) [
      | inl a ↦ rw (lt-ltb j n l, lt-ltb (P j) c a, lt-ltb (P j) (suc c) (omega arith))
      | inr a ↦ rw (lt-ltb j n l, le-ltb (P j) c a, le-ltb (P j) (suc c) (past (P j) c a (λ e. ne (sym (s.d_p j l) ∙ ap D e))))
    ]
  ]
    where
      past : (x c : ℕ) → c ≤ x → (x ≡ c → ⊥) → suc c ≤ x
      past x c a e = elim (lt? x (suc c)) [ inl b ↦ absurd (e (omega arith)) | inr b ↦ b ]

  counted : (c : ℕ) → c ≤ n → sum n (among c) ≡ c
  counted zero l = sum_none n (among 0) (λ f. rw (le-ltb (P f) 0 (omega arith)) (nobody (ltb f n)))
    where
      nobody : (b : Bool) → ◌≡◌ {A = ℕ} (cond (b && false) 1 0) 0
      nobody true = refl
      nobody false = refl
  counted (suc c) l =
      let before = counted c (omega arith) in
      let low = s.d_low c (omega arith) in
      let at : P (D c) ≡ c = s.p_d c (omega arith) in
      let one : among (suc c) (D c) ≡ 1 = rw (lt-ltb (D c) n low, lt-ltb (P (D c)) (suc c) (omega arith)) in
      let none : among c (D c) ≡ 0 = rw (lt-ltb (D c) n low, le-ltb (P (D c)) c (omega arith)) in
      let step = sum_point n (among c) (among (suc c)) (D c) low (same c) in
      omega arith

  pub free_number : sum n (λ f. cond (eqb (K f) FREE) 1 0) ≡ count
  free_number = sum_cong n (λ f. cond (eqb (K f) FREE) 1 0) (among count) (λ f l. rw (s.in_set f l, lt-ltb f n l))
      ∙ counted count s.few

  -- the frame at a place inside is free
  pub free_at : (i : ℕ) → i < count → (D i < n) × (K (D i) ≡ FREE)
  free_at i l =
      let few = s.few in
      let low = s.d_low i (omega arith) in
      let at = s.p_d i (omega arith) in
      (low, eqb-true (K (D i)) FREE (s.in_set (D i) low ∙ lt-ltb (P (D i)) count (omega arith)))

  pub once_at : (i j : ℕ) → i < n → j < n → D i ≡ D j → i ≡ j
  once_at i j hi hj e = sym (s.p_d i hi) ∙ ap P e ∙ s.p_d j hj
