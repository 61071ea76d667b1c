-- Laws of specs/Base: a test with what it says, a function changed at a point, sums.
use mathlib.Core.Path.{◌∙◌, ◌≡◌, refl, sym}
use mathlib.Core.Bool.{Bool, true, false, not, ◌&&◌, ◌||◌}
use mathlib.Core.Logic.{◌⊎◌, inl, inr}
use Prim.Native.Nat.{ℕ, zero, suc, ◌+◌, ◌≤◌, ◌<◌}
use native.Mathlib.Omega.{arith}
use native.Mathlib.Nat.{not-suc-le-zero}
use lib.Dec.{eqb, ltb}
use borrow.Author.Tests.{ne_eqb, eq-eqb, eqb-true, eqb-false, ltb-true, ltb-false}
use Rattle.model.specs.Base.{upd2, upd, sum, all}

pub bool? : (b : Bool) → (b ≡ true) ⊎ (b ≡ false)
bool? true = inl refl
bool? false = inr refl

pub eq? : (a b : ℕ) → (a ≡ b) ⊎ (a ≡ b → ⊥)
eq? a b = elim (bool? (eqb a b)) [ inl e ↦ inl (eqb-true a b e) | inr e ↦ inr (eqb-false a b e) ]

pub lt? : (a b : ℕ) → (a < b) ⊎ (b ≤ a)
lt? a b = elim (bool? (ltb a b)) [ inl e ↦ inl (ltb-true a b e) | inr e ↦ inr (ltb-false a b e) ]

pub and_true : (a b : Bool) → (a && b) ≡ true → (a ≡ true) × (b ≡ true)
and_true true b e = (refl, e)
and_true false b e = (cc, cc)

pub not_true : (a : Bool) → not a ≡ true → a ≡ false
not_true true e = cc
not_true false e = refl

-- not a, or b
pub or_right : (a b : Bool) → (not a || b) ≡ true → a ≡ true → b ≡ true
or_right true b e p = e
or_right false b e p = cc

-- the function f, but v at k
module _ {ℓ} {A : Type ℓ} where
  pub upd_same : (f : ℕ → A) (k : ℕ) (v : A) → upd f k v k ≡ v
  unfolding upd
  upd_same f k v = rw (eq-eqb k k refl)

  pub upd_at : (f : ℕ → A) (k : ℕ) (v : A) (n : ℕ) → n ≡ k → upd f k v n ≡ v
  unfolding upd
  upd_at f k v n e = rw (eq-eqb n k e)

  pub upd_other : (f : ℕ → A) (k : ℕ) (v : A) (n : ℕ) → (n ≡ k → ⊥) → upd f k v n ≡ f n
  unfolding upd
  upd_other f k v n h = rw (ne_eqb n k h)

  -- where it is not v, it is as before
  pub upd_not : (f : ℕ → A) (k : ℕ) (v x : A) (n : ℕ) → (v ≡ x → ⊥) → upd f k v n ≡ x → (n ≡ k → ⊥) × (f n ≡ x)
  upd_not f k v x n ne h = elim (eq? n k) [ inl e ↦ absurd (ne (sym (upd_at f k v n e) ∙ h)) | inr e ↦ (e, sym (upd_other f k v n e) ∙ h) ]

-- the same over two indices
module _ {ℓ} {A : Type ℓ} where
  pub upd2_same : (f : ℕ → ℕ → A) (k j : ℕ) (v : A) → upd2 f k j v k j ≡ v
  unfolding upd2
  upd2_same f k j v = rw (upd_same f k (upd (f k) j v)) (upd_same (f k) j v)

  pub upd2_at : (f : ℕ → ℕ → A) (k j : ℕ) (v : A) (a b : ℕ) → a ≡ k → b ≡ j → upd2 f k j v a b ≡ v
  unfolding upd2
  upd2_at f k j v a b e q = rw (upd_at f k (upd (f k) j v) a e) (upd_at (f k) j v b q)

  pub upd2_other : (f : ℕ → ℕ → A) (k j : ℕ) (v : A) (a b : ℕ) → (a ≡ k → b ≡ j → ⊥) → upd2 f k j v a b ≡ f a b
  unfolding upd2
  upd2_other f k j v a b h = elim (eq? a k) [
    | inl p ↦ rw (upd_at f k (upd (f k) j v) a p, upd_other (f k) j v b (h p), p)
    | inr p ↦ rw (upd_other f k (upd (f k) j v) a p)
  ]

pub sum_cong : (n : ℕ) (f g : ℕ → ℕ) → ((k : ℕ) → k < n → f k ≡ g k) → sum n f ≡ sum n g
unfolding sum
sum_cong zero f g h = refl
sum_cong (suc n) f g h =
    let a = h n (omega arith) in
    let b = sum_cong n f g (λ k l. h k (omega arith)) in
    omega arith

pub sum_zero : (n : ℕ) (f : ℕ → ℕ) → sum n f ≡ 0 → (k : ℕ) → k < n → f k ≡ 0
unfolding sum
sum_zero zero f e k l = omega arith
sum_zero (suc n) f e k l =
    elim (eq? k n) [
      | inl q ↦ rw q (omega arith)
      | inr q ↦ sum_zero n f (omega arith) k (omega arith)
    ]

pub sum_none : (n : ℕ) (f : ℕ → ℕ) → ((k : ℕ) → f k ≡ 0) → sum n f ≡ 0
unfolding sum
sum_none zero f h = refl
sum_none (suc n) f h = let a = sum_none n f h in let b = h n in omega arith

-- two functions that agree but at k
pub sum_point : (n : ℕ) (f g : ℕ → ℕ) (k : ℕ) → k < n → ((j : ℕ) → (j ≡ k → ⊥) → f j ≡ g j) → sum n f + g k ≡ sum n g + f k
unfolding sum
sum_point zero f g k l h = absurd (not-suc-le-zero l)
sum_point (suc n) f g k l h =
    elim (eq? k n) [
      | inl q ↦ let a = sum_cong n f g (λ j m. h j (λ (p : j ≡ k). omega arith)) in rw q (omega arith)
      | inr q ↦ let a = sum_point n f g k (omega arith) h in let b = h n (λ (p : n ≡ k). q (sym p)) in omega arith
    ]

pub sum2_point : (n m : ℕ) (f g : ℕ → ℕ → ℕ) (t i : ℕ) → t < n → i < m → ((t' i' : ℕ) → (t' ≡ t → i' ≡ i → ⊥) → f t' i' ≡ g t' i') →
    sum n (λ a. sum m (f a)) + g t i ≡ sum n (λ a. sum m (g a)) + f t i
sum2_point n m f g t i l k h =
    let a = sum_point n (λ a. sum m (f a)) (λ a. sum m (g a)) t l (λ j ne. sum_cong m (f j) (g j) (λ x y. h j x (λ e z. ne e))) in
    let b = sum_point m (f t) (g t) i k (λ j ne. h t j (λ z e. ne e)) in
    omega arith

pub all_true : (n : ℕ) (b : ℕ → Bool) → all n b ≡ true → (k : ℕ) → k < n → b k ≡ true
unfolding all
all_true zero b e k l = absurd (omega arith)
all_true (suc n) b e k l =
    let a = and_true (all n b) (b n) e in
    elim (eq? k n) [ inl q ↦ rw q a.1 | inr q ↦ all_true n b a.0 k (omega arith) ]
