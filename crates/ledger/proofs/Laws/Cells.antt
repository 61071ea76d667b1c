-- Laws of specs/Cells.
use mathlib.Core.Path.{◌≡◌, refl, fun_ext}
use mathlib.Core.Bool.{Bool, true, false, cond}
use mathlib.Core.Logic.{◌⊎◌, inl, inr}
use mathlib.Core.List.{List}
use Prim.Native.Nat.{ℕ, ◌+◌, ◌*◌, ◌≤◌, ◌<◌}
use native.Mathlib.Omega.{arith}
use lib.Dec.{eqb}
use lib.ListN.{length, get_or, length-set}
use lib.Seq.{get_or-set_same, get_or-set_other}
use borrow.Author.Tests.{lt-ltb, le-ltb}
use Rattle.model.proofs.Laws.Base.{eq?, lt?}
use Rattle.model.specs.Base.{upd, upd2}
use Rattle.model.proofs.Laws.Base.{upd_other, upd2_at, upd2_other}
use Rattle.ledger.specs.Columns.{ROW_WORDS}
use Rattle.ledger.specs.Cells.{cell, store}

-- a cell that is there
pub cell_at : (o m : ℕ) (l : List ℕ) (j r : ℕ) → j < ROW_WORDS → r < m → get_or l (o + ROW_WORDS * r + j) 0 ≡ cell o m l j r
unfolding cell
cell_at o m l j r hj hr = rw (lt-ltb j ROW_WORDS hj, lt-ltb r m hr)

-- a row that is not there
pub cell_none : (o m : ℕ) (l : List ℕ) (j r : ℕ) → j < ROW_WORDS → m ≤ r → cell o m l j r ≡ 0
unfolding cell
cell_none o m l j r hj hr = rw (lt-ltb j ROW_WORDS hj, le-ltb r m hr)

pub length_store : (o : ℕ) (l : List ℕ) (j r v : ℕ) → length (store o l j r v) ≡ length l
unfolding store
length_store o l j r v = length-set l (o + ROW_WORDS * r + j) v

module _ (o m : ℕ) (l : List ℕ) (j r v : ℕ) (hj : j < ROW_WORDS) (hr : r < m) (fits : o + ROW_WORDS * r + j < length l) where
  -- a store changes its own cell and no other
  pub cell_store : cell o m (store o l j r v) ≡ upd2 (cell o m l) j r v
  unfolding cell store
  cell_store = fun_ext (λ a. fun_ext (λ b. go a b (eq? a j) (eq? b r)))
    where
      away : (a b : ℕ) → (a ≡ j → b ≡ r → ⊥) → cell o m (store o l j r v) a b ≡ cell o m l a b
      away a b ne = elim (lt? a ROW_WORDS) [
        | inl u ↦ rw (get_or-set_other l (o + ROW_WORDS * r + j) (o + ROW_WORDS * b + a) v 0
            (λ (e : o + ROW_WORDS * b + a ≡ o + ROW_WORDS * r + j). ne (omega arith) (omega arith)))
        | inr u ↦ rw (le-ltb a ROW_WORDS u)
      ]

      go : (a b : ℕ) → (a ≡ j) ⊎ (a ≡ j → ⊥) → (b ≡ r) ⊎ (b ≡ r → ⊥) → cell o m (store o l j r v) a b ≡ upd2 (cell o m l) j r v a b
      go a b (inl p) (inl q) = rw (upd2_at (cell o m l) j r v a b p q, p, q, lt-ltb j ROW_WORDS hj, lt-ltb r m hr)
          (get_or-set_same l (o + ROW_WORDS * r + j) v 0 fits)
      go a b (inl p) (inr q) = rw (upd2_other (cell o m l) j r v a b (λ x y. q y)) (away a b (λ x y. q y))
      go a b (inr p) q = rw (upd2_other (cell o m l) j r v a b (λ x y. p x)) (away a b (λ x y. p x))

-- a store into one of two tables that lie apart leaves the other
pub cell_apart : (o m o' : ℕ) (l : List ℕ) (j r v : ℕ) → j < ROW_WORDS →
    (o + ROW_WORDS * m ≤ o' + ROW_WORDS * r) ⊎ (o' + ROW_WORDS * r + ROW_WORDS ≤ o) →
    cell o m (store o' l j r v) ≡ cell o m l
unfolding cell store
cell_apart o m o' l j r v hj far = fun_ext (λ a. fun_ext (λ b. go a b far))
  where
    go : (a b : ℕ) → (o + ROW_WORDS * m ≤ o' + ROW_WORDS * r) ⊎ (o' + ROW_WORDS * r + ROW_WORDS ≤ o) →
        cell o m (store o' l j r v) a b ≡ cell o m l a b
    go a b d = elim (lt? a ROW_WORDS) [
      | inr u ↦ rw (le-ltb a ROW_WORDS u)
      | inl u ↦ elim (lt? b m) [
        | inr w ↦ rw (lt-ltb a ROW_WORDS u, le-ltb b m w)
        | inl w ↦ rw (get_or-set_other l (o' + ROW_WORDS * r + j) (o + ROW_WORDS * b + a) v 0
            (λ (e : o + ROW_WORDS * b + a ≡ o' + ROW_WORDS * r + j). split u w d e))
      ]
    ]
      where
        split : a < ROW_WORDS → b < m → (o + ROW_WORDS * m ≤ o' + ROW_WORDS * r) ⊎ (o' + ROW_WORDS * r + ROW_WORDS ≤ o) →
            o + ROW_WORDS * b + a ≡ o' + ROW_WORDS * r + j → ⊥
        split u w (inl h) e = omega arith
        split u w (inr h) e = omega arith

-- columns after a store
pub column_other : {A : Type 0} (F : ℕ → ℕ → A) (k r : ℕ) (v : A) (j : ℕ) → (j ≡ k → ⊥) → upd2 F k r v j ≡ F j
unfolding upd2
column_other F k r v j ne = upd_other F k (upd (F k) r v) j ne

-- a function of what is stored
pub upd_map : {A B : Type 0} (φ : A → B) (f : ℕ → A) (k : ℕ) (v : A) → (λ x. φ (upd f k v x)) ≡ upd (λ x. φ (f x)) k (φ v)
unfolding upd
upd_map {A = A} φ f k v = fun_ext (λ x. go (eqb x k) (f x))
  where
    go : (t : Bool) (a : A) → φ (cond t v a) ≡ cond t (φ v) (φ a)
    go true a = refl
    go false a = refl
