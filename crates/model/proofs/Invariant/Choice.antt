-- The choice among free frames: when the first is taken, the rest is a choice of what is left.
use mathlib.Core.Path.{◌≡◌, refl, ap, ◌∙◌}
use mathlib.Core.Bool.{false, cond}
use Prim.Native.Nat.{ℕ, suc, ◌+◌, ◌<◌}
use native.Mathlib.Omega.{arith}
use Rattle.model.specs.Base.{upd, sum}
use Rattle.model.proofs.Laws.Base.{upd_same, upd_other}
use Rattle.model.proofs.Laws.Base.{sum_point}
use Rattle.model.specs.State.{State, KindOfFrame, free, table, is_free, free_frames}
use Rattle.model.specs.Changes.{Choice, with_table}
use Rattle.model.specs.Invariant.{Core}
use Rattle.model.proofs.Invariant.Core.{low}

abbrev pub one_if_free : KindOfFrame → ℕ
one_if_free x = cond (is_free x) 1 0

-- a free frame becomes something else
pub free_less : (n : ℕ) (kind : ℕ → KindOfFrame) (t : ℕ) (y : KindOfFrame) → t < n → kind t ≡ free → is_free y ≡ false →
    sum n (λ f. one_if_free (upd kind t y f)) + 1 ≡ sum n (λ f. one_if_free (kind f))
free_less n kind t y l e z =
    let a = sum_point n (λ f. one_if_free (upd kind t y f)) (λ f. one_if_free (kind f)) t l
    (λ j ne. ap (λ (x : KindOfFrame). one_if_free x) (upd_other kind t y j ne)) in
    let b : one_if_free (kind t) ≡ 1 = rw e in
    let d : one_if_free (upd kind t y t) ≡ 0 = rw (upd_same kind t y, z) in
    omega arith

module _ (s : State) (c : Core s) (pick : ℕ → ℕ) (ch : Choice s pick) (some : 0 < free_frames s) where
  pub first_free : s.kind (pick 0) ≡ free
  first_free = ch.frees 0 some

  pub fewer : (t i g h q : ℕ) → free_frames (with_table s t i (pick 0) g h q) + 1 ≡ free_frames s
  unfolding free_frames with_table
  fewer t i g h q = free_less s.size s.kind (pick 0) (table g h q) (low s c (pick 0) free first_free refl) first_free refl

  pub rest_chosen : (t i g h q : ℕ) → Choice (with_table s t i (pick 0) g h q) (λ j. pick (suc j))
  rest_chosen t i g h q = record {
    frees = λ j l. kinds j (omega (arith, fewer t i g h q));
    once = λ j n l m. ch.once (suc j) (suc n) (omega (arith, fewer t i g h q)) (omega arith);
  }
    where
      kinds : (j : ℕ) → suc j < free_frames s → (with_table s t i (pick 0) g h q).kind (pick (suc j)) ≡ free
      kinds j l = unfold with_table in upd_other s.kind (pick 0) (table g h q) (pick (suc j)) (ch.once (suc j) 0 l (omega arith))
          ∙ ch.frees (suc j) l
