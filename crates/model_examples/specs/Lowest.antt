-- A choice that exists in every state: the lowest free frame first.
use Rattle.std.specs.Prelude.{◌≡◌, ◌&&◌, cond, ℕ, zero, suc, ◌+◌, ◌<◌, eqb}
use Rattle.std.proofs.Common.{sym, inl, inr, arith, eq-eqb, ne_eqb}
use Rattle.model.proofs.Laws.Base.{eq?, bool?}
use Rattle.model.specs.Base.{sum}
use Rattle.model.specs.State.{State, KindOfFrame, free, is_free, free_frames}
use Rattle.model.specs.Changes.{Choice}
use Rattle.model.proofs.Invariant.Kinds.{free_is}
use Rattle.model.proofs.Invariant.Choice.{one_if_free}

unfoldable pub frees : ℕ → (ℕ → KindOfFrame) → ℕ
frees n kind = sum n (λ f. one_if_free (kind f))

-- the free frame below n that has i free ones below it
unfoldable pub free_at : ℕ → (ℕ → KindOfFrame) → ℕ → ℕ
free_at zero kind i = 0
free_at (suc n) kind i = cond (is_free (kind n) && eqb i (frees n kind)) n (free_at n kind i)

pub record Place (kind : ℕ → KindOfFrame) (i f : ℕ) : Type 0 where
  pub is : kind f ≡ free
  pub below : frees f kind ≡ i

placed : (n : ℕ) (kind : ℕ → KindOfFrame) (i : ℕ) → i < frees n kind → Place kind i (free_at n kind i)
unfolding free_at frees sum
placed zero kind i l = absurd (omega arith)
placed (suc n) kind i l = elim (bool? (is_free (kind n))) [
  | inr a ↦ rw a (placed n kind i (let z : one_if_free (kind n) ≡ 0 = rw a in omega arith))
  | inl a ↦ elim (eq? i (frees n kind)) [
    | inl e ↦ rw (a, eq-eqb i (frees n kind) e) (record { is = free_is (kind n) a; below = sym e })
    | inr e ↦ rw (a, ne_eqb i (frees n kind) e) (placed n kind i
        (let z : one_if_free (kind n) ≡ 1 = rw a in less i (frees n kind) e (omega arith)))
  ]
]
  where
    less : (i m : ℕ) → (i ≡ m → ⊥) → i < m + 1 → i < m
    less i m ne l = omega arith

unfoldable pub lowest : State → ℕ → ℕ
lowest s = free_at s.size s.kind

pub lowest_chosen : (s : State) → Choice s (lowest s)
unfolding free_frames frees lowest
lowest_chosen s = record {
  frees = λ i l. (placed s.size s.kind i l).is;
  once = λ i j l m e.
      let a = (placed s.size s.kind i l).below in
      let b = (placed s.size s.kind j (omega arith)).below in
      let z : i ≡ j = cc in
      omega arith;
}
