-- Laws of specs/Sound.
use mathlib.Core.Path.{◌≡◌, refl, sym, ap, ◌∙◌}
use mathlib.Core.Bool.{Bool, true, false, ◌&&◌, cond}
use mathlib.Core.Logic.{inl, inr}
use mathlib.Core.List.{List}
use Prim.Native.Nat.{ℕ, zero, suc, ◌+◌, ◌*◌, ◌-◌, ◌≤◌, ◌<◌}
use native.Mathlib.Omega.{arith}
use native.Mathlib.Nat.{suc-mul}
use lib.Dec.{eqb}
use Rattle.model.proofs.Laws.Base.{eq?, sum_cong, sum_none, sum_point}
use Rattle.model.specs.Base.{upd, sum}
use Rattle.model.proofs.Laws.Base.{upd_same, upd_at, upd_other}
use Rattle.model.specs.State.{FREE, KindOfFrame, free, page, is_free, is_guest, free_frames}
use Rattle.model.specs.Entry.{Entry}
use Rattle.model.specs.Translate.{entry_at}
use Rattle.model.specs.Changes.{Choice}
use Rattle.model.specs.Invariant.{hit, places, is_last, leads}
use Rattle.model.proofs.Invariant.Core.{low as core_low}
use Rattle.ledger.specs.Columns.{KIND, FRAME_AT, PLACE, SHARE_UNIT}
use Rattle.ledger.specs.Layout.{frames, guest_rows, kind_at, pick_in, state_in, size_of, kind_of, exists_of, count_of, pick_of, state_of}
use Rattle.ledger.proofs.Laws.FreeSet.{free_number, free_at, once_at}
use Rattle.ledger.proofs.Laws.Kinds.{free_here, kind_here}
use Rattle.ledger.specs.LedgerSound.{LedgerSound}
use Rattle.ledger.specs.Words.{Within}
use Rattle.ledger.specs.Sound.{Sound, free_of}

module _ (l : List ℕ) (s : LedgerSound l) where
  pub free_is : (ram : List ℕ) → free_frames (state_of ram l) ≡ free_of l
  unfolding free_frames state_in
  free_is ram =
      sum_cong (size_of l) (λ f. cond (is_free (kind_of l f)) 1 0) (λ f. cond (eqb (frames l KIND f) FREE) 1 0)
      (λ f h. rw (free_here (frames l) (guest_rows l) f h))
      ∙ free_number (size_of l) (frames l KIND) (frames l FRAME_AT) (frames l PLACE) (free_of l) s.free_set

  -- the frame that comes next
  pub picked : (i : ℕ) → i < free_of l → (pick_of l i < size_of l) × (kind_of l (pick_of l i) ≡ free)
  unfolding pick_in
  picked i h =
      let a = free_at (size_of l) (frames l KIND) (frames l FRAME_AT) (frames l PLACE) (free_of l) s.free_set (free_of l - 1 - i)
      (omega arith) in
      (a.0, kind_here (frames l) (guest_rows l) (frames l FRAME_AT (free_of l - 1 - i)) a.0 ∙ free_one _ _ _ _ a.1)
    where
      free_one : (k g h p : ℕ) → k ≡ FREE → kind_at k g h p ≡ free
      free_one k g h p e = rw e (unfold kind_at in refl)

  pub next_is : (c r : ℕ) → 0 < free_of l → c ≡ free_of l → r ≡ frames l FRAME_AT (c - 1) →
      (r ≡ pick_of l 0) × (r < size_of l) × (kind_of l r ≡ free)
  unfolding pick_in
  next_is c r some a b =
      let e : r ≡ frames l FRAME_AT (free_of l - 1 - 0) = b ∙ ap (frames l FRAME_AT) (omega arith) in
      let p = picked 0 some in
      rw e (refl, p.0, p.1)

  pub chosen : (ram : List ℕ) → Choice (state_of ram l) (pick_of l)
  unfolding state_in pick_in
  chosen ram = record {
    frees = λ i h. (picked i (omega (arith, free_is ram))).1;
    once = λ i j h k e.
        let few = s.free_set.few in
        let z = once_at (size_of l) (frames l KIND) (frames l FRAME_AT) (frames l PLACE) (free_of l) s.free_set (free_of l - 1 - i)
        (free_of l - 1 - j) (omega (arith, free_is ram)) (omega (arith, free_is ram)) e in
        omega (arith, free_is ram);
  }

-- a count is at most the number of all entries
sum_most : (n m : ℕ) (f : ℕ → ℕ) → ((k : ℕ) → f k ≤ m) → sum n f ≤ n * m
unfolding sum
sum_most zero m f h = omega arith
sum_most (suc n) m f h = let a = sum_most n m f h in let b = h n in add_more n m (sum n f) (f n) a b
  where
    add_more : (n m a b : ℕ) → a ≤ n * m → b ≤ m → a + b ≤ suc n * m
    add_more n m a b x y = let e = suc-mul n m in omega arith

hit_most : (x : KindOfFrame) (e : Entry) (f g : ℕ) → hit x e f g ≤ 1
unfolding hit
hit_most x e f g = go (is_last x g && leads e f)
  where
    go : (b : Bool) → cond b 1 0 ≤ 1
    go true = omega arith
    go false = omega arith

module _ (ram l : List ℕ) (ok : Sound ram l) where
  -- a page's own frame has no entries, so one place more always fits
  pub count_fits : (f o g : ℕ) → kind_of l f ≡ page o → count_of l f g + 512 ≤ SHARE_UNIT
  unfolding state_in places
  count_fits f o g p =
      let a = ok.core.counts f g in
      let few = ok.ledger_sound.few in
      let most = sum_most (size_of l) 512 (upd rows f 512) bound in
      let here = sum_point (size_of l) rows (upd rows f 512) f low (λ j ne. sym (upd_other rows f 512 j ne)) in
      let none : rows f ≡ 0 = sum_none 512 (λ i. hit (kind_of l f) (entry_at (state_of ram l) f i) f g) (λ i. rw p (unfold hit in refl)) in
      let full = upd_same rows f 512 in
      omega arith
    where
      rows : ℕ → ℕ
      rows t = sum 512 (λ i. hit (kind_of l t) (entry_at (state_of ram l) t i) f g)

      low : f < size_of l
      low = core_low (state_of ram l) ok.core f (page o) p refl

      bound : (t : ℕ) → upd rows f 512 t ≤ 512
      bound t = elim (eq? t f) [
        | inl e ↦ rw (upd_at rows f 512 t e) (omega arith)
        | inr e ↦ rw (upd_other rows f 512 t e) (sum_most 512 1 (λ i. hit (kind_of l t) (entry_at (state_of ram l) t i) f g)
            (λ i. hit_most (kind_of l t) (entry_at (state_of ram l) t i) f g))
      ]

  -- a frame that is there lies in RAM
  pub within : (f : ℕ) → f < size_of l → Within ram f
  within f h = let a = ok.ram_fits in omega arith

  -- a guest that exists has a number
  pub guest_there : (g : ℕ) → exists_of l g ≡ true → is_guest g ≡ true
  unfolding state_in
  guest_there g e = ok.core.guests_only g e
