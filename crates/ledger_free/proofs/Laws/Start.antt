-- Laws of specs/Start.
use mathlib.Core.Path.{◌≡◌, refl, sym, ap, ◌∙◌, fun_ext}
use mathlib.Core.Bool.{Bool, true, false, ◌&&◌, ◌||◌, cond}
use mathlib.Core.Logic.{◌⊎◌, inl, inr}
use mathlib.Core.List.{List}
use Prim.Native.Nat.{ℕ, ◌+◌, ◌*◌, ◌-◌, ◌≤◌, ◌<◌, ◌/◌, ◌%◌}
use native.Mathlib.Omega.{arith}
use lib.Dec.{ltb}
use lib.ListN.{length, get_or, get_or-eq_default, replicate}
use Rattle.std.proofs.lemmas.List.{length-replicate, get_or-replicate}
use borrow.Author.Tests.{le-ltb, lt-ltb, le-leb, lt-leb}
use Rattle.model.proofs.Laws.Base.{lt?}
use Rattle.model.specs.Base.{upd, upd2}
use Rattle.model.proofs.Laws.Base.{upd_at, upd_other}
use Rattle.model.specs.State.{monitor, free, is_guest}
use Rattle.model.specs.Operations.{at_first, started}
use Rattle.ledger.specs.Cells.{cell, store}
use Rattle.ledger.proofs.Laws.Cells.{column_other}
use Rattle.ledger.specs.Layout.{frames, words_for, kind_at, size_in, first_in, kind_in, per_guest, share_part, count_part, exists_in, dirty_in, root_in, pick_in, word_of, state_in}
use Rattle.ledger.specs.Columns.{ROW_WORDS, GUEST_ROWS, HEADER_WORDS, room_for_frames, WORD_LIMIT, HEADER, FREE_COUNT, FRAME_COUNT, FIRST_LOW, FIRST_HIGH, KIND, GUEST, HEIGHT, RANGE, CELLS, FRAME_AT, PLACE}
use Rattle.ledger.specs.FreeSet.{FreeSet}
use Rattle.ledger.specs.LedgerSound.{RowsSound, Holds}
use Rattle.ledger.proofs.Laws.LedgerSound.{holds_frame, holds_guest}
use Rattle.ledger.proofs.Laws.Fields.{guest_low}
use Rattle.ledger_free.specs.Moves.{placed}
use Rattle.ledger_free.specs.Start.{LaidOut, kind_first, none, Filled, ram_stored}

zero_cell : (o m : ℕ) (l : List ℕ) (j r : ℕ) → cell o m (replicate (length l) 0) j r ≡ 0
unfolding cell
zero_cell o m l j r = none_or (ltb j ROW_WORDS && ltb r m) _ (at (length l) (o + ROW_WORDS * r + j) 0 refl)
  where
    at : (n i x : ℕ) → x ≡ 0 → get_or (replicate n x) i 0 ≡ 0
    at n i x e = elim (lt? i n) [
      | inl k ↦ get_or-replicate n i x 0 k ∙ e
      | inr k ↦ get_or-eq_default (replicate n x) 0 (let q = length-replicate n x in omega arith)
    ]

    none_or : (b : Bool) (v : ℕ) → v ≡ 0 → cond b v 0 ≡ 0
    none_or true v e = e
    none_or false v e = refl

pub filled_none : (n k : ℕ) (l l' : List ℕ) → length l ≡ words_for n → l' ≡ replicate (length l) 0 → Filled n k 0 l'
unfolding none
filled_none n k l l' len e = rw e (record {
  length_is = length-replicate (length l) 0 ∙ len;
  kinds = λ r h. absurd (omega arith);
  dense = λ r a h. absurd (omega arith);
  places = λ r h. absurd (omega arith);
  others = λ j r a b c. zero_cell HEADER_WORDS room_for_frames l j r;
  guests_none = fun_ext (λ j. fun_ext (λ r. zero_cell 0 GUEST_ROWS l j r));
})

module _ {n k i : ℕ} {l : List ℕ} (h : Filled n k i l) (hi : i < n) (few : n ≤ room_for_frames) where
  pub row_fits : (i < room_for_frames) × (HEADER_WORDS + ROW_WORDS * i + ROW_WORDS ≤ length l)
  row_fits = let a = h.length_is in (omega arith, omega arith)

  abbrev rows : ℕ → ℕ → ℕ → ℕ
  rows v = upd2 (upd2 (upd2 (frames l) KIND i v) FRAME_AT (n - 1 - i) i) PLACE i (n - 1 - i)

  three : (v : ℕ) → Holds (words_for n) (placed (store HEADER_WORDS l KIND i v) i (n - 1 - i)) (rows v) none
  unfolding placed
  three v =
      let d : Holds (words_for n) l (frames l) none = record { length_is = h.length_is; frames_are = refl; guests_are = h.guests_none }
      in
      let low : i < room_for_frames = row_fits.0 in
      let high : n - 1 - i < room_for_frames = omega arith in
      holds_frame (holds_frame (holds_frame d KIND i v (omega arith) low (omega arith)) FRAME_AT (n - 1 - i) i (omega arith) high
      (omega arith)) PLACE i (n - 1 - i) (omega arith) low (omega arith)

  before : (r : ℕ) → r < i + 1 → (r ≡ i) ⊎ (r < i)
  before r a = elim (lt? r i) [ inl b ↦ inr b | inr b ↦ inl (omega arith) ]

  pub filled_more : {v : ℕ} {l₁ l' : List ℕ} → v ≡ kind_first i k → l₁ ≡ store HEADER_WORDS l KIND i v → l' ≡ placed l₁ i (n - 1 - i) →
      Filled n k (i + 1) l'
  unfolding upd2 upd
  filled_more {v} {l₁} {l'} ev e1 e2 =
      let d = three v in
      rw (e2, e1) (record {
        length_is = d.length_is;
        kinds = λ r a. rw d.frames_are (one (frames l KIND) i v (λ x. kind_first x k) r (before r a) ev h.kinds);
        dense = λ r b a. rw d.frames_are (other (frames l FRAME_AT) r b (before (n - 1 - r) a) (h.dense r b));
        places = λ r a. rw d.frames_are (one (frames l PLACE) i (n - 1 - i) (λ x. n - 1 - x) r (before r a) refl h.places);
        others = λ j r a b c. rw (
          d.frames_are,
          column_other (upd2 (upd2 (frames l) KIND i v) FRAME_AT (n - 1 - i) i) PLACE i (n - 1 - i)
              j c,
          column_other (upd2 (frames l) KIND i v) FRAME_AT (n - 1 - i) i j b,
          column_other (frames l) KIND i v j a,
        )
            (h.others j r a b c);
        guests_none = d.guests_are;
      })
    where
      one : (F : ℕ → ℕ) (i v : ℕ) (want : ℕ → ℕ) (r : ℕ) → (r ≡ i) ⊎ (r < i) → v ≡ want i → ((r : ℕ) → r < i → F r ≡ want r) →
          upd F i v r ≡ want r
      one F i v want r (inl a) e f = upd_at F i v r a ∙ e ∙ ap want (sym a)
      one F i v want r (inr a) e f = upd_other F i v r (λ (z : r ≡ i). omega arith) ∙ f r a

      other : (F : ℕ → ℕ) (r : ℕ) → r < n → (n - 1 - r ≡ i) ⊎ (n - 1 - r < i) → (n - 1 - r < i → F r ≡ n - 1 - r) →
          upd F (n - 1 - i) i r ≡ n - 1 - r
      other F r b (inl a) f = upd_at F (n - 1 - i) i r (omega arith) ∙ sym a
      other F r b (inr a) f = upd_other F (n - 1 - i) i r (λ (z : r ≡ n - 1 - i). omega arith) ∙ f a

-- the whole ledger
module _ (b : ℕ) {n k : ℕ} {l : List ℕ} (h : Filled n k n l) (hk : k < n) (few : n ≤ room_for_frames) where
  abbrev filled : ℕ → ℕ → ℕ
  filled = frames l

  abbrev headed : ℕ → ℕ → ℕ
  headed = upd2 (upd2 (upd2 (upd2 none FRAME_COUNT HEADER n) FIRST_LOW HEADER (b / 4096 % WORD_LIMIT)) FIRST_HIGH HEADER
      (b / 4096 / WORD_LIMIT))
      FREE_COUNT HEADER (n - k)

  kind_is : (f : ℕ) → cond (ltb f n) (kind_at (filled KIND f) (filled GUEST f) (filled HEIGHT f) (filled RANGE f)) monitor ≡ at_first n k f
  unfolding kind_at at_first
  kind_is f = elim (lt? f n) [
    | inr a ↦ rw (le-ltb f n a, le-leb n f a) (either (ltb f k))
    | inl a ↦ elim (lt? f k) [
      | inl c ↦ rw (lt-ltb f n a, h.kinds f a, lt-ltb f k c)
      | inr c ↦ rw (lt-ltb f n a, h.kinds f a, le-ltb f k c, lt-leb n f a)
    ]
  ]
    where
      either : (t : Bool) → monitor ≡ cond (t || true) monitor free
      either true = refl
      either false = refl

  none_per : (part : ℕ → ℕ) → part 0 ≡ 0 → (f g : ℕ) → per_guest part filled f g ≡ 0
  unfolding per_guest
  none_per part z f g = go (is_guest g) refl
    where
      go : (t : Bool) → is_guest g ≡ t → cond t (part (filled (CELLS + g) f)) 0 ≡ 0
      go false q = refl
      go true q =
          let low = guest_low g q in
          rw (h.others (CELLS + g) f (λ (e : CELLS + g ≡ KIND). omega arith) (λ (e : CELLS + g ≡ FRAME_AT). omega arith)
          (λ (e : CELLS + g ≡ PLACE). omega arith)) z

  state_is : (w : ℕ → ℕ → ℕ) → state_in filled headed w ≡ started b n k w
  unfolding state_in started size_in first_in kind_in exists_in dirty_in root_in none upd2 upd share_part count_part
  state_is w = λ i. record {
    size = n;
    first = joins (b / 4096) i;
    kind = λ f. kind_is f i;
    shared = λ f g. none_per share_part (omega arith) f g i;
    count = λ f g. none_per count_part (omega arith) f g i;
    exists = λ g. false;
    root = λ g. 0;
    dirty = λ g. false;
    word = w;
  }
    where
      joins : (x : ℕ) → x % WORD_LIMIT + WORD_LIMIT * (x / WORD_LIMIT) ≡ x
      joins x = omega arith

  set_is : FreeSet n (filled KIND) (filled FRAME_AT) (filled PLACE) (n - k)
  set_is = record {
    few = omega arith;
    d_low = λ i a. rw (h.dense i a (omega arith)) (omega arith);
    p_low = λ f a. rw (h.places f a) (omega arith);
    p_d = λ i a. rw (h.dense i a (omega arith), h.places (n - 1 - i) (omega arith)) (omega arith);
    d_p = λ f a. rw (h.places f a, h.dense (n - 1 - f) (omega arith) (omega arith)) (omega arith);
    in_set = λ f a. rw (h.kinds f a, h.places f a) (elim (lt? f k) [
      | inl c ↦ rw (lt-ltb f k c, le-ltb (n - 1 - f) (n - k) (omega arith))
      | inr c ↦ rw (le-ltb f k c, lt-ltb (n - 1 - f) (n - k) (omega arith))
    ]);
  }

  stocked : RowsSound (words_for n) filled headed
  unfolding size_in none upd2 upd
  stocked = record { length_fits = refl; few = few; free_set = set_is }

  order_is : (i : ℕ) → i < n - k → pick_in filled headed i ≡ k + i
  unfolding pick_in none upd2 upd
  order_is i a = h.dense (n - k - 1 - i) (omega arith) (omega arith) ∙ back
    where
      back : n - 1 - (n - k - 1 - i) ≡ k + i
      back = omega arith

  pub laid_out : {l₁ l' : List ℕ} → l₁ ≡ ram_stored l (b / 4096) n → l' ≡ store 0 l₁ FREE_COUNT HEADER (n - k) → LaidOut b n k l'
  unfolding ram_stored
  laid_out {l₁} {l'} e1 e2 =
      let len = h.length_is in
      let d : Holds (words_for n) l filled none = record { length_is = h.length_is; frames_are = refl; guests_are = h.guests_none } in
      let x : Holds (words_for n) l' filled headed = rw (e2, e1) (holds_guest (holds_guest (holds_guest (holds_guest d
      FRAME_COUNT HEADER n (omega arith) (omega arith) (omega arith)) FIRST_LOW HEADER (b / 4096 % WORD_LIMIT) (omega arith) (omega arith)
      (omega arith))
      FIRST_HIGH HEADER (b / 4096 / WORD_LIMIT) (omega arith) (omega arith) (omega arith)) FREE_COUNT HEADER (n - k) (omega arith)
      (omega arith) (omega arith)) in
      record {
        ledger_sound = rw (x.length_is, x.frames_are, x.guests_are) stocked;
        state = λ ram. rw (x.frames_are, x.guests_are) (state_is (word_of ram));
        lowest_first = λ i a. rw (x.frames_are, x.guests_are) (order_is i a);
      }
