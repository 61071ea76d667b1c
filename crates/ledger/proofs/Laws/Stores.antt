-- What the functions that store in a guest's row or for a guest do, from the stores that they make to Changed.
use mathlib.Core.Path.{◌≡◌, refl, sym, ap, ◌∙◌}
use mathlib.Core.Bool.{Bool, true}
use mathlib.Core.Logic.{inl, inr}
use mathlib.Core.List.{List}
use Prim.Native.Nat.{ℕ, ◌+◌, ◌*◌, ◌≤◌, ◌<◌}
use native.Mathlib.Omega.{arith}
use native.Mathlib.Numerals.{add-one}
use lib.ListN.{length}
use mir.Val.{bool_byte as from_bool}
use Rattle.model.specs.Base.{upd2}
use Rattle.model.specs.State.{NOTHING, State, guests, is_guest}
use Rattle.ledger.specs.Columns.{HEADER_WORDS, GUEST_ROWS, FREE_COUNT, FRAME_COUNT, EXISTS, DIRTY, ROOT, KIND, CELLS, SHARE_UNIT, FRAME_AT, PLACE}
use Rattle.ledger.specs.Cells.{store}
use Rattle.ledger.proofs.Laws.Cells.{column_other}
use Rattle.ledger.specs.Layout.{Row, frames, guest_rows, size_in, size_of, shared_of, count_of, word_of, state_in, state_of}
use Rattle.ledger.specs.Fields.{with_cell, with_share, with_no_shares, with_count, with_existence, with_root_at, with_dirt}
use Rattle.ledger.specs.LedgerSound.{RowsSound, LedgerSound, Changed}
use Rattle.ledger.proofs.Laws.LedgerSound.{holds_itself, holds_frame, holds_guest, changed, changed_as}
use Rattle.ledger.proofs.Laws.Fields.{BesideCells, guest_low, state_existence, state_dirt, state_root, state_cell, share_alone, count_alone, unshared_below, unshared_size, guest_0_unshared, nobody_shares}

-- the rows of the frames are all there
module _ (l : List ℕ) (s : LedgerSound l) where
  pub row_low : (f : ℕ) → f < size_of l → Row l f
  row_low f h = let a = s.length_fits in let b = s.few in (omega arith, omega arith)

  pub guests_there : HEADER_WORDS ≤ length l
  guests_there = let a = s.length_fits in omega arith

-- a store in a guest's row
pub guest_changed : {φ : State → State} (l l' : List ℕ) (j g v : ℕ) → LedgerSound l → j ≤ ROOT → g < GUEST_ROWS →
    ((w : ℕ → ℕ → ℕ) → state_in (frames l) (upd2 (guest_rows l) j g v) w ≡ φ (state_in (frames l) (guest_rows l) w)) →
    l' ≡ store 0 l j g v → Changed φ l l'
guest_changed {φ} l l' j g v s hj hg q e = rw e (changed l (store 0 l j g v) (frames l) (upd2 (guest_rows l) j g v)
    (holds_guest (holds_itself l) j g v (omega arith) hg (guests_there l s)) stocked q)
  where
    stocked : RowsSound (length l) (frames l) (upd2 (guest_rows l) j g v)
    stocked =
        let a = column_other (guest_rows l) j g v FRAME_COUNT (λ (x : FRAME_COUNT ≡ j). omega arith) in
        let b = column_other (guest_rows l) j g v FREE_COUNT (λ (x : FREE_COUNT ≡ j). omega arith) in
        unfold size_in in record { length_fits = rw a s.length_fits; few = rw a s.few; free_set = rw (a, b) s.free_set }

pub existence_changed : (l l' : List ℕ) (g : ℕ) (b : Bool) → LedgerSound l → g < GUEST_ROWS → l' ≡ store 0 l EXISTS g (from_bool b) →
    Changed (with_existence g b) l l'
existence_changed l l' g b s h = guest_changed l l' EXISTS g (from_bool b) s (omega arith) h (λ w. state_existence _ _ w g b)

pub dirt_changed : (l l' : List ℕ) (g : ℕ) (b : Bool) → LedgerSound l → g < GUEST_ROWS → l' ≡ store 0 l DIRTY g (from_bool b) →
    Changed (with_dirt g b) l l'
dirt_changed l l' g b s h = guest_changed l l' DIRTY g (from_bool b) s (omega arith) h (λ w. state_dirt _ _ w g b)

pub root_changed : (l l' : List ℕ) (g t : ℕ) → LedgerSound l → g < GUEST_ROWS → l' ≡ store 0 l ROOT g t → Changed (with_root_at g t) l l'
root_changed l l' g t s h = guest_changed l l' ROOT g t s (omega arith) h (λ w. state_root _ _ w g t)

-- a store in a frame's cell for a guest
pub cell_changed : (l l' : List ℕ) (f g how c : ℕ) → LedgerSound l → f < size_of l → is_guest g ≡ true → c < SHARE_UNIT →
    l' ≡ store HEADER_WORDS l (CELLS + g) f (how * SHARE_UNIT + c) → Changed (with_cell f g how c) l l'
cell_changed l l' f g how c s hf hg fits e =
    let v : ℕ = how * SHARE_UNIT + c in
    let low = guest_low g hg in
    let low1 = low.1 in
    let row = row_low l s f hf in
    let row1 = row.1 in
    rw e (changed l (store HEADER_WORDS l (CELLS + g) f v) (upd2 (frames l) (CELLS + g) f v) (guest_rows l)
    (holds_frame (holds_itself l) (CELLS + g) f v (omega arith) row.0 (omega arith)) stocked
    (λ w. state_cell (frames l) (guest_rows l) w f g hg how c v fits refl))
  where
    off : (j : ℕ) → BesideCells j → j ≡ CELLS + g → ⊥
    off j (inl h) x = let low = guest_low g hg in omega arith
    off j (inr h) x = let low = guest_low g hg in omega arith

    stocked : RowsSound (length l) (upd2 (frames l) (CELLS + g) f (how * SHARE_UNIT + c)) (guest_rows l)
    stocked = record {
      length_fits = s.length_fits;
      few = s.few;
      free_set = rw (
        column_other (frames l) (CELLS + g) f (how * SHARE_UNIT + c) KIND (off KIND (inl (omega arith))),
        column_other (frames l) (CELLS + g) f (how * SHARE_UNIT + c) FRAME_AT (off FRAME_AT (inr (omega arith))),
        column_other (frames l) (CELLS + g) f (how * SHARE_UNIT + c) PLACE (off PLACE (inr (omega arith))),
      ) s.free_set;
    }

-- and the other of its numbers is as it was
pub share_changed : (l l' : List ℕ) (f g how n c : ℕ) → n ≡ how → c ≡ count_of l f g → Changed (with_cell f g n c) l l' →
    Changed (with_share f g how) l l'
share_changed l l' f g how n c a e d = changed_as d (λ ram. rw (a, e) (unfold state_in in share_alone f g (state_of ram l) how))

pub count_changed : (l l' : List ℕ) (f g how c : ℕ) → how ≡ shared_of l f g → Changed (with_cell f g how c) l l' →
    Changed (with_count f g c) l l'
count_changed l l' f g how c e d = changed_as d (λ ram. rw e (unfold state_in in count_alone f g (state_of ram l) c))

module _ (l : List ℕ) (s : LedgerSound l) (f : ℕ) (hf : f < size_of l) where
  -- nobody shares f any more, guest by guest
  pub unshared_none : Changed (unshared_below 1 f) l l
  unshared_none = record { ledger_sound = s; state = λ ram. sym (guest_0_unshared (frames l) (guest_rows l) (word_of ram) f) }

  module _ (g : ℕ) (l₁ : List ℕ) (c : Changed (unshared_below g f) l l₁) where
    pub unshared_low : f < size_of l₁
    unshared_low = let e : size_of l₁ ≡ size_of l = same in omega arith
      where
        same : size_of l₁ ≡ size_of l
        same = unfold state_in in ap (λ (x : State). x.size) (c.state l) ∙ unshared_size g f (state_of l l)

    pub unshared_more : (l₂ : List ℕ) → Changed (with_share f g NOTHING) l₁ l₂ → Changed (unshared_below (g + 1) f) l l₂
    unshared_more l₂ d = rw (add-one g) (record {
      ledger_sound = d.ledger_sound;
      state = λ ram. unfold unshared_below in d.state ram ∙ ap (with_share f g NOTHING) (c.state ram);
    })

    pub unshared_all : g ≡ guests + 1 → Changed (with_no_shares f) l l₁
    unshared_all e = record {
      ledger_sound = c.ledger_sound;
      state = λ ram. c.state ram ∙ ap (λ (x : ℕ). unshared_below x f (state_of ram l)) e
          ∙ nobody_shares (frames l) (guest_rows l) (word_of ram) f;
    }
