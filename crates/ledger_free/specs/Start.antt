-- The ledger right after set-up, row by row: place i of the free set holds frame n - 1 - i, so that the lowest is taken first.
use Rattle.std.specs.Prelude.{◌≡◌, cond, List, ℕ, ◌+◌, ◌-◌, ◌<◌, ◌/◌, ◌%◌, ltb, length}
use Rattle.model.specs.Operations.{started}
use Rattle.model.specs.State.{MONITOR, FREE}
use Rattle.ledger.specs.Columns.{WORD_LIMIT, HEADER, FRAME_COUNT, FIRST_LOW, FIRST_HIGH, KIND, FRAME_AT, PLACE}
use Rattle.ledger.specs.Cells.{store}
use Rattle.ledger.specs.Layout.{frames, guest_rows, words_for, word_of, pick_of, state_of}
use Rattle.ledger.specs.LedgerSound.{LedgerSound}

pub record LaidOut (b n k : ℕ) (l : List ℕ) : Type 0 where
  pub ledger_sound : LedgerSound l
  pub state : (ram : List ℕ) → state_of ram l ≡ started b n k (word_of ram)
  pub lowest_first : (i : ℕ) → i < n - k → pick_of l i ≡ k + i

-- what frame f is at first
abbrev pub kind_first : (f k : ℕ) → ℕ
kind_first f k = cond (ltb f k) MONITOR FREE

-- rows in which nothing stands
unfoldable pub none : ℕ → ℕ → ℕ
none j r = 0

-- the first i frames have their kinds and places, and all else is 0
pub record Filled (n k i : ℕ) (l : List ℕ) : Type 0 where
  pub length_is : length l ≡ words_for n
  pub kinds : (r : ℕ) → r < i → frames l KIND r ≡ kind_first r k
  pub dense : (r : ℕ) → r < n → n - 1 - r < i → frames l FRAME_AT r ≡ n - 1 - r
  pub places : (r : ℕ) → r < i → frames l PLACE r ≡ n - 1 - r
  pub others : (j r : ℕ) → (j ≡ KIND → ⊥) → (j ≡ FRAME_AT → ⊥) → (j ≡ PLACE → ⊥) → frames l j r ≡ 0
  pub guests_none : guest_rows l ≡ none

-- b / 4096 and n are stored
unfoldable pub ram_stored : List ℕ → (first n : ℕ) → List ℕ
ram_stored l first n =
    store 0 (store 0 (store 0 l FRAME_COUNT HEADER n) FIRST_LOW HEADER (first % WORD_LIMIT)) FIRST_HIGH HEADER (first / WORD_LIMIT)
