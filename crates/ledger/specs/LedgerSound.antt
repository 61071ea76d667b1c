-- A ledger that fits: its length is that of its n, and its free set is right. Every function of this crate keeps it.
-- Changed says what a function did: the state of the two slices is changed so, whatever RAM holds.
use Rattle.std.specs.Prelude.{◌≡◌, List, ℕ, suc, ◌≤◌, length}
use Rattle.model.specs.State.{State, KindOfFrame}
use Rattle.ledger.specs.Columns.{room_for_frames, KIND, FRAME_AT, PLACE, FREE_COUNT, HEADER}
use Rattle.ledger.specs.Layout.{frames, guest_rows, words_for, size_in, pick_of, state_of}
use Rattle.ledger.specs.Fields.{with_kind}
use Rattle.ledger.specs.FreeSet.{FreeSet}

-- of the length of a ledger, its frames' rows and its guests' rows
pub record RowsSound (len : ℕ) (F G : ℕ → ℕ → ℕ) : Type 0 where
  pub length_fits : len ≡ words_for (size_in G)
  pub few : size_in G ≤ room_for_frames
  pub free_set : FreeSet (size_in G) (F KIND) (F FRAME_AT) (F PLACE) (G FREE_COUNT HEADER)

abbrev pub LedgerSound : List ℕ → Type 0
LedgerSound l = RowsSound (length l) (frames l) (guest_rows l)

-- the ledger l holds these cells
pub record Holds (len : ℕ) (l : List ℕ) (F G : ℕ → ℕ → ℕ) : Type 0 where
  pub length_is : length l ≡ len
  pub frames_are : frames l ≡ F
  pub guests_are : guest_rows l ≡ G

pub record Changed (φ : State → State) (l l' : List ℕ) : Type 0 where
  pub ledger_sound : LedgerSound l'
  pub state : (ram : List ℕ) → state_of ram l' ≡ φ (state_of ram l)

-- a free frame is taken: if it was the first in order, the others follow in theirs
pub record Taken (f : ℕ) (k : KindOfFrame) (l l' : List ℕ) : Type 0 where
  pub changes : Changed (with_kind f k) l l'
  pub next : f ≡ pick_of l 0 → pick_of l' ≡ (λ i. pick_of l (suc i))
