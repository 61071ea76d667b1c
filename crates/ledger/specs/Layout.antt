-- How document 03, section 1 lies in the lent ledger, a slice of 32-bit words in rows of 16 (64 bytes).
-- Row 0 is the header, rows 1 to 8 are guests 1 to 8, row 9 + f is frame f. There is room for 8 guests and 2,097,152 frames.
-- The columns of each row, and what stands in them: Columns.
use Rattle.std.specs.Prelude.{Bool, cond, List, ℕ, ◌+◌, ◌*◌, ◌-◌, ◌≤◌, ◌<◌, ◌/◌, ◌%◌, eqb, ltb, length}
use Rattle.memory.specs.Word.{word_at}
use Rattle.model.specs.State.{FREE, TABLE, DRAINING_TABLE, PAGE, DRAINING_PAGE, State, KindOfFrame, monitor, free, table, draining_table, page, draining_page, is_guest}
use Rattle.ledger.specs.Columns.{ROW_WORDS, GUEST_ROWS, HEADER_WORDS, room_for_frames, WORD_LIMIT, HEADER, FREE_COUNT, FRAME_COUNT, FIRST_LOW, FIRST_HIGH, EXISTS, DIRTY, ROOT, YES, KIND, GUEST, HEIGHT, RANGE, CELLS, SHARE_UNIT, FRAME_AT}
use Rattle.ledger.specs.Cells.{cell}

abbrev pub words_for : ℕ → ℕ
words_for n = HEADER_WORDS + ROW_WORDS * n

-- the row of frame f is there
abbrev pub Row : List ℕ → ℕ → Type 0
Row l f = (f < room_for_frames) × (HEADER_WORDS + ROW_WORDS * f + ROW_WORDS ≤ length l)

abbrev pub frames : List ℕ → (column f : ℕ) → ℕ
frames l = cell HEADER_WORDS room_for_frames l

abbrev pub guest_rows : List ℕ → (column g : ℕ) → ℕ
guest_rows l = cell 0 GUEST_ROWS l

-- the numbers of what a frame is are those of model's kind_number
unfoldable pub kind_at : (k g h p : ℕ) → KindOfFrame
kind_at k g h p =
    cond (eqb k FREE) free (
    cond (eqb k TABLE) (table g h p) (
    cond (eqb k DRAINING_TABLE) (draining_table g h p) (
    cond (eqb k PAGE) (page g) (
    cond (eqb k DRAINING_PAGE) (draining_page g) (
    monitor)))))

-- What is read off the frames' rows F and the guests' rows G.
unfoldable pub size_in : (G : ℕ → ℕ → ℕ) → ℕ
size_in G = G FRAME_COUNT HEADER

unfoldable pub first_in : (G : ℕ → ℕ → ℕ) → ℕ
first_in G = G FIRST_LOW HEADER + WORD_LIMIT * G FIRST_HIGH HEADER

unfoldable pub kind_in : (F G : ℕ → ℕ → ℕ) → ℕ → KindOfFrame
kind_in F G f = cond (ltb f (size_in G)) (kind_at (F KIND f) (F GUEST f) (F HEIGHT f) (F RANGE f)) monitor

unfoldable pub per_guest : (ℕ → ℕ) → (F : ℕ → ℕ → ℕ) → (f g : ℕ) → ℕ
per_guest part F f g = cond (is_guest g) (part (F (CELLS + g) f)) 0

unfoldable pub share_part : ℕ → ℕ
share_part x = x / SHARE_UNIT

unfoldable pub count_part : ℕ → ℕ
count_part x = x % SHARE_UNIT

unfoldable pub exists_in : (G : ℕ → ℕ → ℕ) → ℕ → Bool
exists_in G g = eqb (G EXISTS g) YES

unfoldable pub dirty_in : (G : ℕ → ℕ → ℕ) → ℕ → Bool
dirty_in G g = eqb (G DIRTY g) YES

unfoldable pub root_in : (G : ℕ → ℕ → ℕ) → ℕ → ℕ
root_in G = G ROOT

-- The free frames, in the order in which they are taken: from the last of them in the free set on. (Set-up puts the lowest there.)
unfoldable pub pick_in : (F G : ℕ → ℕ → ℕ) → ℕ → ℕ
pick_in F G i = F FRAME_AT (G FREE_COUNT HEADER - 1 - i)

-- word i of frame f in RAM
unfoldable pub word_of : List ℕ → (f i : ℕ) → ℕ
word_of m f i = cond (ltb i 512) (word_at m (f * 4096 + i * 8)) 0

-- The state of the two slices.
unfoldable pub state_in : (F G word : ℕ → ℕ → ℕ) → State
state_in F G w = record {
  size = size_in G;
  first = first_in G;
  kind = kind_in F G;
  shared = per_guest share_part F;
  count = per_guest count_part F;
  exists = exists_in G;
  root = root_in G;
  dirty = dirty_in G;
  word = w;
}

abbrev pub state_of : (ram ledger : List ℕ) → State
state_of m l = state_in (frames l) (guest_rows l) (word_of m)

-- The same by name, of a ledger.
abbrev pub size_of : List ℕ → ℕ
size_of l = size_in (guest_rows l)

abbrev pub first_of : List ℕ → ℕ
first_of l = first_in (guest_rows l)

abbrev pub kind_of : List ℕ → ℕ → KindOfFrame
kind_of l = kind_in (frames l) (guest_rows l)

abbrev pub shared_of : List ℕ → (f g : ℕ) → ℕ
shared_of l = per_guest share_part (frames l)

abbrev pub count_of : List ℕ → (f g : ℕ) → ℕ
count_of l = per_guest count_part (frames l)

abbrev pub exists_of : List ℕ → ℕ → Bool
exists_of l = exists_in (guest_rows l)

abbrev pub dirty_of : List ℕ → ℕ → Bool
dirty_of l = dirty_in (guest_rows l)

abbrev pub root_of : List ℕ → ℕ → ℕ
root_of l = root_in (guest_rows l)

abbrev pub pick_of : List ℕ → ℕ → ℕ
pick_of l = pick_in (frames l) (guest_rows l)
