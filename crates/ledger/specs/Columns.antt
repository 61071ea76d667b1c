-- The ledger's rows and columns by name; src/columns.rt has the same names for the code. How the state lies in them: Layout.
use Rattle.std.specs.Prelude.{ℕ}

-- a row, of 64 bytes
abbrev pub ROW_WORDS : ℕ
ROW_WORDS = 16

-- the header's row, and those of guests 1 to 8
abbrev pub GUEST_ROWS : ℕ
GUEST_ROWS = 9

-- the words of these rows: the first frame's row begins after them
abbrev pub HEADER_WORDS : ℕ
HEADER_WORDS = 144

-- "there is room for": 2^21 frames
abbrev pub room_for_frames : ℕ
room_for_frames = 2097152

-- a word holds the numbers below
abbrev pub WORD_LIMIT : ℕ
WORD_LIMIT = 4294967296

-- The header: its row; how many frames are free; n; b / 4096, its low 32 bits and the rest.
abbrev pub HEADER : ℕ
HEADER = 0

abbrev pub FREE_COUNT : ℕ
FREE_COUNT = 3

abbrev pub FRAME_COUNT : ℕ
FRAME_COUNT = 4

abbrev pub FIRST_LOW : ℕ
FIRST_LOW = 5

abbrev pub FIRST_HIGH : ℕ
FIRST_HIGH = 6

-- A guest: whether it exists; whether it is dirty; its root table.
abbrev pub EXISTS : ℕ
EXISTS = 0

abbrev pub DIRTY : ℕ
DIRTY = 1

abbrev pub ROOT : ℕ
ROOT = 2

-- what stands for "it does"
abbrev pub YES : ℕ
YES = 1

-- A frame: what it is (model's kind_number); the guest; a table's height; the range that it serves, below 2^27.
abbrev pub KIND : ℕ
KIND = 0

abbrev pub GUEST : ℕ
GUEST = 1

abbrev pub HEIGHT : ℕ
HEIGHT = 2

abbrev pub RANGE : ℕ
RANGE = 3

-- CELLS + g, for guest g from 1 on: in how many places g maps it, plus SHARE_UNIT times what is shared with g
abbrev pub CELLS : ℕ
CELLS = 3

abbrev pub SHARE_UNIT : ℕ
SHARE_UNIT = 1073741824

-- The free set: the frame at a place, the free ones first; and the place of this frame.
abbrev pub FRAME_AT : ℕ
FRAME_AT = 12

abbrev pub PLACE : ℕ
PLACE = 13
