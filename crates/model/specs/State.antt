-- Document 03, section 1: the ledger, and the words of RAM. All of it can be read off the two lent slices.
-- Decided here: a table's record says which range of guest addresses it serves, so that every rule about tables is about one entry;
-- and places are counted for each guest, so that an operation looks at one frame's record only.
use Rattle.std.specs.Prelude.{Bool, true, false, ◌&&◌, cond, ℕ, zero, suc, ◌+◌, ◌*◌, ◌/◌, ◌%◌, eqb, ltb, leb}
use Rattle.model.specs.Base.{sum}

-- "Guests are numbered 1 to 4"
abbrev pub guests : ℕ
guests = 4

abbrev pub is_guest : ℕ → Bool
is_guest g = ltb 0 g && leb g guests

-- A guest-physical address has 48 bits, so a guest has 2^36 pages, and so has physical memory.
abbrev pub page_count : ℕ
page_count = 68719476736

-- "1 read, 2 write, 4 execute, added up"; all rights have read
abbrev pub WRITE : ℕ
WRITE = 2

abbrev pub EXECUTE : ℕ
EXECUTE = 4

-- what of a page is shared with a guest: nothing, reading, or writing too
abbrev pub NOTHING : ℕ
NOTHING = 0

abbrev pub READING : ℕ
READING = 1

abbrev pub WRITING : ℕ
WRITING = 2

-- What a frame is. The height of a table is 3 at the root and 0 where the pages are (level 3 - height).
-- Its range p: it serves the pages v of the guest with v / 512^(height + 1) = p.
-- A frame that drains was a table or a page of the guest; its words are still what they were.
pub data KindOfFrame : Type 0 where
  monitor free : KindOfFrame
  table draining_table : (guest height range : ℕ) → KindOfFrame
  page draining_page : (guest : ℕ) → KindOfFrame

pub record State : Type 0 where
  -- n, the number of frames
  pub size : ℕ
  -- the number of RAM's first frame in physical memory: b / 4096
  pub first : ℕ
  -- of a frame
  pub kind : ℕ → KindOfFrame
  -- frame, guest: NOTHING, READING or WRITING
  pub shared : ℕ → ℕ → ℕ
  -- frame, guest: the number of places where the guest's tables lead to it
  pub count : ℕ → ℕ → ℕ
  -- of a guest
  pub exists : ℕ → Bool
  pub root : ℕ → ℕ
  pub dirty : ℕ → Bool
  -- frame, index 0 to 511: a number of 64 bits, lowest byte first
  pub word : ℕ → ℕ → ℕ

-- the ledger of s, with these words in RAM
abbrev pub reworded : State → (ℕ → ℕ → ℕ) → State
reworded s w = record {
  size = s.size;
  first = s.first;
  kind = s.kind;
  shared = s.shared;
  count = s.count;
  exists = s.exists;
  root = s.root;
  dirty = s.dirty;
  word = w;
}

-- "the number of places where it is mapped", and the same of what it is shared with: over all guests
unfoldable pub total : (ℕ → ℕ) → ℕ
total c = sum guests (λ h. c (suc h))

-- byte k of a word, and the word with another
unfoldable pub byte_of : ℕ → ℕ → ℕ
byte_of zero w = w % 256
byte_of (suc k) w = byte_of k (w / 256)

unfoldable pub put_byte : ℕ → ℕ → ℕ → ℕ
put_byte zero w x = w / 256 * 256 + x
put_byte (suc k) w x = put_byte k (w / 256) x * 256 + w % 256

-- byte o of a frame, o from 0 to 4095
unfoldable pub byte : State → ℕ → ℕ → ℕ
byte s f o = byte_of (o % 8) (s.word f (o / 8))

-- the numbers of what a frame is, as the ledger stores them
abbrev pub MONITOR : ℕ
MONITOR = 0

abbrev pub FREE : ℕ
FREE = 1

abbrev pub TABLE : ℕ
TABLE = 2

abbrev pub DRAINING_TABLE : ℕ
DRAINING_TABLE = 3

abbrev pub PAGE : ℕ
PAGE = 4

abbrev pub DRAINING_PAGE : ℕ
DRAINING_PAGE = 5

abbrev pub kind_number : KindOfFrame → ℕ
kind_number monitor = MONITOR
kind_number free = FREE
kind_number (table g h p) = TABLE
kind_number (draining_table g h p) = DRAINING_TABLE
kind_number (page g) = PAGE
kind_number (draining_page g) = DRAINING_PAGE

-- tests of what a frame is
abbrev pub is_free : KindOfFrame → Bool
is_free monitor = false
is_free free = true
is_free (table h n p) = false
is_free (draining_table h n p) = false
is_free (page h) = false
is_free (draining_page h) = false

abbrev pub is_page : KindOfFrame → Bool
is_page monitor = false
is_page free = false
is_page (table h n p) = false
is_page (draining_table h n p) = false
is_page (page h) = true
is_page (draining_page h) = false

abbrev pub is_page_of : KindOfFrame → ℕ → Bool
is_page_of monitor g = false
is_page_of free g = false
is_page_of (table h n p) g = false
is_page_of (draining_table h n p) g = false
is_page_of (page h) g = eqb h g
is_page_of (draining_page h) g = false

-- it holds a table, in use or draining
abbrev pub tabled : KindOfFrame → Bool
tabled monitor = false
tabled free = false
tabled (table h n p) = true
tabled (draining_table h n p) = true
tabled (page h) = false
tabled (draining_page h) = false

unfoldable pub free_frames : State → ℕ
free_frames s = sum s.size (λ f. cond (is_free (s.kind f)) 1 0)
