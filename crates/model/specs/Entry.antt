-- Document 03, section 3, last bullet: the entries that the monitor writes, and how it reads them back.
-- A number that is none of these is `other`. The reading needs no level, and loses nothing (entry_number in proofs/Laws/Entry).
use Rattle.std.specs.Prelude.{cond, ℕ, ◌+◌, ◌*◌, ◌-◌, ◌/◌, ◌%◌, eqb}
use Rattle.model.specs.State.{page_count, WRITE, EXECUTE}

-- "A table entry is the table's address plus 3." first: see State
abbrev pub TABLE_BITS : ℕ
TABLE_BITS = 3

unfoldable pub table_entry : (first t : ℕ) → ℕ
table_entry first t = (first + t) * 4096 + TABLE_BITS

-- "bits 1..0 = 3, 1 in bits 2 to 5, bit 6 as read, bit 7 as write, 1 in bits 8, 9 and 10, the frame's address,
-- and bit 54 = 1 unless r contains execute"
abbrev pub PAGE_BITS : ℕ
PAGE_BITS = 0x73f

abbrev pub READ_BIT : ℕ
READ_BIT = 0x40

abbrev pub WRITE_BIT : ℕ
WRITE_BIT = 0x80

abbrev pub NO_EXECUTE_BIT : ℕ
NO_EXECUTE_BIT = 0x40000000000000

unfoldable pub page_entry : (first f r : ℕ) → ℕ
page_entry first f r =
    (first + f) * 4096 + PAGE_BITS + READ_BIT * (r % 2) + WRITE_BIT * (r / WRITE % 2) + NO_EXECUTE_BIT * (1 - r / EXECUTE % 2)

-- the rights that an entry gives
unfoldable pub rights_of : ℕ → ℕ
rights_of x = x / READ_BIT % 2 + WRITE * (x / WRITE_BIT % 2) + EXECUTE * (1 - x / NO_EXECUTE_BIT % 2)

pub data Entry : Type 0 where
  empty : Entry
  to_table : (t : ℕ) → Entry
  to_page : (f r : ℕ) → Entry
  other : (x : ℕ) → Entry

unfoldable pub entry : (first x : ℕ) → Entry
entry first x =
    let f = x / 4096 % page_count - first in
    cond (eqb x 0) empty (
    cond (eqb x (table_entry first f)) (to_table f) (
    cond (eqb x (page_entry first f (rights_of x))) (to_page f (rights_of x)) (
    other x)))
