-- Document 01, sections 2 and 3: the part of an address that a level looks at, and what a 64-bit descriptor d says there.
-- Bits are taken by / and %, so that a reader can hold each line beside the tables.
use Rattle.std.specs.Prelude.{ℕ, ◌+◌, ◌*◌, ◌-◌, ◌^◌, ◌/◌, ◌%◌, Bool, cond, ◌&&◌, ◌||◌, not, eqb, ltb}

-- Section 2. "Both stages have levels 0 to 3. A table is one frame of 512 descriptors."

abbrev pub last_level : ℕ
last_level = 3

abbrev pub table_entries : ℕ
table_entries = 512

-- "Descriptors are 64-bit numbers"
abbrev pub descriptor_bytes : ℕ
descriptor_bytes = 8

-- "At level l the index is the nine bits of the input address that start at bit 39 - 9 l"
abbrev pub span : (level : ℕ) → ℕ
span level = 2 ^ (39 - 9 * level)

-- the address of the descriptor for the input address ia in a table
unfoldable pub slot : (level ia table : ℕ) → ℕ
slot level ia table = table + descriptor_bytes * (ia / span level % table_entries)

-- Section 3, the kinds of descriptors

abbrev pub bit : (k d : ℕ) → ℕ
bit k d = d / 2 ^ k % 2

-- "bits 47..12 are the next table's address", "are the output address"
abbrev pub address : (d : ℕ) → ℕ
address d = d / 2 ^ 12 % 2 ^ 36 * 2 ^ 12

-- "bits 1..0"
abbrev pub low_bits : (d : ℕ) → ℕ
low_bits d = d % 4

-- "3 | 0, 1, 2 | table"
abbrev pub is_table : (level d : ℕ) → Bool
is_table level d = eqb (low_bits d) 3 && ltb level last_level

-- "1 | 1, 2 | block of 1 GiB (level 1) or 2 MiB (level 2)"
abbrev pub is_block : (level d : ℕ) → Bool
is_block level d = eqb (low_bits d) 1 && (ltb 0 level && ltb level last_level)

-- "3 | 3 | page of 4 KiB"
abbrev pub is_page : (level d : ℕ) → Bool
is_page level d = eqb (low_bits d) 3 && eqb level last_level

-- every other combination is "invalid"
abbrev pub is_valid : (level d : ℕ) → Bool
is_valid level d = is_table level d || (is_block level d || is_page level d)

-- "Not modelled: a table descriptor with any of bits 63..59 set, any descriptor that is not invalid with any of bits 50..48 set,
-- and a block whose bits that must be 0 are not." (In a page the address is a multiple of its span, 4 KiB.)
abbrev pub bits_50_to_48 : (d : ℕ) → ℕ
bits_50_to_48 d = d / 2 ^ 48 % 2 ^ 3

abbrev pub bits_63_to_59 : (d : ℕ) → ℕ
bits_63_to_59 d = d / 2 ^ 59

abbrev pub is_modelled : (level d : ℕ) → Bool
is_modelled level d =
    eqb (bits_50_to_48 d) 0 && cond (is_table level d) (eqb (bits_63_to_59 d) 0) (eqb (address d % span level) 0)

-- Section 3, the rights. "the kind of access (read, write, execute) and the level EL0 or EL1", as numbers:

abbrev pub to_read : ℕ
to_read = 0

abbrev pub to_write : ℕ
to_write = 1

abbrev pub to_execute : ℕ
to_execute = 2

abbrev pub kinds_of_access : ℕ
kinds_of_access = 3

abbrev pub el0 : ℕ
el0 = 0

abbrev pub el1 : ℕ
el1 = 1

abbrev pub exception_levels : ℕ
exception_levels = 2

-- "Stage 2 looks at reading, writing, executing each by its own bit"
unfoldable pub allows_2 : (access d : ℕ) → Bool
allows_2 access d =
    cond (eqb access to_read) (eqb (bit 6 d) 1) (cond (eqb access to_write) (eqb (bit 7 d) 1) (eqb (bit 54 d) 0))

-- "Read: always at EL1, at EL0 if bit 6 is 1."
abbrev pub reads_1 : (el d : ℕ) → Bool
reads_1 el d = eqb el el1 || eqb (bit 6 d) 1

-- "Write: if bit 7 is 0, and at EL0 also bit 6 is 1."
abbrev pub writes_1 : (el d : ℕ) → Bool
writes_1 el d = eqb (bit 7 d) 0 && (eqb el el1 || eqb (bit 6 d) 1)

-- "Execute at EL0: bit 54 is 0. Execute at EL1: bit 53 is 0, and not (bit 6 = 1 and bit 7 = 0)"
abbrev pub executes_1 : (el d : ℕ) → Bool
executes_1 el d =
    cond (eqb el el1) (eqb (bit 53 d) 0 && not (eqb (bit 6 d) 1 && eqb (bit 7 d) 0)) (eqb (bit 54 d) 0)

unfoldable pub allows_1 : (access el d : ℕ) → Bool
allows_1 access el d =
    cond (eqb access to_read) (reads_1 el d) (cond (eqb access to_write) (writes_1 el d) (executes_1 el d))

-- the rights at a stage; stage 2 does not look at el
unfoldable pub allows : (stage access el d : ℕ) → Bool
allows stage access el d = cond (eqb stage 2) (allows_2 access d) (allows_1 access el d)
