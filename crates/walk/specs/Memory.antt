-- Document 01, section 1: physical memory, and which numbers fit it.
-- RAM is the list of its bytes, the first at the physical address base.
use Rattle.std.specs.Prelude.{ℕ, ◌+◌, ◌*◌, ◌-◌, ◌≡◌, Bool, cond, ◌&&◌, List, [], ◌∷◌, length, eqb, leb}
use Rattle.std.proofs.Math.Option.{Option, none, some}
use Rattle.memory.specs.Word.{word_at}
use Rattle.memory.specs.Ram.{frame_bytes, ram_fits}
use Rattle.walk_descriptor.specs.Descriptor.{descriptor_bytes}

-- "It is a lent slice of 4,096 n bytes"
unfoldable pub image_fits : (len base frames : ℕ) → Bool
image_fits len base frames = ram_fits base frames && eqb len (frame_bytes * frames)

-- "the byte at physical address a stands at index a - b"; all eight bytes from a on are in RAM
abbrev pub in_ram : (ram : List ℕ) (base a : ℕ) → Bool
in_ram ram base a = leb base a && leb (a - base + descriptor_bytes) (length ram)

-- The descriptor at the physical address a, where its eight bytes are all in RAM.
unfoldable pub read_at : (ram : List ℕ) (base a : ℕ) → Option ℕ
read_at ram base a = cond (in_ram ram base a) (some (word_at ram (a - base))) none

-- two images of RAM agree on the words at these physical addresses
abbrev pub Agrees : (ram ram' : List ℕ) (base : ℕ) (places : List ℕ) → Type 0
Agrees ram ram' base [] = Unit {0}
Agrees ram ram' base (a ∷ places) = (word_at ram (a - base) ≡ word_at ram' (a - base)) × Agrees ram ram' base places
