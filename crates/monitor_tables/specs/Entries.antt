-- Where an entry leads, as the code asks for it before it decodes one: to a table, or to a page with some rights.
use Rattle.std.specs.Prelude.{◌≡◌, ℕ, ◌+◌, ◌<◌}
use Rattle.model.specs.State.{page_count}
use Rattle.model.specs.Entry.{entry, to_table, to_page}

abbrev pub ToTable : (first x : ℕ) → Type 0
ToTable first x = (t : ℕ) × (entry first x ≡ to_table t)

abbrev pub LeadsTo : (first x f : ℕ) → Type 0
LeadsTo first x f = (r : ℕ) × (entry first x ≡ to_page f r)

-- to a frame of physical memory
abbrev pub ToPage : (first x : ℕ) → Type 0
ToPage first x = (f : ℕ) × LeadsTo first x f × (first + f < page_count)
