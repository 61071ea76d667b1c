-- Words for the statements on the two slices, read off the ledger.
use Rattle.std.specs.Prelude.{◌≡◌, true, ◌⊎◌, ℕ, ◌+◌, ◌*◌, ◌<◌, ◌/◌, get_or}
use Rattle.model.specs.State.{KindOfFrame, monitor, free, table, draining_table, page, draining_page}
use Rattle.model.specs.Cache.{Access, writing}
use Rattle.model.specs.Terms.{lends}
use Rattle.model_moves.specs.Cache.{Table, Translation, Level}
use Rattle.ledger.specs.Layout.{first_of, kind_of, shared_of}
use Rattle.isolation_runs.specs.Slices.{Slices, spaces, Reaches, Step, called, stored, loaded_byte, loaded_word, looked}

-- the byte at physical address a lies in frame f
abbrev pub In : Slices → (a f : ℕ) → Type 0
In x a f = a / 4096 ≡ first_of x.ledger + f

-- guest o's page f is g's own, or is shared with g for this access
abbrev pub Uses : Slices → (o g f : ℕ) → Access → Type 0
Uses x o g f w = (o ≡ g) ⊎ (lends (shared_of x.ledger f g) w ≡ true)

-- g's own page, or somebody's that is shared with g for this access, or a frame that drains for g
abbrev pub Allowed : Slices → (g f : ℕ) → Access → Type 0
Allowed x g f w = ((o : ℕ) × (kind_of x.ledger f ≡ page o) × Uses x o g f w) ⊎ (kind_of x.ledger f ≡ draining_page g)

-- a table, in use or draining, a free frame, the monitor's
abbrev pub Hidden : KindOfFrame → Type 0
Hidden monitor = Unit {0}
Hidden free = Unit {0}
Hidden (table g h p) = Unit {0}
Hidden (draining_table g h p) = Unit {0}
Hidden (page g) = ⊥
Hidden (draining_page g) = ⊥

-- nobody reaches a byte of frame f
abbrev pub Unreached : Slices → (f : ℕ) → Type 0
Unreached x f = (g : ℕ) (w : Access) (a : ℕ) → In x a f → Reaches x g w a → ⊥

-- frame f is handed out in the step from x to y
pub record Handed (x y : Slices) (f : ℕ) : Type 0 where
  pub was_free : kind_of x.ledger f ≡ free
  pub before : Unreached x f
  pub after : Unreached y f
  pub all_zero : (o : ℕ) → o < 4096 → get_or y.ram (f * 4096 + o) 0 ≡ 0

-- frame f becomes a table in the step from x to y
pub record Laid (x y : Slices) (f : ℕ) : Type 0 where
  pub was_free : kind_of x.ledger f ≡ free
  pub before : Unreached x f
  pub after : Unreached y f

-- what was kept of g's, or can be read off RAM: page v is at page p of physical memory, with rights r; in a leaf of height l;
-- the table of height h for range q is at page p of physical memory
abbrev pub Finds : Slices → (g v p r : ℕ) → Type 0
Finds x = Translation (spaces x) x.caches

abbrev pub FindsHeight : Slices → (g v l : ℕ) → Type 0
FindsHeight x = Level (spaces x) x.caches

abbrev pub FindsTable : Slices → (g h q p : ℕ) → Type 0
FindsTable x = Table (spaces x) x.caches

-- nothing is kept for number g
pub record NothingKept (x : Slices) (g : ℕ) : Type 0 where
  pub tables : (h q p : ℕ) → x.caches.table_kept g h q p → ⊥
  pub pages : (v p r : ℕ) → x.caches.page_kept g v p r → ⊥
  pub heights : (v l : ℕ) → x.caches.level_kept g v l → ⊥

-- the step is a store to frame f: of a guest that is allowed to write it, or of the host
abbrev pub Written : {x y : Slices} → Step x y → (f : ℕ) → Type 0
Written (called c r a) f = ⊥
Written {x} (stored g f' o b a r) f = (f' ≡ f) × Allowed x g f writing
Written (loaded_byte f' o b a s) f = f' ≡ f
Written (loaded_word f' i v a s) f = f' ≡ f
Written (looked a) f = ⊥
