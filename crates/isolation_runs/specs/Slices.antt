-- The two lent slices and what the processor has kept, step by step: a call of one of the monitor's functions, of which only its contract
-- is used; a store of a guest, or of the host; the processor looks. Nothing else writes the slices (docs/TRUST.md, section 6).
-- While a call works, the processor looks before and after every single store of it, and keeps any part of what it finds.
use Rattle.std.specs.Prelude.{◌≡◌, false, List, ℕ, ◌+◌, ◌*◌, ◌^◌, ◌<◌, get_or, set}
use Rattle.memory.specs.Word.{stored_at}
use Rattle.model.specs.State.{tabled}
use Rattle.model.specs.Cache.{Access, writing}
use Rattle.model_moves.specs.Spaces.{Spaces}
use Rattle.model_moves.specs.Cache.{Caches, nothing_kept, Looks, Reach}
use Rattle.model_moves.specs.Machine.{Machine}
use Rattle.model_moves.specs.Path.{Path, Watched, Along}
use Rattle.model_paths.specs.View.{view}
use Rattle.model_paths.specs.Goes.{Does}
use Rattle.ledger.specs.Layout.{size_of, first_of, kind_of, state_of, pick_of}
use Rattle.monitor.specs.Answers.{Answers}
use Rattle.monitor.specs.SetUp.{SetUp}
use Rattle.isolation_runs.specs.Calls.{Call, defined, in_model}

-- the slices, as lists of numbers; RAM is one of bytes
pub record Slices : Type 1 where
  pub ram : List ℕ
  pub ledger : List ℕ
  pub bytes : (i : ℕ) → get_or ram i 0 < 256
  pub caches : Caches

-- the machine of moves that they are
abbrev pub spaces : Slices → Spaces
spaces x = view (state_of x.ram x.ledger)

abbrev pub machine : Slices → Machine
machine x = record { spaces = spaces x; caches = x.caches }

-- "a guest may reach a byte, for reading, writing or executing": the byte at physical address a, by the tables in RAM or by what was kept
abbrev pub Reaches : Slices → (g : ℕ) → Access → (a : ℕ) → Type 0
Reaches x g w a = Reach (spaces x) x.caches g w a

-- Any call with any numbers, answered with r, 0 or a refusal: the function's `ensures`. Its stores are moves that the operation makes, in
-- any order that leads from the slices before to the slices after; the processor watches.
pub record Called (c : Call) (r : ℕ) (x y : Slices) : Type 1 where
  pub answers : Answers (defined c) x.ram x.ledger r y.ram y.ledger
  pub path : Path (spaces x) (spaces y)
  pub along : Along (Does (state_of x.ram x.ledger) (in_model c (pick_of x.ledger))) path
  pub watched : Watched (spaces x) (spaces y) path x.caches y.caches

-- byte o of frame f becomes b, and nothing else changes
pub record Byte (f o b : ℕ) (x y : Slices) : Type 1 where
  pub in_ram : f < size_of x.ledger
  pub in_frame : o < 4096
  pub is_byte : b < 256
  pub ram_after : y.ram ≡ set x.ram (f * 4096 + o) b
  pub ledger_after : y.ledger ≡ x.ledger
  pub caches_after : y.caches ≡ x.caches

-- so word i, at once
pub record Word (f i v : ℕ) (x y : Slices) : Type 1 where
  pub in_ram : f < size_of x.ledger
  pub in_frame : i < 512
  pub is_word : v < 2 ^ 64
  pub ram_after : y.ram ≡ stored_at x.ram (f * 4096 + i * 8) v
  pub ledger_after : y.ledger ≡ x.ledger
  pub caches_after : y.caches ≡ x.caches

-- the ledger says of frame f that it is no table, in use or draining
abbrev pub Beside : Slices → (f : ℕ) → Type 0
Beside x f = tabled (kind_of x.ledger f) ≡ false

pub record Looked (x y : Slices) : Type 1 where
  pub ram_after : y.ram ≡ x.ram
  pub ledger_after : y.ledger ≡ x.ledger
  pub looks : Looks (spaces x) x.caches y.caches

pub data Step (x y : Slices) : Type 1 where
  called : (c : Call) (r : ℕ) → Called c r x y → Step x y
  -- a guest: where it reaches for writing
  stored : (g f o b : ℕ) → Byte f o b x y → Reaches x g writing ((first_of x.ledger + f) * 4096 + o) → Step x y
  -- the host: a byte or a word of a page of a guest, of a free frame, of the monitor's
  loaded_byte : (f o b : ℕ) → Byte f o b x y → Beside x f → Step x y
  loaded_word : (f i v : ℕ) → Word f i v x y → Beside x f → Step x y
  looked : Looked x y → Step x y

-- one after the other
pub data Run : Slices → Slices → Type 1 where
  stop : {x : Slices} → Run x x
  then : {x y z : Slices} → Step x y → Run y z → Run x z

-- set-up was answered with 0, whatever the slices held: its `ensures`; and nothing was kept
pub record Begun (x : Slices) : Type 1 where
  pub n : ℕ
  pub b : ℕ
  pub k : ℕ
  pub ledger_before : List ℕ
  pub answered : SetUp b n k x.ram ledger_before 0 x.ledger
  pub fresh : x.caches ≡ nothing_kept
