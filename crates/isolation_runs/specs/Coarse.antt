-- The two lent slices and what the processor may have kept, step by step: a call of one of the monitor's functions, of which only its
-- contract is used; or a guest's store of a byte.
-- Nothing else writes the slices (docs/TRUST.md, section 6). What the slices are right after set-up was answered with 0: Begun.
use Rattle.std.specs.Prelude.{◌≡◌, true, List, ℕ, zero, suc, ◌+◌, ◌*◌, ◌<◌, get_or, set}
use Rattle.model.specs.Cache.{Caches, nothing_kept, grown, forget, writing, Reach}
use Rattle.model.specs.Machine.{Machine}
use Rattle.ledger.specs.Layout.{size_of, first_of, exists_of, state_of}
use Rattle.monitor.specs.Answers.{Answers}
use Rattle.monitor.specs.SetUp.{SetUp}
use Rattle.isolation_runs.specs.Calls.{Call, Create, Give, Take, Map, Unmap, Share, Unshare, Destroy, Invalidated, defined}

-- the slices, as lists of numbers; RAM is one of bytes
pub record Slices : Type 1 where
  pub ram : List ℕ
  pub ledger : List ℕ
  pub bytes : (i : ℕ) → get_or ram i 0 < 256
  pub caches : Caches

-- the model's machine that they are
abbrev pub machine : Slices → Machine
machine x = record { state = state_of x.ram x.ledger; caches = x.caches }

-- what is still kept when a call was answered with r: the report of an invalidation, answered with 0, empties the caches of g
abbrev pub kept_after : Call → (r : ℕ) → Caches → Caches
kept_after (Create g) r k = k
kept_after (Give f g) r k = k
kept_after (Take f g) r k = k
kept_after (Map f g a w) r k = k
kept_after (Unmap a g) r k = k
kept_after (Share g f h w) r k = k
kept_after (Unshare g f h) r k = k
kept_after (Destroy g) r k = k
kept_after (Invalidated g) zero k = forget k g
kept_after (Invalidated g) (suc r) k = k

-- after each step the processor may keep all that it finds in RAM
abbrev pub Looks : (y : Slices) → Caches → Type 1
Looks y k = y.caches ≡ grown (state_of y.ram y.ledger) k

-- any call with any numbers, answered with r, 0 or a refusal: the function's `ensures`
pub record Called (c : Call) (r : ℕ) (x y : Slices) : Type 1 where
  pub answers : Answers (defined c) x.ram x.ledger r y.ram y.ledger
  pub looks : Looks y (kept_after c r x.caches)

-- a guest that exists stores byte b at offset o of frame f, which it reaches for writing
pub record Stored (g f o b : ℕ) (x y : Slices) : Type 1 where
  pub lives : exists_of x.ledger g ≡ true
  pub in_ram : f < size_of x.ledger
  pub in_frame : o < 4096
  pub is_byte : b < 256
  pub reaches : Reach (state_of x.ram x.ledger) x.caches g writing ((first_of x.ledger + f) * 4096 + o)
  pub ram_after : y.ram ≡ set x.ram (f * 4096 + o) b
  pub ledger_after : y.ledger ≡ x.ledger
  pub looks : Looks y x.caches

pub data Step (x y : Slices) : Type 1 where
  called : (c : Call) (r : ℕ) → Called c r x y → Step x y
  stored : (g f o b : ℕ) → Stored g f o b x y → Step x y

-- one after the other
pub data Run : Slices → Slices → Type 1 where
  stop : {x : Slices} → Run x x
  then : {x y z : Slices} → Step x y → Run y z → Run x z

-- set-up was answered with 0, whatever the slices held: its `ensures`; and nothing was kept
pub record Begun (x : Slices) : Type 1 where
  pub n : ℕ
  pub b : ℕ
  pub k : ℕ
  pub ledger_before : List ℕ
  pub answered : SetUp b n k x.ram ledger_before 0 x.ledger
  pub fresh : x.caches ≡ nothing_kept
