-- Document 03, section 4: the monitor and the processor together, step by step.
-- A step is an operation with any arguments, answered or refused, or a guest's store of a byte. After each the processor may keep what
-- it can find.
-- Decided here: only the report of an invalidation empties the caches of a guest; create empties nothing, which asks less of the
-- processor.
use Rattle.std.specs.Prelude.{◌≡◌, true, ℕ, ◌+◌, ◌*◌, ◌<◌, ◌/◌, ◌%◌}
use Rattle.model.specs.Base.{upd2}
use Rattle.model.specs.State.{State, put_byte, reworded}
use Rattle.model.specs.Changes.{Choice}
use Rattle.model.specs.Operations.{Out, refuse, done, create, give, map, unmap, share, unshare, take, destroy, invalidated, set_up}
use Rattle.model.specs.Cache.{Caches, nothing_kept, grown, forget, Access, writing, Reach}

pub record Machine : Type 1 where
  pub state : State
  pub caches : Caches

pub data Operation : Type 0 where
  Create : (g : ℕ) (pick : ℕ → ℕ) → Operation
  Give Take : (f g : ℕ) → Operation
  Map : (f g a r : ℕ) (pick : ℕ → ℕ) → Operation
  Unmap : (a g : ℕ) → Operation
  Share : (g f h w : ℕ) → Operation
  Unshare : (g f h : ℕ) → Operation
  Destroy Invalidated : (g : ℕ) → Operation

unfoldable pub answer : State → Operation → Out
answer s (Create g pick) = create s g pick
answer s (Give f g) = give s f g
answer s (Take f g) = take s f g
answer s (Map f g a r pick) = map s f g a r pick
answer s (Unmap a g) = unmap s a g
answer s (Share g f h w) = share s g f h w
answer s (Unshare g f h) = unshare s g f h
answer s (Destroy g) = destroy s g
answer s (Invalidated g) = invalidated s g

-- the operations that take free frames of their choice choose among the free ones
abbrev pub Chooses : State → Operation → Type 0
Chooses s (Create g pick) = Choice s pick
Chooses s (Give f g) = Unit {0}
Chooses s (Take f g) = Unit {0}
Chooses s (Map f g a r pick) = Choice s pick
Chooses s (Unmap a g) = Unit {0}
Chooses s (Share g f h w) = Unit {0}
Chooses s (Unshare g f h) = Unit {0}
Chooses s (Destroy g) = Unit {0}
Chooses s (Invalidated g) = Unit {0}

-- what is still kept when the operation has been answered
unfoldable pub keeps : Caches → Operation → Caches
keeps k (Create g pick) = k
keeps k (Give f g) = k
keeps k (Take f g) = k
keeps k (Map f g a r pick) = k
keeps k (Unmap a g) = k
keeps k (Share g f h w) = k
keeps k (Unshare g f h) = k
keeps k (Destroy g) = k
keeps k (Invalidated g) = forget k g

-- a refusal leaves the state; in either case the processor goes on looking
unfoldable pub settle : Machine → Caches → Out → Machine
settle m k (refuse n) = record { state = m.state; caches = grown m.state m.caches }
settle m k (done s) = record { state = s; caches = grown s k }

unfoldable pub call : Machine → Operation → Machine
call m o = settle m (keeps m.caches o) (answer m.state o)

-- byte o of frame f becomes x
unfoldable pub stored : State → (f o x : ℕ) → State
stored s f o x = reworded s (upd2 s.word f (o / 8) (put_byte (o % 8) (s.word f (o / 8)) x))

unfoldable pub write : Machine → (f o x : ℕ) → Machine
write m f o x = let s = stored m.state f o x in record { state = s; caches = grown s m.caches }

-- "A guest that was destroyed no longer runs": it stores nothing, but what it reaches counts (see Reaches)
pub data Step : Machine → Machine → Type 1 where
  calls : {m : Machine} (o : Operation) → Chooses m.state o → Step m (call m o)
  stores : {m : Machine} (g f o x : ℕ) → m.state.exists g ≡ true → f < m.state.size → o < 4096 → x < 256 →
      Reach m.state m.caches g writing ((m.state.first + f) * 4096 + o) → Step m (write m f o x)

pub data Run : Machine → Machine → Type 1 where
  stop : {m : Machine} → Run m m
  then : {m m' z : Machine} → Step m m' → Run m' z → Run m z

-- right after set-up: nobody exists, and nothing was kept
pub record SetUp (m : Machine) : Type 1 where
  pub b : ℕ
  pub n : ℕ
  pub k : ℕ
  pub word : ℕ → ℕ → ℕ
  pub accepted : set_up true b n k word ≡ done m.state
  pub fresh : m.caches ≡ nothing_kept

-- what any number g, running or destroyed, can reach: the byte at physical address a
abbrev pub Reaches : Machine → (g : ℕ) → Access → (a : ℕ) → Type 0
Reaches m g w a = Reach m.state m.caches g w a
