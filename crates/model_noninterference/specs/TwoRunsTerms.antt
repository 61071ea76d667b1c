-- Words for the theorems on two runs: what a guest may read, and which steps of two machines go together.
-- A page that somebody shares with g is shown to g at that moment: its bytes must then be the same in both runs. Nothing else that
-- others stored before counts.
use Rattle.std.specs.Prelude.{◌≡◌, Bool, true, false, ◌||◌, ℕ, ◌+◌, ◌*◌, ◌<◌, eqb, leb}
use Rattle.model.specs.State.{State, KindOfFrame, monitor, free, table, draining_table, page, draining_page, byte}
use Rattle.model.specs.Operations.{Out, refuse, done}
use Rattle.model.specs.Cache.{writing}
use Rattle.model.specs.Machine.{Machine, Operation, Create, Give, Take, Map, Unmap, Share, Unshare, Destroy, Invalidated, answer, Chooses, call, write, SetUp, Reaches}

-- guest g may read a frame of this kind that is shared with it so (0 not): its own page, a page that is shared with it, a page that
-- drains for it
abbrev pub reads : (g : ℕ) → KindOfFrame → (how : ℕ) → Bool
reads g monitor how = false
reads g free how = false
reads g (table h n p) how = false
reads g (draining_table h n p) how = false
reads g (page h) how = eqb h g || leb 1 how
reads g (draining_page h) how = eqb h g

abbrev pub shown : State → (g f : ℕ) → Bool
shown s g f = reads g (s.kind f) (s.shared f g)

-- all 4,096 bytes of a frame f of s are those of frame f' of s'
abbrev pub SameBytes : (s s' : State) (f f' : ℕ) → Type 0
SameBytes s s' f f' = (i : ℕ) → i < 4096 → byte s f i ≡ byte s' f' i

-- the page that an operation shows to g
abbrev pub Shows : Operation → (g f : ℕ) → Type 0
Shows (Share o f' h w) g f = (h ≡ g) × (f' ≡ f)
Shows (Create h pick) g f = ⊥
Shows (Give f' h) g f = ⊥
Shows (Take f' h) g f = ⊥
Shows (Map f' h a r pick) g f = ⊥
Shows (Unmap a h) g f = ⊥
Shows (Unshare o f' h) g f = ⊥
Shows (Destroy h) g f = ⊥
Shows (Invalidated h) g f = ⊥

-- the operation answers 0
abbrev pub answered : Out → Bool
answered (refuse k) = false
answered (done s) = true

-- guest h stores x as byte o of frame f: what a step asks for
pub record Stores (m : Machine) (h f o x : ℕ) : Type 0 where
  pub lives : m.state.exists h ≡ true
  pub in_ram : f < m.state.size
  pub in_frame : o < 4096
  pub is_byte : x < 256
  pub reaches : Reaches m h writing ((m.state.first + f) * 4096 + o)

-- Steps of two machines, from y and z to y' and z': the same operation in both, with the same choice of frames, and where it shows a
-- page to g, that page is the same in both; the same store in both;
-- or a store in one of them only, to a frame that is not shown to g.
pub data Together (g : ℕ) : (y z y' z' : Machine) → Type 1 where
  both_call : {y z : Machine} (o : Operation) → Chooses y.state o → Chooses z.state o →
      ((f : ℕ) → Shows o g f → answered (answer y.state o) ≡ true → SameBytes y.state z.state f f) →
      Together g y z (call y o) (call z o)
  both_store : {y z : Machine} (h f o x : ℕ) → Stores y h f o x → Stores z h f o x → Together g y z (write y f o x) (write z f o x)
  first_stores : {y z : Machine} (h f o x : ℕ) → Stores y h f o x → shown y.state g f ≡ false → Together g y z (write y f o x) z
  second_stores : {y z : Machine} (h f o x : ℕ) → Stores z h f o x → shown z.state g f ≡ false → Together g y z y (write z f o x)

pub data TwoRuns (g : ℕ) : (y z y' z' : Machine) → Type 1 where
  stop : {y z : Machine} → TwoRuns g y z y z
  then : {y z y' z' y'' z'' : Machine} → Together g y z y' z' → TwoRuns g y' z' y'' z'' → TwoRuns g y z y'' z''

-- two machines that were set up with the same numbers; what RAM held then may differ
pub record SameStart (y z : Machine) : Type 1 where
  pub first : SetUp y
  pub second : SetUp z
  pub same_n : first.n ≡ second.n
  pub same_b : first.b ≡ second.b
  pub same_k : first.k ≡ second.k

-- the same ledger, entry for entry, and the same words in every table, also in one that drains
pub record SameLedger (s s' : State) : Type 0 where
  pub size : s.size ≡ s'.size
  pub first : s.first ≡ s'.first
  pub kind : s.kind ≡ s'.kind
  pub shared : s.shared ≡ s'.shared
  pub count : s.count ≡ s'.count
  pub exists : s.exists ≡ s'.exists
  pub root : s.root ≡ s'.root
  pub dirty : s.dirty ≡ s'.dirty
  pub tables : (t h n p : ℕ) → s.kind t ≡ table h n p → (i : ℕ) → s.word t i ≡ s'.word t i
  pub draining_tables : (t h n p : ℕ) → s.kind t ≡ draining_table h n p → (i : ℕ) → s.word t i ≡ s'.word t i
