-- Words for "What one guest can read depends on nothing another does" (demand 3): all that space c reads, pages of its guest and pages
-- that
-- are lent to it, on two computers. Frames may have other numbers on the other computer: a correspondence R pairs a frame of the first
-- with
-- one of the second. c itself never sees these numbers.
use Rattle.std.specs.Prelude.{◌≡◌, Bool, true, false, ◌⊎◌, ℕ, ◌+◌, ◌*◌, ◌<◌, ◌/◌, ◌%◌}
use Rattle.model.specs.State.{byte_of}
use Rattle.model.specs.Translate.{upper}
use Rattle.model.specs.Cache.{inside, reading, writing}
use Rattle.model_moves.specs.Spaces.{Spaces, exists, Says, Leads, Clean}
use Rattle.model_moves.specs.Cache.{Translation, Reach}
use Rattle.model_moves.specs.Moves.{untabled, put, link, Link, enter, Enter, clear, Clear, dissolve, Report}
use Rattle.model_moves.specs.Machine.{Machine, Step, moves, reports, looks, stores}
use Rattle.model_moves.specs.Terms.{Touches, Allowed, HostMove}

-- which frame of the first computer corresponds to which of the second
abbrev pub Frames : Type 1
Frames = ℕ → ℕ → Type 0

abbrev pub no_frames : Frames
no_frames f f' = ⊥

-- the two frames hold the same
abbrev pub SameWords : (y z : Machine) (f f' : ℕ) → Type 0
SameWords y z f f' = (i : ℕ) → y.spaces.word f i ≡ z.spaces.word f' i

-- The correspondence may change from R to R': it is one to one; what is newly paired holds the same now; and a pair stays as long as c
-- may read both of it.
pub record Repaired (c : ℕ) (R R' : Frames) (y z : Machine) : Type 0 where
  pub one_right : (f a b : ℕ) → R' f a → R' f b → a ≡ b
  pub one_left : (a b f : ℕ) → R' a f → R' b f → a ≡ b
  pub new : (f f' : ℕ) → R' f f' → R f f' ⊎ SameWords y z f f'
  pub stays : (f f' : ℕ) → R f f' → Allowed y.spaces c f reading → Allowed z.spaces c f' reading → R' f f'

-- A step on one computer alone is any but these: a translation is added to or taken out of the tables of c (enter, clear, dissolve, the
-- link of a table that says something), or a report for c. The processor looks as it likes, also for c.
abbrev pub Aside : {m z : Machine} → Step m z → (c : ℕ) → Type 0
Aside (moves s a) c = Touches a c → ⊥
Aside (reports d R D r) c = c ≡ d → ⊥
Aside (looks k l) c = Unit {0}
Aside (stores d f o b l a) c = Unit {0}

-- and it changes nothing in a frame that is paired
abbrev pub LeavesFirst : (R : Frames) (y y' : Machine) → Type 0
LeavesFirst R y y' = (f f' i : ℕ) → R f f' → y'.spaces.word f i ≡ y.spaces.word f i

abbrev pub LeavesSecond : (R : Frames) (z z' : Machine) → Type 0
LeavesSecond R z z' = (f f' i : ℕ) → R f f' → z'.spaces.word f' i ≡ z.spaces.word f' i

-- frame t of the first and t' of the second are not paired with anything
abbrev pub Unpaired : (R : Frames) (t t' : ℕ) → Type 0
Unpaired R t t' = ((f : ℕ) → R t f → ⊥) × ((f : ℕ) → R f t' → ⊥)

-- One step on each: the same for c, but for the numbers of frames, and of slots.
pub data Same (c : ℕ) (R : Frames) : (y z y' z' : Machine) → Step y y' → Step z z' → Type 1 where
  -- the pages that are entered lie at frames that correspond, with the same rights
  entered : {y z : Machine} (t t' h q x x' b b' r : ℕ) (m : Enter y.spaces t c h q x b r) (n : Enter z.spaces t' c h q x' b' r) →
      Unpaired R t t' →
      ((v f f' : ℕ) → upper h v ≡ q → inside h b v ≡ y.spaces.first + f → inside h b' v ≡ z.spaces.first + f' → R f f') →
      Same c R y z _ _ (moves _ (enter t c h q x b r m)) (moves _ (enter t' c h q x' b' r n))
  cleared : {y z : Machine} (t t' h q x x' b r b' r' : ℕ) (S S' : ℕ → ℕ → Bool) (j j' : ℕ) (m : Clear y.spaces t c h q x b r S j)
      (n : Clear z.spaces t' c h q x' b' r' S' j') → Unpaired R t t' →
      Same c R y z _ _ (moves _ (clear t c h q x b r S j m)) (moves _ (clear t' c h q x' b' r' S' j' n))
  -- what the new tables say corresponds (a new table that is empty says nothing)
  linked : {y z : Machine} (t u t' u' h q x x' : ℕ) (m : Link y.spaces t u c h q x) (n : Link z.spaces t' u' c h q x') →
      Unpaired R t t' →
      ((v f r : ℕ) → upper h v / 512 ≡ q → Says y.spaces u h v f r → (f' : ℕ) × R f f' × Says z.spaces u' h v f' r) →
      ((v f' r : ℕ) → upper h v / 512 ≡ q → Says z.spaces u' h v f' r → (f : ℕ) × R f f' × Says y.spaces u h v f r) →
      Same c R y z _ _ (moves _ (link t u c h q x m)) (moves _ (link t' u' c h q x' n))
  dissolved : {y z : Machine} (l : exists y.spaces c ≡ false) (w : Clean y.spaces c) (l' : exists z.spaces c ≡ false)
      (w' : Clean z.spaces c) →
      Same c R y z _ _ (moves _ (dissolve c l w)) (moves _ (dissolve c l' w'))
  -- of the same pages P; c exists on both or on neither
  reported : {y z : Machine} (P D D' : ℕ → Bool) (m : Report y.spaces c P D) (n : Report z.spaces c P D') →
      exists y.spaces c ≡ exists z.spaces c →
      Same c R y z _ _ (reports c P D m) (reports c P D' n)
  -- a store to a pair, by c or by any other
  stored : {y z : Machine} (d d' f f' o b : ℕ) (l : o < 4096)
      (w : Reach y.spaces y.caches d writing ((y.spaces.first + f) * 4096 + o))
      (w' : Reach z.spaces z.caches d' writing ((z.spaces.first + f') * 4096 + o)) → R f f' →
      Same c R y z _ _ (stores d f o b l w) (stores d' f' o b l w')
  -- the host's
  put_both : {y z : Machine} (f f' i x : ℕ) (u : untabled (y.spaces.kind f) ≡ true) (u' : untabled (z.spaces.kind f') ≡ true) →
      R f f' → Same c R y z _ _ (moves _ (put f i x u)) (moves _ (put f' i x u'))

-- The two computers from y and z to y' and z', step by step, with the correspondence before and after.
pub data Two (c : ℕ) : (R : Frames) (y z : Machine) (R' : Frames) (y' z' : Machine) → Type 1 where
  ends : {R : Frames} {y z : Machine} → Two c R y z R y z
  left : {R R' : Frames} {y y₁ z y' z' : Machine} (t : Step y y₁) → Aside t c → LeavesFirst R y y₁ → Two c R y₁ z R' y' z' →
      Two c R y z R' y' z'
  right : {R R' : Frames} {y z z₁ y' z' : Machine} (t : Step z z₁) → Aside t c → LeavesSecond R z z₁ → Two c R y z₁ R' y' z' →
      Two c R y z R' y' z'
  both : {R R' : Frames} {y y₁ z z₁ y' z' : Machine} (t : Step y y₁) (u : Step z z₁) → Same c R y z y₁ z₁ t u → Two c R y₁ z₁ R' y' z' →
      Two c R y z R' y' z'
  -- neither does anything: frames are paired anew
  repairs : {R R₁ R' : Frames} {y z y' z' : Machine} → Repaired c R R₁ y z → Two c R₁ y z R' y' z' → Two c R y z R' y' z'

-- What the conclusions speak of.

-- page v of space c is at x, with rights r: by the tables, or by what was kept
abbrev pub At : Machine → (c v x r : ℕ) → Type 0
At m c = Translation m.spaces m.caches c

-- page v of space c leads nowhere now, and waits for a report
abbrev pub Stale : Machine → (c v : ℕ) → Type 0
Stale m c v = ((f r : ℕ) → Leads m.spaces c v f r → ⊥) × ((j : ℕ) × (m.spaces.stale c j v ≡ true))

-- the frames at x and x' correspond, and hold the same
pub record Corresponds (R : Frames) (y z : Machine) (x x' : ℕ) : Type 0 where
  pub f : ℕ
  pub f' : ℕ
  pub here : x ≡ y.spaces.first + f
  pub there : x' ≡ z.spaces.first + f'
  pub pair : R f f'
  pub same : SameWords y z f f'

-- c exists, and nothing of its page v waits for a report
abbrev pub Settled : Machine → (c v : ℕ) → Type 0
Settled m c v = (exists m.spaces c ≡ true) × ((j : ℕ) → m.spaces.stale c j v ≡ false)

-- byte o of frame f; page v of space c, with these rights and these 4,096 bytes
abbrev pub byte : Spaces → (f o : ℕ) → ℕ
byte s f o = byte_of (o % 8) (s.word f (o / 8))

abbrev pub Reads : Machine → (c v r : ℕ) (bytes : ℕ → ℕ) → Type 0
Reads m c v r bytes = (f : ℕ) × At m c v (m.spaces.first + f) r × ((o : ℕ) → o < 4096 → byte m.spaces f o ≡ bytes o)

-- the step is a store to frame f, the host's or a space's
abbrev pub StoresTo : {m z : Machine} → Step m z → (f : ℕ) → Type 0
StoresTo (moves s a) f = HostMove a f
StoresTo (reports d R D r) f = ⊥
StoresTo (looks k l) f = ⊥
StoresTo (stores d a o b l w) f = f ≡ a
