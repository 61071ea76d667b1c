-- Words for the statements on isolation: how a machine begins, and what a space is allowed to do with a frame.
use Rattle.std.specs.Prelude.{◌≡◌, true, false, ◌⊎◌, ℕ, ◌+◌, ◌≤◌, ◌/◌}
use Rattle.model.specs.Cache.{Access}
use Rattle.model.specs.Terms.{lends}
use Rattle.model_moves.specs.Spaces.{Spaces, FrameUse, monitor, free, claimed, table, emptied, page, draining, exists, Says}
use Rattle.model_moves.specs.Cache.{Reach}
use Rattle.model_moves.specs.Moves.{Move, put, claim, link, enter, clear, unhook, hand, lend, retire, release, open_space, end, dissolve}
use Rattle.model_moves.specs.Machine.{Machine, Step, moves, reports, looks, stores}
use Rattle.model.specs.Translate.{upper}

-- at first every frame is the monitor's or free, no space exists, and nothing was kept; RAM holds anything
pub record Start (m : Machine) : Type 0 where
  pub frames : (f : ℕ) → (m.spaces.kind f ≡ monitor) ⊎ (m.spaces.kind f ≡ free)
  pub spaces : (c : ℕ) → exists m.spaces c ≡ false
  pub tables : (c h p x : ℕ) → m.caches.table_kept c h p x → ⊥
  pub pages : (c v x r : ℕ) → m.caches.page_kept c v x r → ⊥
  pub levels : (c v l : ℕ) → m.caches.level_kept c v l → ⊥

abbrev pub Reaches : Machine → (c : ℕ) → Access → (a : ℕ) → Type 0
Reaches m c w a = Reach m.spaces m.caches c w a

-- somebody's page, shared with space c for this access
abbrev pub Lent : Spaces → (c f : ℕ) → Access → Type 0
Lent s c f w = (o : ℕ) × (s.kind f ≡ page o) × (lends (s.shared f c) w ≡ true)

-- what the guest of space c was, and the frame waits for this space
abbrev pub Drains : Spaces → (c f : ℕ) → Type 0
Drains s c f = (s.kind f ≡ draining (s.space c).serves) × ((j : ℕ) × (s.waits f c j ≡ true))

-- the guest's own page, one that is shared with the space for this access, or a frame that drains for the space
abbrev pub Allowed : Spaces → (c f : ℕ) → Access → Type 0
Allowed s c f w = (s.kind f ≡ page (s.space c).serves) ⊎ (Lent s c f w ⊎ Drains s c f)

-- Frame f changes hands in the step from m to z.
pub record Handed (m z : Machine) (f : ℕ) : Type 0 where
  pub was_free : m.spaces.kind f ≡ free
  pub unreached_before : (c : ℕ) (w : Access) (a : ℕ) → a / 4096 ≡ m.spaces.first + f → Reaches m c w a → ⊥
  pub unreached_after : (c : ℕ) (w : Access) (a : ℕ) → a / 4096 ≡ z.spaces.first + f → Reaches z c w a → ⊥
  pub all_zero : (i : ℕ) → z.spaces.word f i ≡ 0

-- the host, or the monitor for it, stores to frame f
abbrev pub HostMove : {s s' : Spaces} → Move s s' → (f : ℕ) → Type 0
HostMove (put f i x u) a = f ≡ a
HostMove (claim t c h p m) a = ⊥
HostMove (link t t' c h q x m) a = ⊥
HostMove (enter t c h q x y r m) a = ⊥
HostMove (clear t c h q x y r S j m) a = ⊥
HostMove (unhook t t' c h q x S j W m) a = ⊥
HostMove (hand f g e z) a = ⊥
HostMove (lend f c how m) a = ⊥
HostMove (retire P g W m) a = ⊥
HostMove (release P m) a = ⊥
HostMove (open_space c n m) a = ⊥
HostMove (end c S j l g e) a = ⊥
HostMove (dissolve c l e) a = ⊥

abbrev pub HostStores : {m z : Machine} → Step m z → (f : ℕ) → Type 0
HostStores (moves s a) f = HostMove a f
HostStores (reports c R D r) f = ⊥
HostStores (looks k l) f = ⊥
HostStores (stores c f o b l a) g = ⊥

-- the step is a store of space c to frame f
abbrev pub StoresBy : {m z : Machine} → Step m z → (c f : ℕ) → Type 0
StoresBy (moves s a) c f = ⊥
StoresBy (reports d R D r) c f = ⊥
StoresBy (looks k l) c f = ⊥
StoresBy (stores d a o b l w) c f = (d ≡ c) × (a ≡ f)

-- what nobody may reach: a table, in use, claimed or emptied, a free frame, the monitor's
abbrev pub Hidden : FrameUse → Type 0
Hidden monitor = Unit {0}
Hidden free = Unit {0}
Hidden (claimed c h p) = Unit {0}
Hidden (table c h p) = Unit {0}
Hidden (emptied c h p) = Unit {0}
Hidden (page g) = ⊥
Hidden (draining g) = ⊥

-- all frames beyond RAM are called the monitor's
abbrev pub Bounded : Machine → Type 0
Bounded m = (t : ℕ) → m.spaces.size ≤ t → m.spaces.kind t ≡ monitor

-- the moves that change what the tables of space d lead to; a table that is linked and says nothing changes none of it
abbrev pub Touches : {s s' : Spaces} → Move s s' → (d : ℕ) → Type 0
Touches (put f i x u) d = ⊥
Touches (claim t c h p m) d = ⊥
Touches {s} (link t t' c h q x m) d = (d ≡ c) × ((v f r : ℕ) × (upper h v / 512 ≡ q) × Says s t' h v f r)
Touches (enter t c h q x y r m) d = d ≡ c
Touches (clear t c h q x y r S j m) d = d ≡ c
Touches (unhook t t' c h q x S j W m) d = ⊥
Touches (hand f g e z) d = ⊥
Touches (lend f c how m) d = ⊥
Touches (retire P g W m) d = ⊥
Touches (release P m) d = ⊥
Touches (open_space c n m) d = ⊥
Touches (end c S j l g e) d = ⊥
Touches (dissolve c l e) d = d ≡ c
