-- Document 03, section 1, over spaces: a space is a set of stage-2 tables together with what caches may keep of it.
-- Guest g's own is space g; a device's would be one of another number, that serves the device's guest.
-- "Dirty: something was taken out of its tables since its last completed invalidation": what that is stands in slots, each a set of pages.
use Rattle.std.specs.Prelude.{◌≡◌, Bool, true, false, ◌⊎◌, ℕ, ◌+◌, ◌/◌, ◌%◌}
use Rattle.model.specs.Base.{upd2}
use Rattle.model.specs.Translate.{upper}
use Rattle.model.specs.Operations.{shares}
use Rattle.model.specs.Cache.{output, descriptor, inside}

-- What a frame is used for. Height 0 is where pages are; a table of height h serves the pages v with upper (h + 1) v = range.
-- claimed: a table that nothing leads to yet. emptied: one that no table leads to any more, though caches may.
-- "draining, with the guest whose caches may still lead to it": a page that was.
pub data FrameUse : Type 0 where
  monitor free : FrameUse
  claimed table emptied : (space height range : ℕ) → FrameUse
  page draining : (guest : ℕ) → FrameUse

-- serves: the guest. Its root is `wide` frames, from frame `root` on, of this height: 1 frame of height 3 where the walk starts at level
-- 0.
-- A space that no longer exists has its tables until all of it is reported.
pub record Space : Type 0 where
  pub exists : Bool
  pub serves : ℕ
  pub height : ℕ
  pub wide : ℕ
  pub root : ℕ

pub record Spaces : Type 0 where
  pub size : ℕ
  -- the number of RAM's first frame in physical memory
  pub first : ℕ
  pub kind : ℕ → FrameUse
  -- frame, space: 0 not shared, 1 for reading, 2 for writing too
  pub shared : ℕ → ℕ → ℕ
  -- frame, space, slot: the frame is not free before this slot is cleared
  pub waits : ℕ → ℕ → ℕ → Bool
  pub space : ℕ → Space
  -- space, slot, page
  pub stale : ℕ → ℕ → ℕ → Bool
  -- frame, index
  pub word : ℕ → ℕ → ℕ

abbrev pub exists : Spaces → ℕ → Bool
exists s c = (s.space c).exists

-- the same, with another part
abbrev pub with_kind : Spaces → (ℕ → FrameUse) → Spaces
with_kind s x = record {
  size = s.size;
  first = s.first;
  kind = x;
  shared = s.shared;
  waits = s.waits;
  space = s.space;
  stale = s.stale;
  word = s.word;
}

abbrev pub with_shared : Spaces → (ℕ → ℕ → ℕ) → Spaces
with_shared s x = record {
  size = s.size;
  first = s.first;
  kind = s.kind;
  shared = x;
  waits = s.waits;
  space = s.space;
  stale = s.stale;
  word = s.word;
}

abbrev pub with_waits : Spaces → (ℕ → ℕ → ℕ → Bool) → Spaces
with_waits s x = record {
  size = s.size;
  first = s.first;
  kind = s.kind;
  shared = s.shared;
  waits = x;
  space = s.space;
  stale = s.stale;
  word = s.word;
}

abbrev pub with_space : Spaces → (ℕ → Space) → Spaces
with_space s x = record {
  size = s.size;
  first = s.first;
  kind = s.kind;
  shared = s.shared;
  waits = s.waits;
  space = x;
  stale = s.stale;
  word = s.word;
}

abbrev pub with_stale : Spaces → (ℕ → ℕ → ℕ → Bool) → Spaces
with_stale s x = record {
  size = s.size;
  first = s.first;
  kind = s.kind;
  shared = s.shared;
  waits = s.waits;
  space = s.space;
  stale = x;
  word = s.word;
}

abbrev pub with_word : Spaces → (ℕ → ℕ → ℕ) → Spaces
with_word s x = record {
  size = s.size;
  first = s.first;
  kind = s.kind;
  shared = s.shared;
  waits = s.waits;
  space = s.space;
  stale = s.stale;
  word = x;
}

-- one store: word i of frame f becomes x
abbrev pub store : Spaces → (f i x : ℕ) → Spaces
store s f i x = with_word s (upd2 s.word f i x)

-- Frame f is a page of the guest that space c serves, or somebody's that is shared with c so.
abbrev pub May : Spaces → (c f r : ℕ) → Type 0
May s c f r = (s.kind f ≡ page (s.space c).serves) ⊎ ((o : ℕ) × (s.kind f ≡ page o) × (shares (s.shared f c) r ≡ true))

-- Table t of height h says, as the processor reads it: page v is at frame f, with rights r. A leaf of any height.
abbrev pub Says : Spaces → (t h v f r : ℕ) → Type 0
Says s t h v f r = (y : ℕ) × (descriptor h (s.word t (upper h v % 512)) ≡ output y r) × (inside h y v ≡ s.first + f)

-- the tables of space c lead page v to frame f with rights r
abbrev pub Leads : Spaces → (c v f r : ℕ) → Type 0
Leads s c v f r = (h t : ℕ) × (s.kind t ≡ table c h (upper h v / 512)) × Says s t h v f r

-- t is a table of space c, or is claimed for one
abbrev pub Laid : Spaces → (c h p t : ℕ) → Type 0
Laid s c h p t = (s.kind t ≡ table c h p) ⊎ (s.kind t ≡ claimed c h p)

-- space c has frame f in some table, also in one that is only claimed
abbrev pub Has : Spaces → (c f r : ℕ) → Type 0
Has s c f r = (v h t : ℕ) × Laid s c h (upper h v / 512) t × Says s t h v f r

-- nothing of space c is stale; nothing of what its entry of height h for range q serves is; slot j has every page
abbrev pub Clean : Spaces → (c : ℕ) → Type 0
Clean s c = (j v : ℕ) → s.stale c j v ≡ false

abbrev pub Fresh : Spaces → (c h q : ℕ) → Type 0
Fresh s c h q = (j v : ℕ) → upper h v ≡ q → s.stale c j v ≡ false

abbrev pub Everything : Spaces → (c j : ℕ) → Type 0
Everything s c j = (v : ℕ) → s.stale c j v ≡ true
