-- The moves of the monitor and of the host. Each makes at most one store to RAM; what it notes in the ledger the processor does not see.
-- Every operation of document 03 is a path of these, so what holds after each move holds after each single store of an operation.
-- A record has what a move counts on. That the operations' refusals ensure it is proved in crate model_paths.
use Rattle.std.specs.Prelude.{◌≡◌, Bool, true, false, not, ◌&&◌, cond, ◌⊎◌, ℕ, suc, ◌+◌, ◌-◌, ◌<◌, ◌/◌, ◌%◌, eqb, ltb, leb}
use Rattle.model.specs.Base.{upd, upd2}
use Rattle.model.specs.Translate.{upper}
use Rattle.model.specs.Operations.{shares}
use Rattle.model.specs.Cache.{invalid, next, output, descriptor, inside}
use Rattle.model_moves.specs.Spaces.{Spaces, Space, FrameUse, monitor, free, claimed, table, emptied, page, draining, exists, with_kind, with_shared, with_waits, with_space, with_stale, store, May, Has, Clean, Fresh}

-- a frame that holds no table, and is not claimed for one
abbrev pub untabled : FrameUse → Bool
untabled monitor = true
untabled free = true
untabled (claimed c h p) = false
untabled (table c h p) = false
untabled (emptied c h p) = false
untabled (page g) = true
untabled (draining g) = true

-- what is stale of space c becomes S: no less than before
abbrev pub Grows : Spaces → (c : ℕ) (S : ℕ → ℕ → Bool) → Type 0
Grows s c S = (j v : ℕ) → s.stale c j v ≡ true → S j v ≡ true

-- claim: t is free, says only what space c may have, and leads to no other table. (All zero, it says nothing.)
pub record Claim (s : Spaces) (t c h p : ℕ) : Type 0 where
  pub was : s.kind t ≡ free
  pub leaf : (v y r : ℕ) → upper h v / 512 ≡ p → descriptor h (s.word t (upper h v % 512)) ≡ output y r →
      (f : ℕ) × (inside h y v ≡ s.first + f) × May s c f r
  pub no_table : (i y : ℕ) → descriptor h (s.word t (i % 512)) ≡ next y → ⊥

-- link: the entry of height h + 1 for range q, in table t, is empty; x leads to the table t' that was claimed for it
pub record Link (s : Spaces) (t t' c h q x : ℕ) : Type 0 where
  pub live : exists s c ≡ true
  pub place : s.kind t ≡ table c (suc h) (q / 512)
  pub empty : descriptor (suc h) (s.word t (q % 512)) ≡ invalid
  pub was : s.kind t' ≡ claimed c h q
  -- what t' says is not stale, and no slot has all of the range
  pub fresh : (j v y r : ℕ) → upper (suc h) v ≡ q → descriptor h (s.word t' (upper h v % 512)) ≡ output y r → s.stale c j v ≡ false
  pub whole : (j : ℕ) → ((v : ℕ) → upper (suc h) v ≡ q → s.stale c j v ≡ true) → ⊥
  pub reads : descriptor (suc h) x ≡ next (s.first + t')

-- enter: the entry of height h for range q, in table t, is empty, and nothing of its range is stale; x is a leaf that the space may have
pub record Enter (s : Spaces) (t c h q x y r : ℕ) : Type 0 where
  pub live : exists s c ≡ true
  pub place : s.kind t ≡ table c h (q / 512)
  pub empty : descriptor h (s.word t (q % 512)) ≡ invalid
  pub fresh : Fresh s c h q
  pub reads : descriptor h x ≡ output y r
  pub may : (v : ℕ) → upper h v ≡ q → (f : ℕ) × (inside h y v ≡ s.first + f) × May s c f r

-- clear: the entry is a leaf, and becomes x, which is none; what it served is stale
pub record Clear (s : Spaces) (t c h q x y r : ℕ) (S : ℕ → ℕ → Bool) (j : ℕ) : Type 0 where
  pub live : exists s c ≡ true
  pub place : s.kind t ≡ table c h (q / 512)
  pub leaf : descriptor h (s.word t (q % 512)) ≡ output y r
  pub reads : descriptor h x ≡ invalid
  pub grows : Grows s c S
  pub marks : (v : ℕ) → upper h v ≡ q → S j v ≡ true

-- unhook: the entry leads to table t', which is empty, and becomes x, which is none; what it served is stale, and t' waits for that
pub record Unhook (s : Spaces) (t t' c h q x : ℕ) (S : ℕ → ℕ → Bool) (j : ℕ) (W : ℕ → ℕ → Bool) : Type 0 where
  pub live : exists s c ≡ true
  pub place : s.kind t ≡ table c (suc h) (q / 512)
  pub was : s.kind t' ≡ table c h q
  pub leads : descriptor (suc h) (s.word t (q % 512)) ≡ next (s.first + t')
  pub bare : (i : ℕ) → descriptor h (s.word t' (i % 512)) ≡ invalid
  pub reads : descriptor (suc h) x ≡ invalid
  pub grows : Grows s c S
  pub marks : (v : ℕ) → upper (suc h) v ≡ q → S j v ≡ true
  pub for : W c j ≡ true

-- lend: f is shared with space c as `how` says, for no less than now; or c has f nowhere, and nothing of c is stale
pub record Lend (s : Spaces) (f c how : ℕ) : Type 0 where
  pub allowed : ((r : ℕ) → shares (s.shared f c) r ≡ true → shares how r ≡ true) ⊎ (((r : ℕ) → Has s c f r → ⊥) × Clean s c)

-- retire: a page of g, in no table of a space that exists, shared with nobody, drains; it waits for all that is stale of g's spaces
pub record Retire (s : Spaces) (g f : ℕ) (W : ℕ → ℕ → Bool) : Type 0 where
  pub was : s.kind f ≡ page g
  pub nowhere : (c r : ℕ) → exists s c ≡ true → Has s c f r → ⊥
  pub unshared : (c : ℕ) → s.shared f c ≡ 0
  pub for : (c j v : ℕ) → (s.space c).serves ≡ g → s.stale c j v ≡ true → W c j ≡ true

-- release: it drains, or is emptied, and waits for nothing
abbrev pub Released : Spaces → (f : ℕ) → Type 0
Released s f = (((g : ℕ) × (s.kind f ≡ draining g)) ⊎ ((c h p : ℕ) × (s.kind f ≡ emptied c h p))) × ((c j : ℕ) → s.waits f c j ≡ false)

-- frames P are used otherwise
abbrev pub turned : Spaces → (P : ℕ → Bool) (K : FrameUse) → Spaces
turned s P x = with_kind s (λ f. cond (P f) x (s.kind f))

-- open_space: space c begins. Its root is free frames with nothing in them; nothing is left of a space of this number;
-- nothing is shared with it; and a guest begins with no page.
pub record Open (s : Spaces) (c : ℕ) (n : Space) : Type 0 where
  pub new : exists s c ≡ false
  pub begins : n.exists ≡ true
  pub clean : Clean s c
  pub none : (t h p : ℕ) → (s.kind t ≡ table c h p → ⊥) × (s.kind t ≡ claimed c h p → ⊥)
  pub spare : (p : ℕ) → p < n.wide → (s.kind (n.root + p) ≡ free) ×
      ((i : ℕ) → descriptor n.height (s.word (n.root + p) (i % 512)) ≡ invalid)
  pub unlent : (f o : ℕ) → s.kind f ≡ page o → s.shared f c ≡ 0
  pub pageless : n.serves ≡ c → (f : ℕ) → s.kind f ≡ page c → ⊥

-- t is a frame of the space's root
abbrev pub rooted : Space → ℕ → Bool
rooted n t = leb n.root t && ltb t (n.root + n.wide)

-- the space, when it exists no longer
abbrev pub closed : Space → Space
closed n = record { exists = false; serves = n.serves; height = n.height; wide = n.wide; root = n.root }

-- it is a table of space c, or claimed for one
abbrev pub of_space : ℕ → FrameUse → Bool
of_space c monitor = false
of_space c free = false
of_space c (claimed d h p) = eqb d c
of_space c (table d h p) = eqb d c
of_space c (emptied d h p) = false
of_space c (page g) = false
of_space c (draining g) = false

pub data Move (s : Spaces) : Spaces → Type 0 where
  -- the host, or the monitor: a word of a frame that holds no table. A host loads images into pages of guests
  put : (f i x : ℕ) → untabled (s.kind f) ≡ true → Move s (store s f i x)
  claim : (t c h p : ℕ) → Claim s t c h p → Move s (with_kind s (upd s.kind t (claimed c h p)))
  link : (t t' c h q x : ℕ) → Link s t t' c h q x → Move s (with_kind (store s t (q % 512) x) (upd s.kind t' (table c h q)))
  enter : (t c h q x y r : ℕ) → Enter s t c h q x y r → Move s (store s t (q % 512) x)
  clear : (t c h q x y r : ℕ) (S : ℕ → ℕ → Bool) (j : ℕ) → Clear s t c h q x y r S j →
      Move s (with_stale (store s t (q % 512) x) (upd s.stale c S))
  unhook : (t t' c h q x : ℕ) (S : ℕ → ℕ → Bool) (j : ℕ) (W : ℕ → ℕ → Bool) → Unhook s t t' c h q x S j W →
      Move s (with_waits (with_kind (with_stale (store s t (q % 512) x) (upd s.stale c S)) (upd s.kind t' (emptied c h q)))
      (upd s.waits t' W))
  -- a free frame, all zero, becomes a page, shared with nobody
  hand : (f g : ℕ) → s.kind f ≡ free → ((i : ℕ) → s.word f i ≡ 0) →
      Move s (with_shared (with_kind s (upd s.kind f (page g))) (upd s.shared f (λ c. 0)))
  lend : (f c how : ℕ) → Lend s f c how → Move s (with_shared s (upd2 s.shared f c how))
  retire : (P : ℕ → Bool) (g : ℕ) (W : ℕ → ℕ → Bool) → ((f : ℕ) → P f ≡ true → Retire s g f W) →
      Move s (with_waits (turned s P (draining g)) (λ f. cond (P f) W (s.waits f)))
  -- what waits for nothing becomes free
  release : (P : ℕ → Bool) → ((f : ℕ) → P f ≡ true → Released s f) → Move s (turned s P free)
  open_space : (c : ℕ) (n : Space) → Open s c n →
      Move s (with_kind (with_space s (upd s.space c n)) (λ t. cond (rooted n t) (table c n.height (t - n.root)) (s.kind t)))
  -- space c is no longer; everything of it is stale
  end : (c : ℕ) (S : ℕ → ℕ → Bool) (j : ℕ) → exists s c ≡ true → Grows s c S → ((v : ℕ) → S j v ≡ true) →
      Move s (with_space (with_stale s (upd s.stale c S)) (upd s.space c (closed (s.space c))))
  -- and when all of it is reported, its tables are free
  dissolve : (c : ℕ) → exists s c ≡ false → Clean s c → Move s (with_kind s (λ t. cond (of_space c (s.kind t)) free (s.kind t)))

-- "invalidated": the report for the pages R of space c. The slots D are cleared, each wholly in R; nothing waits for them any more.
pub record Report (s : Spaces) (c : ℕ) (R D : ℕ → Bool) : Type 0 where
  pub covered : (j v : ℕ) → D j ≡ true → s.stale c j v ≡ true → R v ≡ true

abbrev pub reported : Spaces → (c : ℕ) (D : ℕ → Bool) → Spaces
reported s c D =
    with_waits (with_stale s (upd s.stale c (λ j v. s.stale c j v && not (D j)))) (λ f d j. s.waits f d j && not (eqb d c && D j))
