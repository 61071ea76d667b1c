-- Document 03, section 4, for spaces: what the processor may keep, and what can be reached by it.
-- "For guest g it may use, at any time and without asking, any page translation that g's stage-2 tables have given at some moment [..]":
-- it looks when it likes, and keeps any part of what it finds. How it reads a word stands in model's Cache.
use Rattle.std.specs.Prelude.{◌≡◌, Bool, true, ℕ, suc, ◌+◌, ◌<◌, ◌/◌, ◌%◌}
use Rattle.model.specs.Translate.{upper}
use Rattle.model.specs.Cache.{next, output, descriptor, inside, Access, grants}
use Rattle.model_moves.specs.Spaces.{Spaces, exists}

-- Kept of space c: that the table of height h for range p is at page x of physical memory; that page v is at page x, with rights r;
-- that page v was found in a leaf of height l. (What keeps these together keeps each of them: so what is proved of each holds of all.)
pub record Caches : Type 1 where
  pub table_kept : (c h p x : ℕ) → Type 0
  pub page_kept : (c v x r : ℕ) → Type 0
  pub level_kept : (c v l : ℕ) → Type 0

abbrev pub nothing_kept : Caches
nothing_kept = record { table_kept = λ c h p x. ⊥; page_kept = λ c v x r. ⊥; level_kept = λ c v l. ⊥ }

-- "and any table descriptor on the way to it": the tables that it can come to are a root, a kept one, and what a word in RAM leads to.
pub data Table (s : Spaces) (k : Caches) (c : ℕ) : (h p x : ℕ) → Type 0 where
  from_root : {h p x : ℕ} → exists s c ≡ true → h ≡ (s.space c).height → p < (s.space c).wide → x ≡ s.first + ((s.space c).root + p) →
      Table s k c h p x
  from_kept : {h p x : ℕ} → k.table_kept c h p x → Table s k c h p x
  from_word : {h p x y : ℕ} (t : ℕ) → Table s k c (suc h) (p / 512) x → x ≡ s.first + t → t < s.size →
      descriptor (suc h) (s.word t (p % 512)) ≡ next y → Table s k c h p y

-- page v of space c is at page x of physical memory, with rights r: kept, or read off a leaf of any height
pub data Translation (s : Spaces) (k : Caches) (c v : ℕ) : (x r : ℕ) → Type 0 where
  kept : {x r : ℕ} → k.page_kept c v x r → Translation s k c v x r
  read_off : {x r : ℕ} (h z t y : ℕ) → Table s k c h (upper h v / 512) z → z ≡ s.first + t → t < s.size →
      descriptor h (s.word t (upper h v % 512)) ≡ output y r → x ≡ inside h y v → Translation s k c v x r

-- the height of the leaf that page v can be found in
pub data Level (s : Spaces) (k : Caches) (c v : ℕ) : (l : ℕ) → Type 0 where
  kept_level : {l : ℕ} → k.level_kept c v l → Level s k c v l
  read_level : {l : ℕ} (z t y r : ℕ) → Table s k c l (upper l v / 512) z → z ≡ s.first + t → t < s.size →
      descriptor l (s.word t (upper l v % 512)) ≡ output y r → Level s k c v l

-- the processor looks: of what it kept and what it finds it keeps any part, k'. "Invalid entries are not kept."
pub record Looks (s : Spaces) (k k' : Caches) : Type 0 where
  pub tables : (c h p x : ℕ) → k'.table_kept c h p x → Table s k c h p x
  pub pages : (c v x r : ℕ) → k'.page_kept c v x r → Translation s k c v x r
  pub levels : (c v l : ℕ) → k'.level_kept c v l → Level s k c v l

-- the pages that a table of height h for range p serves are all in R
abbrev pub Inside : (R : ℕ → Bool) (h p : ℕ) → Type 0
Inside R h p = (v : ℕ) → upper h v / 512 ≡ p → R v ≡ true

-- "the host's report that the processor has forgotten": of space c the translations of pages in R, and tables that serve none outside R.
-- Nothing else is taken to be forgotten.
unfoldable pub forget : Caches → (c : ℕ) (R : ℕ → Bool) → Caches
forget k c R = record {
  table_kept = λ d h p x. k.table_kept d h p x × (d ≡ c → Inside R h p → ⊥);
  page_kept = λ d v x r. k.page_kept d v x r × (d ≡ c → R v ≡ true → ⊥);
  level_kept = λ d v l. k.level_kept d v l × (d ≡ c → R v ≡ true → ⊥);
}

-- "a guest may reach a byte, for reading, writing or executing, if the tables or such a kept translation allow it":
-- the byte at physical address a
unfoldable pub Reach : Spaces → Caches → (c : ℕ) → Access → (a : ℕ) → Type 0
Reach s k c w a = (v r : ℕ) × Translation s k c v (a / 4096) r × (grants r w ≡ true)
