-- Document 03, section 4: what the processor may keep, and what a guest can reach.
-- The processor reads a word by its bits (document 01, section 3), and not as the monitor reads its own. It is allowed more than
-- document 01:
-- the access flag and the bits that must be 0 are ignored, and a block is kept page by page.
use Rattle.std.specs.Prelude.{◌≡◌, Bool, true, cond, ℕ, zero, suc, ◌+◌, ◌*◌, ◌<◌, ◌/◌, ◌%◌, eqb}
use Rattle.model.specs.State.{State}
use Rattle.model.specs.Entry.{rights_of}
use Rattle.model.specs.Translate.{upper, index}

-- what a word says in a table of this height: a table, or a page or block, at that page of physical memory
pub data Descriptor : Type 0 where
  invalid : Descriptor
  next : (page : ℕ) → Descriptor
  output : (page rights : ℕ) → Descriptor

-- bits 1..0 = 3: a page at height 0 (level 3), and a table elsewhere
abbrev pub three : (height : ℕ) (page rights : ℕ) → Descriptor
three zero p r = output p r
three (suc h) p r = next p

-- bits 1..0 = 1: a block at heights 1 and 2 (levels 2 and 1)
abbrev pub one : (height : ℕ) (page rights : ℕ) → Descriptor
one zero p r = invalid
one (suc zero) p r = output p r
one (suc (suc zero)) p r = output p r
one (suc (suc (suc h))) p r = invalid

unfoldable pub descriptor : (height x : ℕ) → Descriptor
descriptor h x =
    let p = x / 4096 % 0x1000000000 in
    cond (eqb (x % 4) 3) (three h p (rights_of x)) (
    cond (eqb (x % 4) 1) (one h p (rights_of x)) (
    invalid))

-- the page of a block at page p, of 512^h pages, that page v of the guest lies in
unfoldable pub inside : (h p v : ℕ) → ℕ
inside zero p v = p
inside (suc h) p v = inside h (p / 512) (v / 512) * 512 + v % 512

-- Kept for guest g: that the table of height h for range p is at page x of physical memory; that page v is at page x, with rights r.
pub record Caches : Type 1 where
  pub table_kept : (g h p x : ℕ) → Type 0
  pub page_kept : (g v x r : ℕ) → Type 0

-- The tables that the processor can come to: the root, a kept one, and what a word in RAM leads to from there.
pub data Table (s : State) (k : Caches) (g : ℕ) : (h p x : ℕ) → Type 0 where
  from_root : {x : ℕ} → s.exists g ≡ true → x ≡ s.first + s.root g → Table s k g 3 0 x
  from_kept : {h p x : ℕ} → k.table_kept g h p x → Table s k g h p x
  from_word : {h p x y : ℕ} → Table s k g (suc h) p x → (t i : ℕ) → x ≡ s.first + t → t < s.size → i < 512 →
      descriptor (suc h) (s.word t i) ≡ next y → Table s k g h (p * 512 + i) y

-- "any page translation that g's stage-2 tables have given [..], and any table descriptor on the way to it"
pub data Translation (s : State) (k : Caches) (g v : ℕ) : (x r : ℕ) → Type 0 where
  kept : {x r : ℕ} → k.page_kept g v x r → Translation s k g v x r
  read_off : {x r : ℕ} (h y t p : ℕ) → Table s k g h (upper (suc h) v) y → y ≡ s.first + t → t < s.size →
      descriptor h (s.word t (index h v)) ≡ output p r → x ≡ inside h p v → Translation s k g v x r

-- after each step the processor may keep all of these
unfoldable pub grown : State → Caches → Caches
grown s k = record { table_kept = Table s k; page_kept = Translation s k }

-- "the processor has forgotten all of g's translations"
unfoldable pub forget : Caches → ℕ → Caches
forget k g = record {
  table_kept = λ h n p x. (h ≡ g → ⊥) × k.table_kept h n p x;
  page_kept = λ h v x r. (h ≡ g → ⊥) × k.page_kept h v x r;
}

abbrev pub nothing_kept : Caches
nothing_kept = record { table_kept = λ g h p x. ⊥; page_kept = λ g v x r. ⊥ }

pub data Access : Type 0 where
  reading writing executing : Access

-- rights: 1 read, 2 write, 4 execute, added up
abbrev pub grants : ℕ → Access → Bool
grants r reading = eqb (r % 2) 1
grants r writing = eqb (r / 2 % 2) 1
grants r executing = eqb (r / 4 % 2) 1

-- "a guest may reach a byte, for reading, writing or executing, if the tables or such a kept translation allow it": the byte at physical
-- address a
unfoldable pub Reach : State → Caches → (g : ℕ) → Access → (a : ℕ) → Type 0
Reach s k g w a = (v r : ℕ) × Translation s k g v (a / 4096) r × (grants r w ≡ true)
