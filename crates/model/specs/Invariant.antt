-- What set-up and every operation leave true: of the ledger and the tables (Core), and of what the processor has kept (Kept).
-- Every rule is about one entry, frame or guest. Operations in code count on Core of the two slices (ledger's Sound).
use Rattle.std.specs.Prelude.{◌≡◌, Bool, true, false, ◌&&◌, cond, ◌⊎◌, ℕ, zero, suc, ◌+◌, ◌*◌, ◌≤◌, ◌<◌, ◌/◌, ◌%◌, eqb}
use Rattle.model.specs.Base.{sum}
use Rattle.model.specs.State.{State, KindOfFrame, monitor, free, table, draining_table, page, draining_page, is_guest, page_count}
use Rattle.model.specs.Entry.{Entry, empty, to_table, to_page, other}
use Rattle.model.specs.Translate.{entry_at}
use Rattle.model.specs.Operations.{shares}
use Rattle.model.specs.Cache.{Caches}

-- f is g's page, or somebody's who shares it with g so
abbrev pub May : State → (g f r : ℕ) → Type 0
May s g f r = (s.kind f ≡ page g) ⊎ ((o : ℕ) × (s.kind f ≡ page o) × (shares (s.shared f g) r ≡ true))

-- what an entry of a table of height h, for the range q, may be: T of the table that it leads to, P of the page
module _ (T : (t h q : ℕ) → Type 0) (P : (f r : ℕ) → Type 0) where
  abbrev pub LeadsTo : (h q : ℕ) → Entry → Type 0
  LeadsTo h q empty = Unit {0}
  LeadsTo zero q (to_table t) = ⊥
  LeadsTo (suc h) q (to_table t) = T t h q
  LeadsTo zero q (to_page f r) = P f r
  LeadsTo (suc h) q (to_page f r) = ⊥
  LeadsTo h q (other x) = ⊥

-- so in g's tables
abbrev pub Fits : (kind : ℕ → KindOfFrame) (M : (g f r : ℕ) → Type 0) (g : ℕ) (h q : ℕ) → Entry → Type 0
Fits kind M g = LeadsTo (λ t h q. kind t ≡ table g h q) (M g)

-- and in those that drain for g
abbrev pub Stale : (kind : ℕ → KindOfFrame) (g : ℕ) (h q : ℕ) → Entry → Type 0
Stale kind g = LeadsTo (λ t h q. kind t ≡ draining_table g h q) (λ f r. kind f ≡ draining_page g)

-- the places that lead to f from g's tables
abbrev pub is_last : KindOfFrame → ℕ → Bool
is_last monitor g = false
is_last free g = false
is_last (table h n p) g = eqb h g && eqb n 0
is_last (draining_table h n p) g = false
is_last (page h) g = false
is_last (draining_page h) g = false

abbrev pub leads : Entry → ℕ → Bool
leads empty f = false
leads (to_table t) f = false
leads (to_page f' r) f = eqb f' f
leads (other x) f = false

unfoldable pub hit : KindOfFrame → Entry → (f g : ℕ) → ℕ
hit x e f g = cond (is_last x g && leads e f) 1 0

unfoldable pub places : State → (f g : ℕ) → ℕ
places s f g = sum s.size (λ t. sum 512 (λ i. hit (s.kind t) (entry_at s t i) f g))

pub record Core (s : State) : Type 0 where
  pub room : s.first + s.size ≤ page_count
  pub beyond : (t : ℕ) → s.size ≤ t → s.kind t ≡ monitor
  pub table_exists : (t g h p : ℕ) → s.kind t ≡ table g h p → s.exists g ≡ true
  pub tables : (t g h p : ℕ) → s.kind t ≡ table g h p → (i : ℕ) → i < 512 → Fits s.kind (May s) g h (p * 512 + i) (entry_at s t i)
  pub draining : (t g h p : ℕ) → s.kind t ≡ draining_table g h p → (i : ℕ) → i < 512 → Stale s.kind g h (p * 512 + i) (entry_at s t i)
  pub roots : (g : ℕ) → s.exists g ≡ true → s.kind (s.root g) ≡ table g 3 0
  pub page_exists : (f g : ℕ) → s.kind f ≡ page g → s.exists g ≡ true
  pub strangers : (f o h : ℕ) → s.kind f ≡ page o → s.exists h ≡ false → s.shared f h ≡ 0
  pub guests_only : (g : ℕ) → s.exists g ≡ true → is_guest g ≡ true
  pub counts : (f g : ℕ) → s.count f g ≡ places s f g

-- the tables say so now
abbrev pub Mapped : State → (g v f r : ℕ) → Type 0
Mapped s g v f r = (t : ℕ) × (s.kind t ≡ table g 0 (v / 512)) × (entry_at s t (v % 512) ≡ to_page f r)

-- What is kept leads to frames that are the guest's, or drain for it; and where the guest is not dirty, to what its tables say now.
pub record Kept (s : State) (k : Caches) : Type 0 where
  pub table_ok : (g h p x : ℕ) → k.table_kept g h p x → (t : ℕ) × (x ≡ s.first + t) ×
      ((s.kind t ≡ table g h p) ⊎ (s.kind t ≡ draining_table g h p))
  pub page_ok : (g v x r : ℕ) → k.page_kept g v x r → (f : ℕ) × (x ≡ s.first + f) × (May s g f r ⊎ (s.kind f ≡ draining_page g))
  pub table_now : (g h p x : ℕ) → s.dirty g ≡ false → k.table_kept g h p x → (t : ℕ) × (x ≡ s.first + t) × (s.kind t ≡ table g h p)
  pub page_now : (g v x r : ℕ) → s.dirty g ≡ false → k.page_kept g v x r → (f : ℕ) × (x ≡ s.first + f) × Mapped s g v f r
