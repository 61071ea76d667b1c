-- What the tables say: the way of an address through a guest's tables, and what it comes to.
-- Pages are numbered: the guest-physical address a lies in page a / 4096.
use Rattle.std.specs.Prelude.{◌≡◌, Bool, true, false, cond, ℕ, zero, suc, ◌/◌, ◌%◌}
use Rattle.std.proofs.Math.Option.{Option, none, some}
use Rattle.model.specs.State.{State, table}
use Rattle.model.specs.Entry.{Entry, empty, to_table, to_page, other, entry}

-- the number v of a page without its last h groups of nine bits
unfoldable pub upper : (h v : ℕ) → ℕ
upper zero v = v
upper (suc h) v = upper h v / 512

-- the place of page v in a table of height h
abbrev pub index : (h v : ℕ) → ℕ
index h v = upper h v % 512

-- what stands in a table
abbrev pub entry_at : State → (t i : ℕ) → Entry
entry_at s t i = entry s.first (s.word t i)

abbrev pub into {ℓ} : {A : Type ℓ} → Entry → A → (ℕ → A) → A
into empty stop next = stop
into (to_table t) stop next = next t
into (to_page f r) stop next = stop
into (other x) stop next = stop

-- the table of height 0 that the way to v comes to, from table t of height h
unfoldable pub descend : State → (h t v : ℕ) → Option ℕ
descend s zero t v = some t
descend s (suc h) t v = into (entry_at s t (index (suc h) v)) none (λ t'. descend s h t' v)

-- at height h the way to v stands in the table of g that serves v
abbrev pub At : State → (g h v t : ℕ) → Type 0
At s g h v t = s.kind t ≡ table g h (upper (suc h) v)

-- a frame and the rights
abbrev pub Page : Type 0
Page = ℕ × ℕ

abbrev pub page_in : Entry → Option Page
page_in empty = none
page_in (to_table t) = none
page_in (to_page f r) = some (f, r)
page_in (other x) = none

abbrev pub page_at : State → ℕ → Option ℕ → Option Page
page_at s v none = none
page_at s v (some t) = page_in (entry_at s t (v % 512))

unfoldable pub leaf : State → (g v : ℕ) → Option ℕ
leaf s g v = cond (s.exists g) (descend s 3 (s.root g) v) none

-- what page v of guest g translates to
unfoldable pub translate : State → (g v : ℕ) → Option Page
translate s g v = page_at s v (leaf s g v)

abbrev pub is_some : {A : Type 0} → Option A → Bool
is_some none = false
is_some (some a) = true

abbrev pub mapped : State → (g v : ℕ) → Bool
mapped s g v = is_some (translate s g v)

-- how many tables are missing on the way to v, from table t of height h
unfoldable pub missing_from : State → (h t v : ℕ) → ℕ
missing_from s zero t v = 0
missing_from s (suc h) t v = into (entry_at s t (index (suc h) v)) (suc h) (λ t'. missing_from s h t' v)

abbrev pub missing : State → (g v : ℕ) → ℕ
missing s g v = missing_from s 3 (s.root g) v
