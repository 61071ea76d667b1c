-- The stored kind of a frame: whose it is, and what it becomes when it drains.
use Rattle.std.specs.Prelude.{cond, ℕ, eqb, ltb}
use Rattle.ledger.specs.Columns.{KIND, GUEST}
use Rattle.model.specs.State.{NOTHING, READING, WRITING, MONITOR, FREE, TABLE, DRAINING_TABLE, PAGE, DRAINING_PAGE, KindOfFrame, monitor, free, table, draining_table, page, draining_page}
use Rattle.ledger.specs.declared.kinds.Kind.{Kind}
use Rattle.ledger.specs.declared.frame.Shared.{Shared}
use Rattle.ledger.specs.declared.frame.Shared.TheVariants.{Nothing, Reading, Writing}
use Rattle.ledger.specs.declared.kinds.Kind.TheVariants.{Monitor, Free, Table, DrainingTable, Page, DrainingPage}

-- the number of a kind in the code, as kind_number's of a kind in the model
abbrev pub kind_code : Kind → ℕ
kind_code Monitor = MONITOR
kind_code Free = FREE
kind_code Table = TABLE
kind_code DrainingTable = DRAINING_TABLE
kind_code Page = PAGE
kind_code DrainingPage = DRAINING_PAGE

-- a stored number that stands for no kind reads as the monitor's
abbrev pub known_kind : ℕ → ℕ
known_kind k = cond (ltb DRAINING_PAGE k) MONITOR k

-- the number of what is shared, and a stored number above that of writing reads as it does
abbrev pub share_code : Shared → ℕ
share_code Nothing = NOTHING
share_code Reading = READING
share_code Writing = WRITING

abbrev pub known_share : ℕ → ℕ
known_share n = cond (ltb WRITING n) WRITING n

-- The guest of a kind, 0 where it has none.
abbrev pub guest_in : KindOfFrame → ℕ
guest_in monitor = 0
guest_in free = 0
guest_in (table g h p) = g
guest_in (draining_table g h p) = g
guest_in (page g) = g
guest_in (draining_page g) = g

-- what frame f is where guest g is stored with it, by its number; otherwise as if it were the monitor's
abbrev pub kind_for : (F : ℕ → ℕ → ℕ) (f g : ℕ) → ℕ
kind_for F f g = cond (eqb (F GUEST f) g) (F KIND f) MONITOR

-- the number of a table or a page when it drains
abbrev pub draining : ℕ → ℕ
draining k = cond (eqb k TABLE) DRAINING_TABLE DRAINING_PAGE
