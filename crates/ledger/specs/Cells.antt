-- The ledger's words in rows of 16, and what a store does to them. A table of rows begins at a word o and has m rows;
-- a cell is named by its column, then its row, so that a store leaves other columns alone by computation.
use Rattle.std.specs.Prelude.{◌&&◌, cond, List, ℕ, ◌+◌, ◌*◌, ltb, get_or, set}
use Rattle.ledger.specs.Columns.{ROW_WORDS}

unfoldable pub cell : (o m : ℕ) → List ℕ → (column row : ℕ) → ℕ
cell o m l j r = cond (ltb j ROW_WORDS && ltb r m) (get_or l (o + ROW_WORDS * r + j) 0) 0

unfoldable pub store : (o : ℕ) → List ℕ → (column row v : ℕ) → List ℕ
store o l j r v = set l (o + ROW_WORDS * r + j) v
