-- A new table: what is linked, and the two slices after it.
use Rattle.std.specs.Prelude.{◌≡◌, List, ℕ, suc, ◌-◌, ◌<◌, ◌≤◌, ◌/◌, ◌%◌}
use Rattle.model.specs.Base.{upd, upd2}
use Rattle.model.specs.Entry.{table_entry}
use Rattle.model.specs.State.{table, page, page_count}
use Rattle.model.specs.Translate.{index}
use Rattle.model.specs.Changes.{zeros, grow}
use Rattle.model.specs.Translate.{At}
use Rattle.ledger.specs.Layout.{first_of, kind_of, word_of, pick_of, state_of}
use Rattle.ledger.specs.Sound.{Sound, free_of}

-- u is, in the ledger, the table that entry i of table t is to lead to: of the same guest, for what that entry serves
pub record Placed (l : List ℕ) (t i u : ℕ) : Type 0 where
  pub guest : ℕ
  pub height : ℕ
  pub range : ℕ
  pub above : kind_of l t ≡ table guest (suc height) (range / 512)
  pub below : kind_of l u ≡ table guest height range
  pub place : i ≡ range % 512

-- "Tables are filled with zeros before they are linked in"
pub record Blank (m : List ℕ) (u : ℕ) : Type 0 where
  pub zero_at : (j : ℕ) → word_of m u j ≡ 0

-- the words of RAM when table u is cleared and entry i of table t leads to it
abbrev pub cleared_and_linked : (ram ledger : List ℕ) (t i u : ℕ) → (ℕ → ℕ → ℕ)
cleared_and_linked m l t i u = upd2 (upd (word_of m) u zeros) t i (table_entry (first_of l) u)

-- where the doing stands: h tables are missing below t
pub record Growing (m l : List ℕ) (g v h t : ℕ) : Type 0 where
  pub sound : Sound m l
  pub high : h ≤ 3
  pub page_low : v < page_count
  pub serves : At (state_of m l) g h v t
  pub nothing_yet : 0 < h → (state_of m l).word t (index h v) ≡ 0
  pub enough : h ≤ free_of l

-- table u is made below t
pub record Made (m l : List ℕ) (g v h t u : ℕ) (m' l' : List ℕ) : Type 0 where
  pub growing : Growing m' l' g v (h - 1) u
  pub grows : grow h (state_of m l) g t v (pick_of l) ≡ grow (h - 1) (state_of m' l') g u v (pick_of l')
  pub pages_stay : (f o : ℕ) → (state_of m l).kind f ≡ page o → (state_of m' l').kind f ≡ page o
