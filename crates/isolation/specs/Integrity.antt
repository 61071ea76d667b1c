-- The word of the sentence on contents, which stands in proofs/Theorems/Integrity.
use Rattle.std.specs.Prelude.{ℕ}
use Rattle.model.specs.State.{KindOfFrame, monitor, page, draining_table, draining_page}

-- what an operation leaves as it is
pub data Held : KindOfFrame → Type 0 where
  a_page : {g : ℕ} → Held (page g)
  a_draining_page : {g : ℕ} → Held (draining_page g)
  a_draining_table : {g h p : ℕ} → Held (draining_table g h p)
  the_monitor's : Held monitor
