-- What the operations of the monitor count on and keep, of the two lent slices.
use Rattle.std.specs.Prelude.{◌≡◌, List, ℕ, ◌*◌, length}
use Rattle.model.specs.Invariant.{Core}
use Rattle.ledger.specs.Columns.{FREE_COUNT, HEADER}
use Rattle.ledger.specs.Layout.{guest_rows, size_of, state_of}
use Rattle.ledger.specs.LedgerSound.{LedgerSound}

pub record Sound (ram ledger : List ℕ) : Type 0 where
  pub ledger_sound : LedgerSound ledger
  pub ram_fits : length ram ≡ size_of ledger * 4096
  pub core : Core (state_of ram ledger)

-- how many frames are free
abbrev pub free_of : List ℕ → ℕ
free_of l = guest_rows l FREE_COUNT HEADER
