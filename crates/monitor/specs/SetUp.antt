-- Set-up, which counts on nothing that the slices hold: what fits, and the two slices after it.
use Rattle.std.specs.Prelude.{◌≡◌, Bool, ◌&&◌, List, ℕ, ◌*◌, eqb, length}
use Rattle.memory.specs.Ram.{frame_bytes}
use Rattle.model.specs.Operations.{Out, set_up}
use Rattle.ledger.specs.Layout.{words_for, word_of}
use Rattle.ledger.specs.Sound.{Sound}
use Rattle.monitor_contract.specs.Answers.{Outcome}

-- the slices have the lengths that n asks for
unfoldable pub slices_fit : (n : ℕ) (ram ledger : List ℕ) → Bool
slices_fit n m l = eqb (length m) (n * frame_bytes) && eqb (length l) (words_for n)

abbrev pub setting_up : (b n k : ℕ) (ram ledger : List ℕ) → Out
setting_up b n k m l = set_up (slices_fit n m l) b n k (word_of m)

-- Set-up makes what the operations count on, where it is answered with 0.
pub record SetUp (b n k : ℕ) (ram ledger : List ℕ) (r : ℕ) (ledger' : List ℕ) : Type 0 where
  pub sound : r ≡ 0 → Sound ram ledger'
  pub outcome : Outcome (setting_up b n k ram ledger) ram ledger r ram ledger'
