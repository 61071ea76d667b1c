-- After f turns, the first f frames are released.
use Rattle.model.specs.Changes.{released}
use Rattle.ledger.specs.LedgerSound.{Changed}
use Rattle.monitor_contract.specs.EachFrame.{turned_below, same}
use Rattle.monitor_invalidated.proofs.release_all.Given as goal

abbrev pub invariant-loop-f : goal.invariant-loop-f
invariant-loop-f l = Changed (turned_below (released l.g) same l.f) l.initial.ledger l.ledger
