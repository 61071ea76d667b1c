-- After f turns, the first f frames drain and g's counts of them are 0.
use Rattle.model.specs.Changes.{drained}
use Rattle.ledger.specs.LedgerSound.{Changed}
use Rattle.monitor_contract.specs.EachFrame.{turned_below, without}
use Rattle.monitor_destroy.proofs.drain_all.Given as goal

abbrev pub invariant-loop-f : goal.invariant-loop-f
invariant-loop-f l = Changed (turned_below (drained l.g) (without l.g) l.f) l.initial.ledger l.ledger
