use Rattle.ledger.proofs.Laws.Fields.{unshared_below}
use Rattle.ledger.specs.LedgerSound.{Changed}
use Rattle.ledger.proofs.frame.clear_shares.Given as goal

abbrev pub invariant-loop-g : goal.invariant-loop-g
invariant-loop-g l = Changed (unshared_below l.g l.f) l.initial.ledger l.ledger
