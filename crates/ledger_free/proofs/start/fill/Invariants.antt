use Rattle.ledger_free.specs.Start.{Filled}
use Rattle.ledger_free.proofs.start.fill.Given as goal

abbrev pub invariant-loop-f : goal.invariant-loop-f
invariant-loop-f l = Filled l.n l.k l.f l.ledger
