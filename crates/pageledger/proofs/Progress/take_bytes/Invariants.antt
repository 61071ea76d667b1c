use Rattle.pageledger.specs.Progress.{ProgressSound}
use Rattle.pageledger.proofs.Progress.take_bytes.Given as goal

abbrev pub invariant-loop-b : goal.invariant-loop-b
invariant-loop-b g l = ProgressSound l.self l.ram l.ledger
