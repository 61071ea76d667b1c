use Rattle.pageledger.specs.Progress.{ProgressSound}
use Rattle.pageledger.proofs.Progress.read_input.Given as goal

abbrev pub invariant-loop : goal.invariant-loop
invariant-loop g l = ProgressSound l.self l.ram l.ledger
