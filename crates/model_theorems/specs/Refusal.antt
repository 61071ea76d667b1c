-- Demand 2: "A refused operation leaves memory and ledger byte for byte as they were, also where it ran out of table pages on the way."
-- Any machine and operation that is refused: the state after the call is the state before it. (A refusal carries a number and no state,
-- so this is by the type of Out.)
use Rattle.std.specs.Prelude.{◌≡◌, ℕ}
use Rattle.std.proofs.Common.{ap}
use Rattle.model.specs.Operations.{Out, refuse}
use Rattle.model.specs.Machine.{Machine, Operation, answer, keeps, settle, call}

pub nothing_changes : (m : Machine) (o : Operation) (n : ℕ) → answer m.state o ≡ refuse n → (call m o).state ≡ m.state
unfolding call settle
nothing_changes m o n e = ap (λ (x : Out). (settle m (keeps m.caches o) x).state) e
