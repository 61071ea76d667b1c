-- Demand 2: "Every operation does what document 03 says and no more: each address of each guest translates as before, apart from what
-- was asked."
-- Any run from set-up, then an operation with any arguments that is answered 0 (a refusal changes nothing, by the type of Out); every
-- guest h and each of its 2^36 pages v.
-- `expected` (in Terms) is the table of the nine operations. After map, a translates to f with rights r; after unmap and destroy, to
-- nothing.
use Rattle.std.specs.Prelude.{◌≡◌, ℕ, ◌<◌}
use Rattle.model.specs.State.{State, page_count}
use Rattle.model.specs.Translate.{translate}
use Rattle.model.specs.Operations.{done}
use Rattle.model.specs.Machine.{Machine, SetUp, Run, Operation, answer, Chooses}
use Rattle.model.specs.Terms.{expected}
use Rattle.model.proofs.Invariant.Answer.{then_is}
use Rattle.model.proofs.Invariant.Effects.{rows}
use Rattle.model.proofs.Invariant.Holds.{holds}

pub effect : {m z : Machine} → SetUp m → Run m z → (o : Operation) → Chooses z.state o → (s' : State) → answer z.state o ≡ done s' →
    (h v : ℕ) → v < page_count → translate s' h v ≡ expected z.state o h v
effect {z} x r o ch s' e = then_is (answer z.state o) s' (rows z.state (holds x r).core o ch) e
