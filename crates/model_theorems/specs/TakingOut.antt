-- Demand 2: "Taking a page out of a guest is complete."
-- Any run from set-up. After unmap is answered 0 the address does not translate; where nothing is counted of f for g, no address of g
-- translates to f. (That nothing which the processor kept leads there: crate isolation, TakenOut.)
use Rattle.std.specs.Prelude.{◌≡◌, ℕ, ◌<◌, ◌/◌}
use Rattle.std.proofs.Math.Option.{none, some}
use Rattle.model.specs.State.{State, page_count}
use Rattle.model.specs.Translate.{translate}
use Rattle.model.specs.Operations.{done, unmap}
use Rattle.model.specs.Machine.{Machine, SetUp, Run}
use Rattle.model.proofs.Invariant.Holds.{holds}
use Rattle.model.proofs.Invariant.LinkedAlways.{uncounted}
use Rattle.model.proofs.Invariant.Effects.{unmapped_after}

pub unmapped : {m z : Machine} → SetUp m → Run m z → (g a : ℕ) (s' : State) → unmap z.state a g ≡ done s' →
    translate s' g (a / 4096) ≡ none
unmapped {z} x r g a s' e = unmapped_after z.state (holds x r).core g a s' e

pub no_address : {m z : Machine} → SetUp m → Run m z → (f g : ℕ) → z.state.count f g ≡ 0 → (v r : ℕ) → v < page_count →
    translate z.state g v ≡ some (f, r) → ⊥
no_address {z} x r f g = uncounted z.state (holds x r).core f g
