-- destroy as an operation of the state, and the test of all frames, as the contracts cite them. What they do: model/specs/Operations.
use Rattle.std.specs.Prelude.{ℕ, Bool}
use Rattle.model.specs.Base.{all}
use Rattle.model.specs.State.{State}
use Rattle.model.specs.Operations.{unshared, destroy}
use Rattle.monitor_contract.specs.Answers.{Operation}

abbrev pub destroying : (g : ℕ) → Operation
destroying g s pick = destroy s g

-- 13, of all frames: no page of g is shared with somebody, nor somebody's with g
abbrev pub none_shared : State → (g : ℕ) → Bool
none_shared s g = all s.size (λ f. unshared s f g)
