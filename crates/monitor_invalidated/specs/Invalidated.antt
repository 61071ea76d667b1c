-- invalidated as an operation of the state and of the order of its free frames, as the contracts cite it. What it does:
-- model/specs/Operations.
use Rattle.std.specs.Prelude.{ℕ}
use Rattle.model.specs.Operations.{invalidated}
use Rattle.monitor_contract.specs.Answers.{Operation}

abbrev pub invalidating : (g : ℕ) → Operation
invalidating g s pick = invalidated s g
