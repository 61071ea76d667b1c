-- create as an operation of the state and of the order of its free frames, as the contracts cite it. What it does: model/specs/Operations.
use Rattle.std.specs.Prelude.{ℕ}
use Rattle.model.specs.Operations.{create}
use Rattle.monitor_contract.specs.Answers.{Operation}

abbrev pub creating : (g : ℕ) → Operation
creating g s pick = create s g pick
