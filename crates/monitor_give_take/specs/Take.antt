-- take as an operation of the state, as the contracts cite it. What it does: model/specs/Operations.
use Rattle.std.specs.Prelude.{ℕ}
use Rattle.model.specs.Operations.{take}
use Rattle.monitor_contract.specs.Answers.{Operation}

abbrev pub taking : (f g : ℕ) → Operation
taking f g s pick = take s f g
