-- give as an operation of the state, as the contracts cite it. What it does: model/specs/Operations.
use Rattle.std.specs.Prelude.{ℕ}
use Rattle.model.specs.Operations.{give}
use Rattle.monitor_contract.specs.Answers.{Operation}

abbrev pub giving : (f g : ℕ) → Operation
giving f g s pick = give s f g
