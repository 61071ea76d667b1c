-- What the code makes of a descriptor, in the words of the definitions. No sentence of document 01 is decided here.
use Rattle.std.specs.Prelude.{ℕ, Bool}
use Rattle.walk_level.specs.declared.Step.{Step}
use Rattle.walk_level.specs.declared.Step.TheVariants.{Down, Output, Fail}
use Rattle.walk_level.specs.Stage.{Stage, meaning}

-- a stage that does nothing but say what it came to
abbrev pub step_rules : (rights : ℕ → Bool) → Stage Step
step_rules rights = record { allows = rights; fault = λ kind level. Fail kind; output = Output }

-- what the descriptor d of a level comes to
unfoldable pub step_of : (rights : ℕ → Bool) (ia level d : ℕ) → Step
step_of rights ia level d = meaning (step_rules rights) ia level d Down
