-- What every operation of the monitor promises: the answer is the definition's, and so is the state of the two slices after it.
-- On a refusal both slices are, as lists, what they were. What the operations count on, Sound, holds again.
use Rattle.std.specs.Prelude.{◌≡◌, List, ℕ}
use Rattle.model.specs.State.{State}
use Rattle.model.specs.Operations.{Out, refuse, done}
use Rattle.ledger.specs.Layout.{state_of, pick_of}
use Rattle.ledger.specs.Sound.{Sound}

abbrev pub Outcome : Out → (ram ledger : List ℕ) → ℕ → (ram' ledger' : List ℕ) → Type 0
Outcome (refuse k) m l r m' l' = (r ≡ k) × (m' ≡ m) × (l' ≡ l)
Outcome (done s) m l r m' l' = (r ≡ 0) × (state_of m' l' ≡ s)

-- an operation of the state and of the order in which free frames are taken
abbrev pub Operation : Type 0
Operation = State → (pick : ℕ → ℕ) → Out

abbrev pub out : Operation → (ram ledger : List ℕ) → Out
out o m l = o (state_of m l) (pick_of l)

pub record Answers (o : Operation) (ram ledger : List ℕ) (r : ℕ) (ram' ledger' : List ℕ) : Type 0 where
  pub sound : Sound ram' ledger'
  pub outcome : Outcome (out o ram ledger) ram ledger r ram' ledger'

-- what the doing of an operation has made
pub record Done (o : Operation) (ram ledger ram' ledger' : List ℕ) : Type 0 where
  pub sound : Sound ram' ledger'
  pub made : out o ram ledger ≡ done (state_of ram' ledger')
