-- Laws of specs/LedgerOnly.
use mathlib.Core.Path.{◌≡◌, refl, ◌∙◌}
use mathlib.Core.List.{List}
use Prim.Native.Nat.{ℕ}
use Rattle.model.specs.State.{State}
use Rattle.model.specs.Operations.{done}
use Rattle.model.specs.Cache.{Caches}
use Rattle.model.specs.Invariant.{Kept}
use Rattle.model.proofs.Invariant.Answer.{Good}
use Rattle.ledger.specs.Layout.{state_of}
use Rattle.ledger.specs.LedgerSound.{Changed}
use Rattle.ledger.specs.Sound.{Sound}
use Rattle.monitor_contract.specs.Answers.{Operation, out, Done}
use Rattle.monitor_contract.proofs.Laws.Answers.{good_done}

-- the doing, by one change of the ledger
pub changed_so : (o : Operation) {m l l' : List ℕ} {φ : State → State} (after : State) → Sound m l →
    ((k : Caches) → Kept (state_of m l) k → Good k (out o m l)) →
    out o m l ≡ done after → Changed φ l l' → φ (state_of m l) ≡ after → after.size ≡ (state_of m l).size → Done o m l m l'
changed_so o {m} after ok good e c same size = good_done o after ok good e c.ledger_sound refl size (c.state m ∙ same)
