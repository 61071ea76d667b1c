-- What an operation that was done has found, where only the paths of moves need it (crate model_paths).
-- map, 14: nothing of the guest's tables was taken out since its last completed invalidation. So no page is entered where another is
-- still kept: one translation (crate isolation).
use mathlib.Core.Path.{◌≡◌}
use mathlib.Core.Bool.{false}
use Prim.Native.Nat.{ℕ}
use Rattle.model.specs.State.{State}
use Rattle.model.specs.Operations.{map}
use Rattle.model.proofs.Laws.Base.{not_true}
use Rattle.model.proofs.Invariant.Answer.{Then, then_done, checked}

pub map_clean : (s : State) (f g a r : ℕ) (pick : ℕ → ℕ) → Then (λ s'. s.dirty g ≡ false) (map s f g a r pick)
unfolding map
map_clean s f g a r pick =
    checked 5 λ e1. checked 14 λ e2. checked 7 λ e3. checked 8 λ e4. checked 4 λ e5. checked 9 λ e6. checked 10 λ e7. checked 3 λ e8.
    then_done (not_true (s.dirty g) e2)
