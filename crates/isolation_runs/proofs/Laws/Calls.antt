-- Laws of specs/Calls.
use mathlib.Core.Path.{◌≡◌, refl}
use Prim.Native.Nat.{ℕ}
use Rattle.model.specs.State.{State}
use Rattle.model.specs.Changes.{Choice}
use Rattle.model.specs.Machine as M
use Rattle.isolation_runs.specs.Calls.{Call, Create, Give, Take, Map, Unmap, Share, Unshare, Destroy, Invalidated, defined, in_model}

pub defined_is : (c : Call) (s : State) (pick : ℕ → ℕ) → defined c s pick ≡ M.answer s (in_model c pick)
unfolding M.answer
defined_is (Create g) s pick = refl
defined_is (Give f g) s pick = refl
defined_is (Take f g) s pick = refl
defined_is (Map f g a r) s pick = refl
defined_is (Unmap a g) s pick = refl
defined_is (Share g f h w) s pick = refl
defined_is (Unshare g f h) s pick = refl
defined_is (Destroy g) s pick = refl
defined_is (Invalidated g) s pick = refl

-- a lawful choice is all that the model asks of an operation
pub chooses : (c : Call) (s : State) (pick : ℕ → ℕ) → Choice s pick → M.Chooses s (in_model c pick)
chooses (Create g) s pick h = h
chooses (Give f g) s pick h = tt
chooses (Take f g) s pick h = tt
chooses (Map f g a r) s pick h = h
chooses (Unmap a g) s pick h = tt
chooses (Share g f h w) s pick x = tt
chooses (Unshare g f h) s pick x = tt
chooses (Destroy g) s pick h = tt
chooses (Invalidated g) s pick h = tt
