-- Demand 3: "none is written beyond what was shared"; nor read, nor executed.
-- Any run from Start; any page of a guest, and any space that reaches it for some access: the guest's own, or one with which the page is
-- shared for that.
use Rattle.std.specs.Prelude.{◌≡◌, ℕ, ◌+◌, ◌/◌}
use Rattle.model.specs.Cache.{Access}
use Rattle.model_moves.specs.Spaces.{page}
use Rattle.model_moves.specs.Machine.{Machine, Run}
use Rattle.model_moves.specs.Terms.{Start, Reaches}
use Rattle.model_moves.proofs.Invariant.Allowed.{page_allowed, reach_allowed}
use Rattle.model_moves.proofs.Invariant.Always.{good}
use Rattle.model_isolation.specs.TwoGuests.{Uses}

pub beyond_shared : {m z : Machine} → Start m → Run m z → (o c f : ℕ) (w : Access) (a : ℕ) → z.spaces.kind f ≡ page o →
    a / 4096 ≡ z.spaces.first + f → Reaches z c w a → Uses z.spaces o c f w
beyond_shared {m} {z} st run o c f w a k i x = page_allowed z.spaces o c f w k (reach_allowed (good st run) c w a f i x)
