-- Demand 3: "no guest reaches a table"; nor a frame that is claimed for one or was one, nor a free frame, nor the monitor's.
-- Any run from Start; any frame of such a use; any space, access and byte of it.
use Rattle.std.specs.Prelude.{◌≡◌, ℕ, ◌+◌, ◌/◌}
use Rattle.model.specs.Cache.{Access}
use Rattle.model_moves.specs.Machine.{Machine, Run}
use Rattle.model_moves.specs.Terms.{Start, Reaches, Hidden}
use Rattle.model_moves.proofs.Invariant.Always.{good, unreached}

pub hidden : {m z : Machine} → Start m → Run m z → (f : ℕ) → Hidden (z.spaces.kind f) →
    (c : ℕ) (w : Access) (a : ℕ) → a / 4096 ≡ z.spaces.first + f → Reaches z c w a → ⊥
hidden st run = unreached (good st run)
