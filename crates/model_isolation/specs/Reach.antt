-- Document 03, section 4: "a guest may reach a byte [..] if the tables or such a kept translation allow it".
-- Any run from Start; any space, access and address: what is reached is a page of the space's guest, or one that is shared with the space
-- for that access, or a frame that drains for it; and it lies in RAM.
use Rattle.std.specs.Prelude.{◌≡◌, ℕ, ◌+◌, ◌<◌, ◌/◌}
use Rattle.model.specs.Cache.{Access}
use Rattle.model_moves.specs.Machine.{Machine, Run}
use Rattle.model_moves.specs.Terms.{Start, Bounded, Reaches, Allowed}
use Rattle.model_moves.proofs.Invariant.Always.{good, reached, in_ram}

pub reach : {m z : Machine} → Start m → Bounded m → Run m z → (c : ℕ) (w : Access) (a : ℕ) → Reaches z c w a →
    (f : ℕ) × (a / 4096 ≡ z.spaces.first + f) × (f < m.spaces.size) × Allowed z.spaces c f w
reach st bound run c w a x = let b = reached (good st run) c w a x in (b.0, b.1, in_ram st bound run c b.0 w b.2, b.2)
