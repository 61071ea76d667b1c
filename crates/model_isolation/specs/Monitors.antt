-- Document 03, section 1: "monitor: never given to anybody".
-- Any run; any frame that is the monitor's.
use Rattle.std.specs.Prelude.{◌≡◌, ℕ}
use Rattle.model_moves.specs.Spaces.{monitor}
use Rattle.model_moves.specs.Machine.{Machine, Run}
use Rattle.model_moves.proofs.Invariant.Monitors.{monitors_stay}

pub never_given : {m z : Machine} → Run m z → (f : ℕ) → m.spaces.kind f ≡ monitor → z.spaces.kind f ≡ monitor
never_given run f e = (monitors_stay run f e).0
