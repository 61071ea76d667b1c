-- Document 03, section 3: "map needs up to three free frames for new tables; if there are fewer than it needs, refusal 3." Needing is a
-- number, and not what somebody offers.
-- For any state and arguments: never more than three; 3 is answered only where fewer are free than needed; and (any run from set-up, any
-- choice) what was needed is what was taken.
use Rattle.std.specs.Prelude.{◌≡◌, ℕ, ◌+◌, ◌≤◌, ◌<◌, ◌/◌}
use Rattle.model.specs.State.{State, free_frames}
use Rattle.model.specs.Translate.{missing}
use Rattle.model.specs.Changes.{Choice}
use Rattle.model.specs.Operations.{refuse, done, map}
use Rattle.model.specs.Machine.{Machine, SetUp, Run}
use Rattle.model.proofs.Invariant.Answer.{then_is}
use Rattle.model.proofs.Invariant.Frames.{missing_low, map_takes, only_short}
use Rattle.model.proofs.Invariant.Holds.{holds}

pub up_to_three : (s : State) (g v : ℕ) → missing s g v ≤ 3
up_to_three s g v = missing_low s 3 (s.root g) v

pub too_few : (s : State) (f g a r : ℕ) (pick : ℕ → ℕ) → map s f g a r pick ≡ refuse 3 → free_frames s < missing s g (a / 4096)
too_few = only_short

pub taken : {m z : Machine} → SetUp m → Run m z → (f g a r : ℕ) (pick : ℕ → ℕ) → Choice z.state pick → (s' : State) →
    map z.state f g a r pick ≡ done s' →
    free_frames s' + missing z.state g (a / 4096) ≡ free_frames z.state
taken {z} x r f g a r' pick ch s' e = then_is (map z.state f g a r' pick) s' (map_takes z.state (holds x r).core f g a r' pick ch) e
