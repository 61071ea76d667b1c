-- The other way round: reach is not empty. What the tables map, the guest reaches, for each access that the rights grant.
-- Any run from set-up; page v of g, which translates to frame f with rights r; any byte o of it.
use Rattle.std.specs.Prelude.{◌≡◌, true, ℕ, ◌+◌, ◌*◌, ◌<◌}
use Rattle.std.proofs.Math.Option.{some}
use Rattle.model.specs.State.{page_count}
use Rattle.model.specs.Translate.{translate}
use Rattle.model.specs.Cache.{Access, grants}
use Rattle.model.specs.Machine.{Machine, SetUp, Run, Reaches}
use Rattle.model.proofs.Invariant.Holds.{holds}
use Rattle.model.proofs.Invariant.Reaching.{reaches_mapped}

pub reaches : {m z : Machine} → SetUp m → Run m z → (g v f r : ℕ) (w : Access) (o : ℕ) → v < page_count →
    translate z.state g v ≡ some (f, r) → grants r w ≡ true → o < 4096 →
    Reaches z g w ((z.state.first + f) * 4096 + o)
reaches {z} x r g v f r' w o = reaches_mapped z (holds x r).core g v f r' w o
