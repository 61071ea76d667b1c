-- Demand 2: `map` followed by document 01's walk on the bytes finds exactly that frame with exactly those rights; after `unmap` the walk
-- says TRANSLATION, at level 3, since the tables stay.
-- Any run from set-up, then map or unmap with any arguments that is answered 0; any bytes m from physical address b on that hold the
-- words of the state after; every offset k in the page, every kind of access w.
use Rattle.std.specs.Prelude.{◌≡◌, cond, List, ℕ, ◌+◌, ◌*◌, ◌<◌}
use Rattle.walk_descriptor.specs.declared.FaultKind.TheVariants.{Translation, Permission}
use Rattle.walk.specs.Both.{reached, failed, stage_2}
use Rattle.model.specs.State.{State}
use Rattle.model.specs.Changes.{Choice}
use Rattle.model.specs.Operations.{done, map, unmap}
use Rattle.model.specs.Cache.{Access, grants}
use Rattle.model.specs.Machine.{Machine, SetUp, Run}
use Rattle.model.specs.Bytes.{Image, access}
use Rattle.model.proofs.Invariant.Holds.{holds}
use Rattle.model.proofs.Invariant.RoundTrip.{after_map, after_unmap, walk_asked}

pub map_walk : {y z : Machine} → SetUp y → Run y z → (f g a r : ℕ) (pick : ℕ → ℕ) → Choice z.state pick → (s' : State) →
    map z.state f g a r pick ≡ done s' →
    (b : ℕ) (m : List ℕ) → Image s' b m → (k : ℕ) → k < 4096 → (w : Access) →
    (stage_2 m b (b + 4096 * s'.root g) (access w) (a + k)).result ≡ cond (grants r w) (reached (b + 4096 * f + k)) (failed Permission 3)
map_walk {z} y run f g a r pick ch s' e b m x k l w = walk_asked x (after_map z.state (holds y run).core f g a r pick ch s' e) k l w

pub unmap_walk : {y z : Machine} → SetUp y → Run y z → (g a : ℕ) (s' : State) → unmap z.state a g ≡ done s' →
    (b : ℕ) (m : List ℕ) → Image s' b m → (k : ℕ) → k < 4096 → (w : Access) →
    (stage_2 m b (b + 4096 * s'.root g) (access w) (a + k)).result ≡ failed Translation 3
unmap_walk {z} y run g a s' e b m x k l w = walk_asked x (after_unmap z.state (holds y run).core g a s' e) k l w
