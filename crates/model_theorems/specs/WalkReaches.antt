-- Demand 3: isolation is about what the hardware reads. What document 01's walk finds in the bytes of RAM, by stage 2 alone or by both
-- stages, counts as reached: so every theorem about reach holds of it.
-- Any run from set-up; any bytes m from physical address b on that hold the state's words; every guest g that exists, every kind of
-- access w.
-- Both stages: any stage-1 root, any virtual address and level, whatever the guest wrote into its tables.
use Rattle.std.specs.Prelude.{◌≡◌, true, List, ℕ, ◌+◌, ◌*◌, ◌<◌, ◌^◌}
use Rattle.walk.specs.Both.{reached, found, stage_2, both}
use Rattle.walk.proofs.Laws.Found.{both_found}
use Rattle.model.specs.Cache.{Access}
use Rattle.model.specs.Machine.{Machine, SetUp, Run, Reaches}
use Rattle.model.specs.Bytes.{Image, access}
use Rattle.model.proofs.Invariant.Holds.{holds}
use Rattle.model.proofs.Invariant.Seen.{walk_reaches}

module _ {y z : Machine} (set : SetUp y) (run : Run y z) (b : ℕ) (m : List ℕ) (image : Image z.state b m) (g : ℕ) (w : Access)
    (there : z.state.exists g ≡ true) where
  pub by_stage_2 : (a : ℕ) → a < 2 ^ 48 → (p : ℕ) → (stage_2 m b (b + 4096 * z.state.root g) (access w) a).result ≡ reached p →
      Reaches z g w p
  by_stage_2 a l = walk_reaches z.state (holds set run).core b m image g a w there l z.caches

  pub by_both : (root1 va el p : ℕ) → (both m b root1 (b + 4096 * z.state.root g) va (access w) el).result ≡ found p → Reaches z g w p
  by_both root1 va el p e =
      let x = both_found m b (b + 4096 * z.state.root g) (access w) el va p root1 e in
      by_stage_2 x.0 x.1 p x.2
