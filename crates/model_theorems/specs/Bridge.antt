-- Demand 3, down to the bytes: document 01's walk of stage 2 on the bytes of RAM gives what the state says is mapped, and nothing else.
-- Any run from set-up; any bytes m from physical address b on that hold the state's words; every guest g that exists, every
-- guest-physical address a, every kind of access w.
-- `says` (in Bytes) is `reached` the same offset of the frame, `failed Permission 3`, or `failed Translation` at the level of the first
-- empty entry; `answers` is the same as the public function tells it.
use Rattle.std.specs.Prelude.{◌≡◌, true, ◌⊎◌, List, ℕ, ◌+◌, ◌*◌, ◌<◌, ◌/◌, ◌%◌, ◌^◌}
use Rattle.std.proofs.Math.Option.{some}
use Rattle.walk_descriptor.specs.declared.FaultKind.{FaultKind}
use Rattle.walk_descriptor.specs.declared.FaultKind.TheVariants.{Translation, Permission}
use Rattle.walk.specs.Both.{reached, failed, stage_2, answer_2}
use Rattle.model.specs.Translate.{translate}
use Rattle.model.specs.Cache.{Access, grants}
use Rattle.model.specs.Machine.{Machine, SetUp, Run}
use Rattle.model.specs.Bytes.{Image, access, says, answers}
use Rattle.model.proofs.Invariant.Holds.{holds}
use Rattle.model.proofs.Invariant.Numbers.{frames_fit}
use Rattle.model.proofs.Invariant.Bridge.{walk_ends, answer_says}
use Rattle.model.proofs.Invariant.Seen.{walk_reached, walk_failed}

module _ {y z : Machine} (set : SetUp y) (run : Run y z) (b : ℕ) (m : List ℕ) (image : Image z.state b m) (g a : ℕ) (w : Access)
    (there : z.state.exists g ≡ true) (low : a < 2 ^ 48) where
  pub bridge : (stage_2 m b (b + 4096 * z.state.root g) (access w) a).result ≡ says z.state b g a w
  bridge = (walk_ends z.state (holds set run).core b m image g a w there low).result

  pub bridge_answer : answer_2 m b z.state.size (b + 4096 * z.state.root g) a (access w) ≡ answers z.state b g a w
  bridge_answer = answer_says z.state (holds set run).core b m image g a w (frames_fit set run).0 (frames_fit set run).1 there low

  -- "and nothing else": an address that the walk comes to is one that the state says; and it fails with TRANSLATION or with PERMISSION
  -- at level 3, and never otherwise.
  pub only_mapped : (p : ℕ) → (stage_2 m b (b + 4096 * z.state.root g) (access w) a).result ≡ reached p →
      (f r : ℕ) × (translate z.state g (a / 4096) ≡ some (f, r)) × (grants r w ≡ true) × (p ≡ b + 4096 * f + a % 4096)
  only_mapped = walk_reached z.state (holds set run).core b m image g a w there low

  pub only_these : (kind : FaultKind) (level : ℕ) → (stage_2 m b (b + 4096 * z.state.root g) (access w) a).result ≡ failed kind level →
      (kind ≡ Translation) ⊎ ((kind ≡ Permission) × (level ≡ 3))
  only_these = walk_failed z.state (holds set run).core b m image g a w there low
