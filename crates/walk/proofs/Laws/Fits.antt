-- The public answer of stage 2 where the numbers fit (document 01, sections 1 and 5): the walk's result, and how many descriptors were
-- fetched.
use Prim.Native.Nat.{ℕ, ◌*◌, ◌%◌, ◌<◌}
use mathlib.Core.Path.{◌≡◌}
use mathlib.Core.List.{List}
use borrow.Author.Tests.{lt-ltb, eq-eqb}
use lib.ListN.{length}
use Rattle.memory.specs.Ram.{frame_bytes, address_end}
use Rattle.memory.proofs.Laws.Ram.{RamFits, fits}
use Rattle.walk_descriptor.specs.Descriptor.{kinds_of_access}
use Rattle.walk.specs.Memory.{image_fits}
use Rattle.walk.specs.Both.{stage_2, root_fits, stage2_fits, as_answer_2, answer_2}

pub record Fitting (m : List ℕ) (base frames : ℕ) : Type 0 where
  pub ram : RamFits base frames
  pub long : length m ≡ frame_bytes * frames

module _ (m : List ℕ) (b n : ℕ) (x : Fitting m b n) (root ipa access : ℕ) where
  pub answer_2_is : root % frame_bytes ≡ 0 → root < address_end → access < kinds_of_access → ipa < address_end
      → answer_2 m b n root ipa access ≡ as_answer_2 (stage_2 m b root access ipa).result (length (stage_2 m b root access ipa).fetched)
  unfolding answer_2 stage2_fits image_fits root_fits
  answer_2_is ra rl al il =
      rw (
        fits b n x.ram,
        eq-eqb (length m) (frame_bytes * n) x.long,
        eq-eqb (root % frame_bytes) 0 ra,
        lt-ltb root address_end rl,
        lt-ltb access kinds_of_access al,
        lt-ltb ipa address_end il,
      )
