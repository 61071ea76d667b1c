-- The four tests of specs/Ram, one by one.
use Prim.Native.Nat.{ℕ, ◌+◌, ◌*◌, ◌≤◌, ◌%◌}
use mathlib.Core.Path.{◌≡◌, refl}
use mathlib.Core.Bool.{Bool, true, false, ◌&&◌, false≢true}
use lib.Dec.{eqb, leb}
use borrow.Author.Tests.{leb-true, eqb-true, le-leb, eq-eqb}
use Rattle.memory.specs.Ram.{frame_bytes, fewest_frames, most_frames, address_end, ram_fits}

pub record RamFits (base frames : ℕ) : Type 0 where
  pub least : fewest_frames ≤ frames
  pub most : frames ≤ most_frames
  pub aligned : base % frame_bytes ≡ 0
  pub low : base + frame_bytes * frames ≤ address_end

both_true : (x y : Bool) → (x && y) ≡ true → (x ≡ true) × (y ≡ true)
both_true true y e = (refl, e)
both_true false y e = absurd (false≢true e)

module _ (base frames : ℕ) where
  pub fits_so : ram_fits base frames ≡ true → RamFits base frames
  unfolding ram_fits
  fits_so e =
      let even = eqb (base % frame_bytes) 0 in
      let under = leb (base + frame_bytes * frames) address_end in
      let first = both_true (leb fewest_frames frames) (leb frames most_frames && (even && under)) e in
      let second = both_true (leb frames most_frames) (even && under) first.1 in
      let third = both_true even under second.1 in
      record {
        least = leb-true _ _ first.0;
        most = leb-true _ _ second.0;
        aligned = eqb-true _ _ third.0;
        low = leb-true _ _ third.1;
      }

  pub fits : RamFits base frames → ram_fits base frames ≡ true
  unfolding ram_fits
  fits x =
      simp (
        le-leb fewest_frames frames x.least,
        le-leb frames most_frames x.most,
        eq-eqb (base % frame_bytes) 0 x.aligned,
        le-leb (base + frame_bytes * frames) address_end x.low,
      )
