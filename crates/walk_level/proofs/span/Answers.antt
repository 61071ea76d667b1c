-- The shift is at most 39, so nothing is lost.
use Prim.Native.Nat.{◌-◌, ◌*◌}
use lib.Pow.{pow_pos, pow_mono}
use native.Mathlib.Omega.{arith}
use Rattle.walk_level.proofs.span.Goals as goal

pub returns : goal.returns
returns c = omega (arith, pow_pos (39 - 9 * c.args.level), pow_mono {i = 39 - 9 * c.args.level} {j = 39} (omega arith))
