-- RAM that fits has few frames.
use mathlib.Core.Path.{◌∙◌, sym}
use Rattle.memory.proofs.Laws.Ram.{fits_so}
use native.Mathlib.Omega.{arith}
use Rattle.walk.proofs.fits_image.Goals as goal

pub overflow_mul-result : goal.overflow_mul-result
overflow_mul-result c = omega (arith, (fits_so _ _ (sym c.ram_fits.ensures ∙ c.if-ram_fits.true)).most)
