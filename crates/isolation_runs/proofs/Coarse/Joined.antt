-- Laws of specs/Slices.
use Rattle.isolation_runs.specs.Coarse.{Slices, Run, stop, then}

pub joined : {x y z : Slices} → Run x y → Run y z → Run x z
joined stop r = r
joined (then s q) r = then s (joined q r)
