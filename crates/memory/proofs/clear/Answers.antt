-- Zeros lie in their place.
use Rattle.memory.proofs.Laws.Words.{put_zeros}
use native.Mathlib.Omega.{arith}
use lib.ListN.{length-take, length-drop}
use Rattle.memory.proofs.clear.Goals as goal

pub returns : goal.returns
returns c =
    put_zeros c.args.m.now c.args.at c.args.n c.requires (simp (length-take, length-drop) (omega arith)) (c.fill.ensures.after (λ y e. e))
