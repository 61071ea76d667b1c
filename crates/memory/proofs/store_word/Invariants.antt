use Rattle.std.proofs.Common.{◌≡◌}
use lib.Seq.{paste}
use Rattle.memory.proofs.store_word.Given as goal

abbrev pub invariant-loop-i : goal.invariant-loop-i
invariant-loop-i l = l.m ≡ paste l.initial.m l.at l.byte-items l.i
