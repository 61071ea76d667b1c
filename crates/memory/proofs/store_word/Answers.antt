-- After i turns the first i bytes lie in their place.
use mathlib.Core.Path.{◌∙◌, ap}
use lib.ListN.{length}
use native.Mathlib.Omega.{arith}
use Rattle.std.proofs.lemmas.List.Edits.{paste_none, paste_more}
use Rattle.memory.proofs.Laws.Words.{stored_paste}
use Rattle.memory.proofs.store_word.Goals as goal

pub loop-i-init : goal.loop-i-init
loop-i-init c = paste_none c.args.m.now c.args.at c.to_le_bytes.result

pub loop-i-preserved : goal.loop-i-preserved
loop-i-preserved c = simp c.loop-i.invariant
    (paste_more c.args.m.now c.args.at c.to_le_bytes.result c.loop-i.i 0 (omega arith) (omega (arith, ap length c.to_le_bytes.ensures)))

pub returns : goal.returns
returns c = c.loop-i.invariant ∙ stored_paste c.args.m.now c.args.at c.args.v c.requires c.to_le_bytes.ensures (omega arith)
