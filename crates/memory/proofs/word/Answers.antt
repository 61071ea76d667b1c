-- The word at the start of the part that begins there.
use mathlib.Core.Path.{◌∙◌}
use Rattle.memory.proofs.Laws.Words.{word_of_part}
use native.Mathlib.Omega.{arith}
use Rattle.memory.proofs.word.Goals as goal

pub returns : goal.returns
returns c = c.first_word.ensures ∙ word_of_part c.args.m.now c.args.at _ (omega arith)
