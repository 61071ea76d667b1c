-- After i arguments those of the definition are the first i of the array, and then those of the words from `at` on.
use Rattle.std.proofs.Common.{arith}
use Rattle.std.proofs.lemmas.Grind.{common_steps}
use Rattle.script_language.proofs.Laws.Parsing.{reading_more, wrong_word}
use Rattle.script_language.proofs.arguments.read_arguments.Goals as goal

pub returns-in_err-arguments : goal.returns-in_err-arguments
returns-in_err-arguments c =
    let e = wrong_word c.args.name c.loop-i.invariant c.loop-i-test.true c.word_start-from.ensures.0 c.if-from-s.false
    c.word_start-from.ensures.1 c.word_end-at.ensures c.read_argument.ensures c.in_err-arguments.was in
    grind (arith, common_steps, e)

pub loop-i-preserved : goal.loop-i-preserved
loop-i-preserved c =
    reading_more c.loop-i.invariant c.loop-i-test.true (omega (arith, c.loop-i-test.true, c.forms-forms.ensures.few))
    c.word_start-from.ensures.0 c.if-from-s.false
    c.word_start-from.ensures.1 c.word_end-at.ensures c.read_argument.ensures c.in_ok-arguments.was
