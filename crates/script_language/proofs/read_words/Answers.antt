-- The first word is where the text's blanks end.
use Rattle.std.proofs.Common.{◌∙◌, ap, sym, arith}
use Rattle.std.proofs.lemmas.Grind.{common_steps}
use Rattle.script_language.specs.Commands.{asked}
use Rattle.script_language.proofs.Laws.Parsing.{first_there}
use Rattle.script_language.proofs.read_words.Goals as goal

pub returns-in_err-command : goal.returns-in_err-command
returns-in_err-command c =
    let e = sym (ap asked c.in_err-command.was)
    ∙ first_there c.args.s.now c.word_start-from.ensures.0 c.if-from-s.false c.word_start-from.ensures.1
    c.word_end-to.ensures c.read_command.ensures in
    grind (arith, common_steps, e)

pub returns : goal.returns
returns c = sym (ap asked c.in_ok-command.was)
    ∙ first_there c.args.s.now c.word_start-from.ensures.0 c.if-from-s.false c.word_start-from.ensures.1
    c.word_end-to.ensures c.read_command.ensures
