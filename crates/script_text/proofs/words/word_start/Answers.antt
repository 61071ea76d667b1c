use Rattle.std.proofs.Common.{rules, drop, ◌∙◌}
use borrow.Author.Tests.{tests}
use mathlib.Core.Bool.{not}
use Rattle.std.proofs.lemmas.Iterator.{YieldsList-from_slice}
use Rattle.std.proofs.lemmas.Iterator.Search.{position_from_yields_List}
use Rattle.script_text.specs.Words.{is_blank}
use Rattle.script_text.proofs.Laws.Scanning.{rest, word_starts}
use Rattle.script_text.proofs.words.word_start.Goals as goal

pub returns : goal.returns
returns c = word_starts c.args.s.now c.args.from c.requires c.unwrap_or.ensures (
    position_from_yields_List (λ b. not (is_blank b)) _ _ c.position.result c.position.ensures.ran
    (YieldsList-from_slice (drop c.args.from c.args.s.now) (c.iter.ensures.rest ∙ rest c.args.from c.args.s.now))
    (λ x b q k. search (rules, tests)))
