use Rattle.std.proofs.Common.{◌∙◌, rules}
use borrow.Author.Tests.{tests}
use Rattle.std.proofs.lemmas.Iterator.{YieldsList-from_slice}
use Rattle.std.proofs.lemmas.Iterator.Search.{all_from_yields_List}
use Rattle.script_text.specs.Words.{is_text_byte}
use Rattle.script_text.proofs.Laws.Scanning.{all_text}
use Rattle.script_text.proofs.words.is_text.Goals as goal

pub returns : goal.returns
returns c = all_from_yields_List is_text_byte _ _ _ c.all.ensures.ran
    (YieldsList-from_slice c.args.s.now cc) (λ x b q k. search (rules, tests))
    ∙ all_text c.args.s.now
