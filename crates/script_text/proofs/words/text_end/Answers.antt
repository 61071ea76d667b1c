use Rattle.std.proofs.Common.{rules, ◌∙◌}
use borrow.Author.Tests.{tests}
use Rattle.std.proofs.lemmas.Bool.Decides.{Decides-eqb}
use Rattle.std.proofs.lemmas.Iterator.{YieldsList-from_slice}
use Rattle.std.proofs.lemmas.Iterator.Search.{position_from_yields_List}
use Rattle.std.proofs.lemmas.Slice.Eq.{strip_suffix_is}
use Rattle.script_text.proofs.Laws.Scanning.{text_ends, place_or_end, is_comment, line_end}
use Rattle.script_text.proofs.words.text_end.Goals as goal

pub returns : goal.returns
returns c =
    text_ends c.args.line c.unwrap_or-line.result c.strip_suffix.result
    (strip_suffix_is Decides-eqb c.args.line.now line_end c.strip_suffix.result c.strip_suffix.ensures.cases)
    c.unwrap_or-line.ensures
    (c.unwrap_or.ensures ∙ place_or_end is_comment c.unwrap_or-line.result.now (
    position_from_yields_List is_comment _ _ c.position.result c.position.ensures.ran
    (YieldsList-from_slice c.unwrap_or-line.result.now c.iter.ensures.rest) (λ x b q k. search (rules, tests))))
