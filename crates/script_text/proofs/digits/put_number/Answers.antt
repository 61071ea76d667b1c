-- Twenty digits, without the zeros in front.
use Rattle.std.proofs.Common.{rules, ◌∙◌}
use borrow.Author.Tests.{tests}
use Rattle.std.proofs.lemmas.Iterator.{YieldsList-from_slice}
use Rattle.std.proofs.lemmas.Iterator.Search.{position_from_yields_List}
use Rattle.script_text.specs.Digits.{most_digits, numeral_of}
use Rattle.script_text.proofs.Laws.Printing.{is_shown, zeros_passed, without_zeros_wrote, length_digits}
use mathlib.Core.Path.{ap}
use lib.ListN.{length}
use Rattle.script_text.proofs.digits.put_number.Goals as goal

pub returns : goal.returns
unfolding numeral_of
returns c =
    without_zeros_wrote _ most_digits c.last_digits-digits.result c.args.n c.unwrap_or-zeros.result c.last_digits-digits.ensures
    (zeros_passed c.last_digits-digits.result _ (ap length c.last_digits-digits.ensures ∙ length_digits _ most_digits c.args.n)
    (position_from_yields_List is_shown _ _ c.position.result c.position.ensures.ran
    (YieldsList-from_slice c.last_digits-digits.result c.iter.ensures.rest) (λ x b q k. search (rules, tests)))
    c.unwrap_or-zeros.ensures)
    c.put.ensures
