-- The table of the code is the definition's.
use Rattle.std.proofs.Common.{rules, refl, Bor, ◌≡◌}
use borrow.Author.Tests.{tests}
use Rattle.std.specs.List.{find}
use Rattle.std.specs.Option.{option_map}
use Rattle.std.proofs.lemmas.Iterator.{YieldsList-from_slice}
use Rattle.std.proofs.lemmas.Iterator.Search.{find_from_yields_List}
use Rattle.script_language.proofs.Laws.Names.{Row, IsTable, is_word, no_row, row_names}
use Rattle.script_language.proofs.names.first_word.Goals.{After-find}
use Rattle.script_language.proofs.names.first_word.Goals as goal

looked : (c : After-find) → option_map (λ (x : Bor Row). x.now) c.find.result ≡ find (is_word c.args.w.now) c.iter.result.rest.now
looked c =
    find_from_yields_List (is_word c.args.w.now) _ _ c.find.result c.find.ensures.ran
    (YieldsList-from_slice c.iter.result.rest.now refl) (λ x b q k. search (rules, tests))

table : (c : After-find) → IsTable c.iter.result.rest.now
table c = rw c.iter.ensures.rest refl

pub returns-in_err-name : goal.returns-in_err-name
returns-in_err-name c =
    let s = (goal.at.returns-in_err-name c).After-find in
    rw c.from_residual.ensures (no_row _ _ (table s) _ (looked s) c.in_err-name.was)

pub returns : goal.returns
returns c = let s = (goal.at.returns c).After-find in row_names _ _ (table s) _ (looked s) c.in_ok-name.was
