-- A name's number is its place.
use Rattle.std.proofs.Common.{rules, ◌∙◌, ◌≡◌, sym, arith, map, ℕ, List, Bor}
use borrow.Author.Tests.{tests}
use Rattle.std.proofs.lemmas.Grind.{common_steps}
use Rattle.std.proofs.lemmas.Iterator.{YieldsList-from_slice}
use Rattle.std.proofs.lemmas.Iterator.Search.{position_from_yields_List}
use Rattle.script_language.proofs.Laws.Names.{is_name, named_at}
use Rattle.script_language.specs.Commands.{named_argument}
use Rattle.script_language.proofs.arguments.named_argument.Goals.{After-ok_or}
use Rattle.script_language.proofs.arguments.named_argument.Goals as goal

looked : (c : After-ok_or) → c.ok_or.result ≡ named_argument c.args.w.now (map (λ (x : Bor (List ℕ)). x.now) c.args.names.now) c.args.why
looked c =
    c.ok_or.ensures.value ∙ named_at c.args.w.now c.args.names.now c.args.why (
    position_from_yields_List (is_name c.args.w.now) _ _ c.position.result c.position.ensures.ran
    (YieldsList-from_slice c.args.names.now c.iter.ensures.rest) (λ x b q k. search (rules, tests)))

pub returns-in_err-place : goal.returns-in_err-place
returns-in_err-place c = let e = looked (goal.at.returns-in_err-place c).After-ok_or in grind (arith, common_steps, e)

pub returns : goal.returns
returns c = sym c.in_ok-place.was ∙ looked (goal.at.returns c).After-ok_or
