-- At each level the walk from here on, with what was fetched before, is the whole walk.
use mathlib.Core.Path.{◌∙◌, sym}
use Rattle.walk.proofs.Laws.Walk.{answered_from, was_answered, went_on}
use native.Mathlib.Omega.{arith}
use Rattle.walk.proofs.stage_1.Sought.walk.Goals as goal

pub levels-init : goal.levels-init
levels-init c = (omega arith, omega arith, omega arith, answered_from _ _ _ _ _ _ _)

pub returns-in-Break : goal.returns-in-Break
returns-in-Break c = was_answered c.one_level.ensures c.in-Break.is ∙ sym c.levels.invariant.3

pub levels-preserved : goal.levels-preserved
levels-preserved c =
    let next = went_on c.one_level.ensures c.in-Continue.is in
    let up = next.0 in
    let few = next.2 in
    (omega arith, next.1, omega arith, c.levels.invariant.3 ∙ next.3)
