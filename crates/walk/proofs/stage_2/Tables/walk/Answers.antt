-- At each level the walk from here on, with what was fetched before, is the whole walk.
use mathlib.Core.Path.{◌∙◌, sym}
use Rattle.walk.proofs.Laws.Counts.{count_now}
use Rattle.walk.proofs.Laws.Walk.{turn_2, from_root, lower, went_down, went_out, went_wrong, was_absent}
use native.Mathlib.Omega.{arith}
use Rattle.walk.proofs.stage_2.Tables.walk.Goals as goal

pub levels-init : goal.levels-init
levels-init c = (omega arith, c.args.self.root_low, from_root _ _ _ _ _ _)

pub levels-preserved : goal.levels-preserved
levels-preserved c =
    let turn = turn_2 _ _ _ _ _ _ c.args.before c.levels.invariant c.slot-a.ensures.0 c.visit.ensures in
    let up = lower turn c.in-Down.is in
    let up0 = up.0 in
    (omega arith, up.1, went_down turn c.in-Down.is (omega arith))

pub levels-smaller : goal.levels-smaller
levels-smaller c =
    let up = (lower (turn_2 _ _ _ _ _ _ c.args.before c.levels.invariant c.slot-a.ensures.0 c.visit.ensures) c.in-Down.is).0 in
    omega arith

pub returns-in-Output : goal.returns-in-Output
returns-in-Output c =
    sym (went_out (turn_2 _ _ _ _ _ _ c.args.before c.levels.invariant c.slot-a.ensures.0 c.visit.ensures) c.in-Output.is ∙ count_now _ _ _)

pub returns-in-Fail : goal.returns-in-Fail
returns-in-Fail c = sym (went_wrong (turn_2 _ _ _ _ _ _ c.args.before c.levels.invariant c.slot-a.ensures.0 c.visit.ensures) c.in-Fail.is)

pub returns-in-Absent : goal.returns-in-Absent
returns-in-Absent c =
    sym (was_absent (turn_2 _ _ _ _ _ _ c.args.before c.levels.invariant c.slot-a.ensures.0 c.visit.ensures) c.in-Absent.is)
