-- The descriptor decides how the walk goes on.
use mathlib.Core.Path.{refl, ◌∙◌, sym}
use Rattle.walk.proofs.Laws.Walk.{after_step_1, lower, went_down, went_out, answered_last, went_wrong, was_absent}
use native.Mathlib.Omega.{arith}
use Rattle.walk.proofs.stage_1.Sought.from_descriptor.Goals as goal

pub returns-in-Down : goal.returns-in-Down
returns-in-Down c =
    let turn = after_step_1 _ _ c.args.self.stage_2.root _ _ _ _ c.args.before _ c.requires.0 c.visit.ensures in
    let up = lower turn c.in-Down.is in
    record { so = (up.0, up.1, omega arith, went_down turn c.in-Down.is refl) }

pub returns-in-Output : goal.returns-in-Output
returns-in-Output c =
    let turn = after_step_1 _ _ c.args.self.stage_2.root _ _ _ _ c.args.before _ c.requires.0 c.visit.ensures in
    record { so = sym (went_out turn c.in-Output.is ∙ answered_last _ _ ∙ sym c.answer.ensures) }

pub returns-in-Fail : goal.returns-in-Fail
returns-in-Fail c =
    record {
      so = sym (went_wrong (after_step_1 _ _ c.args.self.stage_2.root _ _ _ _ c.args.before
          _ c.requires.0 c.visit.ensures) c.in-Fail.is);
    }

pub returns-in-Absent : goal.returns-in-Absent
returns-in-Absent c =
    record {
      so = sym (was_absent (after_step_1 _ _ c.args.self.stage_2.root _ _ _ _ c.args.before
          _ c.requires.0 c.visit.ensures) c.in-Absent.is);
    }
