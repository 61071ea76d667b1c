-- A walk of stage 2 where the access is read and the rest fits; else a refusal.
use mathlib.Core.Path.{◌∙◌, sym}
use Rattle.walk.proofs.Laws.Arguments.{low_2, unfit_2, unread_2, asked_2}
use Rattle.walk.proofs.stage2.Goals as goal

pub invariant_of-answer : goal.invariant_of-answer
invariant_of-answer c = record {
  root_low = low_2 c.args.ram.now c.args.base c.args.frames c.args.root c.args.ipa c.args.access
      (sym c.fits_stage2.ensures ∙ c.if-fits_stage2.true);
}

pub returns-in-Ok : goal.returns-in-Ok
returns-in-Ok c = c.answer.ensures
    ∙ asked_2 _ _ _ _ _ _ c.in-Ok.kind c.in-Ok.ensures (sym c.fits_stage2.ensures ∙ c.if-fits_stage2.true)

pub returns-in_default : goal.returns-in_default
returns-in_default c = unfit_2 _ _ _ _ _ _ (sym c.fits_stage2.ensures ∙ c.if-fits_stage2.false)

pub returns-in_default-2 : goal.returns-in_default-2
returns-in_default-2 c = unread_2 _ _ _ _ _ _ c.try_from.ensures c.in_default.is
