-- A walk of both stages where access and level are read and the rest fits; else a refusal.
use mathlib.Core.Path.{◌∙◌, sym}
use Rattle.walk.proofs.Laws.Arguments.{low, unfit, unread, no_level, asked}
use Rattle.walk.proofs.both_stages.Goals as goal

pub invariant_of-stage_2 : goal.invariant_of-stage_2
invariant_of-stage_2 c = record {
  root_low = (low c.args.ram.now c.args.base c.args.frames c.args.root1 c.args.root2 c.args.va c.args.access c.args.el
      (sym c.fits_both.ensures ∙ c.if-fits_both.true)).1;
}

pub both-requires : goal.both-requires
both-requires c = (low c.args.ram.now c.args.base c.args.frames c.args.root1 c.args.root2 c.args.va c.args.access c.args.el
    (sym c.fits_both.ensures ∙ c.if-fits_both.true)).0

pub returns-in-Ok-Ok : goal.returns-in-Ok-Ok
returns-in-Ok-Ok c = c.both.ensures
    ∙ asked _ _ _ _ _ _ _ _ c.in-Ok-Ok.kind c.in-Ok-Ok.ensures c.in-Ok-Ok.from c.in-Ok-Ok.ensures'
    (sym c.fits_both.ensures ∙ c.if-fits_both.true)

pub returns-in_default : goal.returns-in_default
returns-in_default c = unfit _ _ _ _ _ _ _ _ (sym c.fits_both.ensures ∙ c.if-fits_both.false)

pub returns-in_default-2 : goal.returns-in_default-2
returns-in_default-2 c = no_level _ _ _ _ _ _ _ _ c.try_from-2.ensures c.in_default.is-1

pub returns-in_default-3 : goal.returns-in_default-3
returns-in_default-3 c = unread _ _ _ _ _ _ _ _ c.try_from.ensures c.in_default.is-0
