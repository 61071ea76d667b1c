-- The page drains where its owner is dirty, and is free otherwise.
use mathlib.Core.Path.{◌∙◌, sym}
use Rattle.monitor_give_take.proofs.Laws.Take.{take_drains, take_frees}
use Rattle.monitor_give_take.proofs.do_take.Goals as goal

pub returns-then-dirty : goal.returns-then-dirty
returns-then-dirty c = take_drains c.requires.sound c.args.f c.args.g c.requires.g_value _ (sym c.dirty.ensures ∙ c.if-dirty.true)
    c.drain.ensures

pub returns-else-dirty : goal.returns-else-dirty
returns-else-dirty c = take_frees c.requires.sound c.args.f c.args.g c.requires.g_value _ (sym c.dirty.ensures ∙ c.if-dirty.false)
    c.put_back.ensures
