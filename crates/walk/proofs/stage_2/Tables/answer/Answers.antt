-- What stage 2 ended with is told.
use mathlib.Core.Path.{◌∙◌, sym, ap}
use Rattle.walk.proofs.Laws.Walk.{told, at_last}
use Rattle.walk.proofs.stage_2.Tables.answer.Goals as goal

pub returns-in-Ok : goal.returns-in-Ok
returns-in-Ok c = ap told (sym c.in-Ok.is) ∙ at_last _ _ c.walk.ensures

pub returns-in-Err : goal.returns-in-Err
returns-in-Err c = ap told (sym c.in-Err.is) ∙ at_last _ _ c.walk.ensures
