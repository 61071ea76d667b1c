-- A table becomes a draining one, and a page too.
use Rattle.ledger_free.proofs.Laws.Moves.{not_drained, drain_one}
use Rattle.ledger_free.proofs.drain.Goals as goal

pub returns-in-Table : goal.returns-in-Table
returns-in-Table c = drain_one _ c.requires.ledger_sound _ c.requires.f_bound _ _ _ c.kind_for.ensures c.from-kind.ensures c.in-Table.is
    c.draining.ensures c.store_kind.ensures

pub returns-in_default : goal.returns-in_default
returns-in_default c =
    not_drained _ c.requires.ledger_sound _ c.requires.f_bound _ _ _ c.kind_for.ensures c.from-kind.ensures c.in_default.not-Table
    c.in_default.not-Page
