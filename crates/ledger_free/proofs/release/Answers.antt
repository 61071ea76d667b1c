-- What drains for the guest is put back.
use Rattle.ledger_free.proofs.Laws.Moves.{not_free, not_released, release_one}
use Rattle.ledger_free.proofs.release.Goals as goal

pub put_back-requires-clause-f_value : goal.put_back-requires-clause-f_value
put_back-requires-clause-f_value c =
    not_free _ c.requires.ledger_sound _ c.requires.f_bound _ _ _ c.kind_for.ensures c.from-kind.ensures c.in-DrainingTable.is

pub returns-in-DrainingTable : goal.returns-in-DrainingTable
returns-in-DrainingTable c =
    release_one _ c.requires.ledger_sound _ c.requires.f_bound _ _ _ c.kind_for.ensures c.from-kind.ensures c.in-DrainingTable.is
    c.put_back.ensures

pub returns-in_default : goal.returns-in_default
returns-in_default c = not_released _ c.requires.ledger_sound _ c.requires.f_bound _ _ _ c.kind_for.ensures c.from-kind.ensures
    c.in_default.not-DrainingTable c.in_default.not-DrainingPage
