-- A word inside of RAM is at its place of the slice.
use Rattle.script_machine.proofs.Laws.Effects.{placed, written}
use Rattle.script_machine.proofs.Machine.store_word.Goals as goal

pub returns : goal.returns
returns c =
    let p = placed c.args.self c.args.a c.in-Some.at c.in-Some.ensures.place in
    rw (c.store_word.ensures, p.1) (written _ _ _ c.requires _ p.0 _ _ c.stays_ready-ready.ensures)
