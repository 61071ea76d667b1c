-- The machine's parts are lent, and come back to their places.
use mathlib.Core.Path.{refl}
use Rattle.script_machine.proofs.Laws.Effects.{operated}
use Rattle.script_machine.proofs.Machine.operate.Goals as goal

pub returns-then-self : goal.returns-then-self
returns-then-self c =
    let x = rw (c.ram_bytes-n.ensures, c.ledger_words-w.ensures) at c.perform-answer.ensures in
    let a = rw c.ram_bytes-n.ensures at c.perform-answer.auto.ram in
    let b = rw c.ledger_words-w.ensures at c.perform-answer.auto.ledger in
    rw (c.ram_bytes-n.ensures, c.ledger_words-w.ensures, c.number.ensures)
    (operated _ _ _ _ c.requires c.if-self.true _ _ _ _ _ x a b refl refl)
