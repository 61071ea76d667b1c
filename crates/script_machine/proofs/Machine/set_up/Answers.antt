-- What is allowed is in the slices, and the monitor's set_up takes it.
use mathlib.Core.Path.{◌≡◌, ◌∙◌, refl, sym}
use mathlib.Core.Bool.{true}
use native.Mathlib.Omega.{arith}
use Rattle.script_machine.proofs.Laws.Effects.{begun}
use Rattle.script_machine.proofs.Machine.set_up.Goals as goal

pub returns : goal.returns
returns c =
    let z = rw c.ram_bytes-n.ensures at c.clear.ensures in
    let x = rw (c.ram_bytes-n.ensures, c.ledger_words-w.ensures) at c.set_up-answer.ensures in
    let a = rw c.ledger_words-w.ensures at c.set_up-answer.auto.ledger in
    let e : c.is_allowed.result ≡ true = grind arith in
    rw (c.ledger_words-w.ensures, c.number.ensures) (begun _ _ _ _ _ _ (sym c.is_allowed.ensures.allowed ∙ e) _ _ _ _ z x a refl)
