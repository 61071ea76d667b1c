-- What a line does: the whole script language in one relation.
use Rattle.std.specs.Prelude.{ℕ, ◌+◌, ◌/◌, ◌≤◌, ◌≡◌, List, [], take, Option, Some, None, Result, Ok, Err}
use Rattle.script_language.specs.declared.Command.{Command}
use Rattle.script_language.specs.declared.Reason.{Reason}
use Rattle.script_machine.specs.declared.Machine.{Machine}
use Rattle.script_machine.specs.declared.Reply.{Reply}
use Rattle.script_machine.specs.Machine.{MachineSound, Executed, outcome, ram_of, ledger_of}
use Rattle.ledger.specs.Layout.{state_of}
use Rattle.script.specs.declared.Answered.{Answered}
use Rattle.script.specs.Printed.{reply_bytes, printed_bytes, reply_text, mistake_text}

-- The bytes that any line prints, where so many are lent as RAM: a line of `ledger` has fewer than 4096 / 16.
abbrev pub room_for : (ram : ℕ) → ℕ
room_for ram = ram / 16 + reply_bytes

-- an output of so many bytes has room for it
abbrev pub Room : (ram out : ℕ) → Type 0
Room ram out = room_for ram ≤ out

-- what a line was read as: a command, none where it has no words, or why it can't be read
abbrev pub LineRead : Type 0
LineRead = Result (Option Command) Reason

-- the machine and the slices after a line, and what it prints: an empty one, and one that can't be read, change nothing
abbrev pub LineEffect : LineRead → Machine → (ram ledger ram' ledger' : List ℕ) → Machine → (text : List ℕ) → Type 0
LineEffect (Ok None) m ram l ram' l' m' text = (m' ≡ m) × (ram' ≡ ram) × (l' ≡ l) × (text ≡ [])
LineEffect (Ok (Some c)) m ram l ram' l' m' text =
    (x : Reply) × Executed c m ram l ram' l' (outcome m' x)
    × (text ≡ reply_text (state_of (ram_of m' ram') (ledger_of m' l')) x)
LineEffect (Err why) m ram l ram' l' m' text = (m' ≡ m) × (ram' ≡ ram) × (l' ≡ l) × (text ≡ mistake_text why)

-- the line x was answered: `out` begins with what it prints
pub record LineAnswered (x : LineRead) (m : Machine) (ram ledger ram' ledger' out : List ℕ) (r : Answered) : Type 0 where
  pub effect : LineEffect x m ram ledger ram' ledger' r.machine (take r.printed out)
  pub machine_sound : MachineSound r.machine ram' ledger'
  pub short : r.printed ≤ printed_bytes r.machine
