-- What holds between two bytes of the input.
use Rattle.std.specs.Prelude.{ℕ, ◌+◌, ◌≤◌, List, length}
use Rattle.script.specs.LineAnswered.{room_for}
use Rattle.script_machine.specs.Machine.{MachineSound}
use Rattle.pageledger.specs.declared.TheConstants.{OUT_BYTES}
use Rattle.pageledger.specs.declared.Progress.{Progress}

-- the machine can count on RAM and ledger, and the output has room for what a line prints
pub record ProgressSound (s : Progress) (ram ledger : List ℕ) : Type 0 where
  pub machine_sound : MachineSound s.machine ram ledger
  pub room : length s.output + room_for (length ram) ≤ OUT_BYTES
