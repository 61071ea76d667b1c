-- What can be printed of a machine.
use Rattle.std.specs.Prelude.{◌≡◌, true}
use Rattle.script_machine.specs.declared.Machine.{Machine}
use Rattle.script_machine.specs.declared.Reply.{Reply}
use Rattle.script_machine.specs.declared.Reply.TheVariants.{Done, OutsideRam, Number, Contents, Walked, Frame, Guest, Ledger, SetupNeeded}

-- a frame, and the whole ledger, where it is ready
abbrev pub Printable : Machine → Reply → Type 0
Printable m Done = Unit {0}
Printable m OutsideRam = Unit {0}
Printable m (Number n) = Unit {0}
Printable m (Contents v) = Unit {0}
Printable m (Walked a) = Unit {0}
Printable m (Frame f) = m.ready ≡ true
Printable m (Guest g) = Unit {0}
Printable m Ledger = m.ready ≡ true
Printable m SetupNeeded = Unit {0}
