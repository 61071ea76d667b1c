-- The numbers of rights, and what a number that is read comes to.
use Rattle.std.specs.Prelude.{◌≡◌, true, false, ℕ, Result, Ok, Err}
use Rattle.model.specs.Operations.{is_rights}
use Rattle.monitor_tables.specs.declared.entries.Rights.{Rights}
use Rattle.monitor_tables.specs.declared.entries.Rights.TheVariants.{Read, ReadWrite, ReadExecute, ReadWriteExecute}
use Rattle.monitor_tables.specs.declared.entries.NoRights.{NoRights}

-- "1, 3, 5 or 7 (1 read, 2 write, 4 execute, added up)"
abbrev pub rights_number : Rights → ℕ
rights_number Read = 1
rights_number ReadWrite = 3
rights_number ReadExecute = 5
rights_number ReadWriteExecute = 7

-- Ok exactly for the numbers that the model takes for rights, and then the number is the same.
abbrev pub ReadsRights : ℕ → Result Rights NoRights → Type 0
ReadsRights number (Ok rights) = (is_rights number ≡ true) × (rights_number rights ≡ number)
ReadsRights number (Err _) = is_rights number ≡ false
