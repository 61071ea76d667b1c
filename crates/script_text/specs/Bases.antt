-- The bases in which numbers are read and put.
use Rattle.std.specs.Prelude.{ℕ}
use Rattle.script_text.specs.declared.Base.{Base}
use Rattle.script_text.specs.declared.Base.TheVariants.{Decimal, Hexadecimal}

abbrev pub base_number : Base → ℕ
base_number Decimal = 10
base_number Hexadecimal = 16
