use Rattle.std.proofs.Common.{◌≡◌}
use Rattle.script_text.specs.Bases.{base_number}
use Rattle.script_text.specs.Number.{numeral_of_first}
use Rattle.script_text.proofs.numbers.read_numeral.Given as goal

abbrev pub invariant-loop-c : goal.invariant-loop-c
invariant-loop-c l = l.read ≡ numeral_of_first (base_number l.base) l.s l.c-index
