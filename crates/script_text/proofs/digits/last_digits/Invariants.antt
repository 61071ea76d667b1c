use Rattle.std.proofs.Common.{◌≡◌, ◌++◌, length, drop}
use Rattle.script_text.specs.Digits.{digits as digits_of}
use Rattle.script_text.proofs.digits.last_digits.Given as goal

abbrev pub invariant-loop-i : goal.invariant-loop-i
invariant-loop-i g l = record {
  whole : length l.digits ≡ g.row.N;
  spelled : digits_of l.base g.row.N l.fn.n ≡ digits_of l.base l.i l.left ++ drop l.i l.digits;
}
