use Rattle.script_language.proofs.Laws.Parsing.{Reading}
use Rattle.script_language.proofs.arguments.read_arguments.Given as goal

abbrev pub invariant-loop-i : goal.invariant-loop-i
invariant-loop-i l = Reading l.forms l.s l.arguments l.at l.i
