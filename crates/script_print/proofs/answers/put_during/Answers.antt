-- Part after part.
use Rattle.script_print.specs.Answer.{during_text}
use Rattle.script_text.proofs.Laws.Printing.{wrote_then}
use Rattle.script_print.proofs.answers.put_during.Goals as goal

pub returns : goal.returns
unfolding during_text
returns c = wrote_then c.put_fault-next.ensures c.put_field.ensures
