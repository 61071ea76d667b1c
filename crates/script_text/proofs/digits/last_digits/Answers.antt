-- The digits from i on are there, and those before it are what is left of n.
use Rattle.std.proofs.Common.{arith}
use lib.ListN.{length-set}
use Rattle.script_text.proofs.Laws.Printing.{spell_more, spell_all}
use Rattle.script_text.proofs.digits.last_digits.Goals as goal

pub loop-i-preserved : goal.loop-i-preserved
loop-i-preserved g c = record {
  whole = simp length-set c.loop-i.invariant.whole;
  spelled = rw c.digit_character.ensures (
      spell_more _ _ _ _ c.loop-i-test.true (omega (arith, c.loop-i.invariant.whole)) c.loop-i.invariant.spelled);
}

pub returns : goal.returns
returns g c = rw (← c.from-base.ensures.0) (spell_all _ _ _ _ c.loop-i-test.false c.loop-i.invariant.spelled)
