use Prim.Native.Nat.{◌*◌, ◌≤◌}
use mathlib.Core.Path.{◌≡◌}
use Rattle.model.specs.Base.{sum}
use Rattle.ledger.specs.Columns.{SHARE_UNIT}
use Rattle.ledger.specs.Layout.{shared_of, count_of}
use Rattle.ledger.proofs.frame.uses.Given as goal

abbrev pub invariant-loop-g : goal.invariant-loop-g
invariant-loop-g l = record {
  places : l.places ≡ sum l.g (count_of l.ledger l.f);
  shares : l.shares ≡ sum l.g (shared_of l.ledger l.f);
  few_places : l.places ≤ SHARE_UNIT * l.g;
  few_shares : l.shares ≤ SHARE_UNIT * l.g;
}
