use Prim.Native.Nat.{◌/◌}
use Rattle.monitor_map.proofs.Laws.Map.{Filling}
use Rattle.monitor_map.proofs.do_map.Given as goal

abbrev pub invariant-loop-height : goal.invariant-loop-height
invariant-loop-height l = Filling l.initial.ram l.initial.ledger l.f l.g (l.a / 4096) l.ram l.ledger l.height l.table
