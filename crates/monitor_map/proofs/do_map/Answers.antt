-- The missing tables are made, from the highest on; then the entry is written and the place counted.
use Rattle.monitor_tables.proofs.Laws.NewTable.{grow_words, grow_room}
use Rattle.monitor_map.proofs.Laws.Map.{fill_start, fill_low, fill_count, map_end}
use native.Mathlib.Omega.{arith}
use Rattle.monitor_map.proofs.do_map.Goals as goal

pub loop-height-init : goal.loop-height-init
loop-height-init c = fill_start c.requires.sound c.requires.ready

pub of_page-x-requires : goal.of_page-x-requires
of_page-x-requires c = grow_room c.loop-height.invariant.growing c.first-first.result c.args.f c.first-first.ensures
    (fill_low c.requires.sound c.requires.ready c.loop-height.invariant)

pub store_entry-requires : goal.store_entry-requires
store_entry-requires c = let k = grow_words c.loop-height.invariant.growing in (omega arith, k.0, k.1)

pub count-places-requires-clause-f_bound : goal.count-places-requires-clause-f_bound
count-places-requires-clause-f_bound c = fill_low c.requires.sound c.requires.ready c.loop-height.invariant

pub overflow_add-places : goal.overflow_add-places
overflow_add-places c = omega (
  arith,
  (fill_count c.requires.sound c.requires.ready c.loop-height.invariant c.count-places.result
      c.count-places.ensures),
)

pub set_count-requires-clause-f_bound : goal.set_count-requires-clause-f_bound
set_count-requires-clause-f_bound c = fill_low c.requires.sound c.requires.ready c.loop-height.invariant

pub set_count-requires-clause-c_bound : goal.set_count-requires-clause-c_bound
set_count-requires-clause-c_bound c = fill_count c.requires.sound c.requires.ready c.loop-height.invariant c.count-places.result
    c.count-places.ensures

pub returns : goal.returns
returns c = map_end c.requires.sound c.requires.ready c.loop-height.invariant c.loop-height-test.false c.first-first.result
    c.of_page-x.result c.count-places.result _ _
    c.first-first.ensures c.of_page-x.ensures c.store_entry.ensures (omega (arith, c.store_entry.auto))
    c.count-places.ensures c.set_count.ensures
