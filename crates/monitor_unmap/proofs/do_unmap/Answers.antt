-- The entry is emptied, the count falls, and the guest is dirty.
use Rattle.monitor_unmap.proofs.Laws.Unmap.{unmap_words, unmap_low, unmap_count, unmap_end}
use native.Mathlib.Omega.{arith}
use Rattle.monitor_unmap.proofs.do_unmap.Goals as goal

pub store_entry-requires : goal.store_entry-requires
store_entry-requires c = let k = unmap_words c.requires.sound c.requires.slotted in (omega arith, k.0, k.1)

pub count-places-requires-clause-f_bound : goal.count-places-requires-clause-f_bound
count-places-requires-clause-f_bound c = unmap_low c.requires.sound c.requires.slotted

pub overflow_sub-places : goal.overflow_sub-places
overflow_sub-places c = omega (arith, (unmap_count c.requires.sound c.requires.slotted c.count-places.result c.count-places.ensures).0)

pub set_count-requires-clause-f_bound : goal.set_count-requires-clause-f_bound
set_count-requires-clause-f_bound c = unmap_low c.requires.sound c.requires.slotted

pub set_count-requires-clause-c_bound : goal.set_count-requires-clause-c_bound
set_count-requires-clause-c_bound c = omega (
  arith,
  (unmap_count c.requires.sound c.requires.slotted c.count-places.result c.count-places.ensures).1,
)

pub returns : goal.returns
returns c = unmap_end c.requires.sound c.requires.slotted c.count-places.result _ _ _ c.store_entry.ensures
    (omega (arith, c.store_entry.auto))
    c.count-places.ensures c.set_count.ensures c.set_dirty.ensures
