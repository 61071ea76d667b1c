-- Nothing is vacuous: there is a run from set-up (document 03, section 5) in which a frame is shared and reached by two guests, is taken
-- and drains while a cache still leads
-- to it, and is given to another guest; and one in which a page is shared for writing, and a destroyed guest's tables drain and are used
-- again.
-- Frame 8 of 16 lies at 0x40008000. The runs' answers are in Runs and Writing, computed by the checker.
use Rattle.std.specs.Prelude.{◌≡◌}
use Rattle.std.proofs.Math.Option.{none}
use Rattle.model.specs.State.{table, draining_table, page, draining_page}
use Rattle.model.specs.Translate.{translate}
use Rattle.model.specs.Cache.{reading, writing}
use Rattle.model.specs.Machine.{SetUp, Run, Reaches}
use Rattle.model_examples.specs.Machine.{machine_0, machine_11, machine_19, machine_32, set_up_0, run_11, run_19, run_32, owner_writes, other_reads, drains, stale, ends}
use Rattle.model_examples.specs.Writing.{machine_writes, machine_destroyed, machine_again, run_writes, run_destroyed, run_again, shared_to_write, two_write, tables_drain, root_still_kept, tables_used_again}

-- after 11 steps guest 1 writes and guest 2 reads the first byte of frame 8
pub two_reach_it : SetUp machine_0 × Run machine_0 machine_11 × (machine_11.state.kind 8 ≡ page 1) ×
    Reaches machine_11 1 writing 0x40008000 × Reaches machine_11 2 reading 0x40008000
two_reach_it = (set_up_0, run_11, owner_writes.0, owner_writes.1, other_reads)

-- after 19 steps it drains for guest 1, whose tables do not lead to it, and which reaches it all the same
pub a_cache_leads_to_it : Run machine_0 machine_19 × (machine_19.state.kind 8 ≡ draining_page 1) ×
    (translate machine_19.state 1 0x80000 ≡ none) × Reaches machine_19 1 writing 0x40008000
a_cache_leads_to_it = (run_19, drains.0, drains.1, stale)

-- after 32 steps it is guest 2's
pub it_is_handed_on : Run machine_0 machine_32 × (machine_32.state.kind 8 ≡ page 2)
it_is_handed_on = (run_32, ends)

-- the second run: frame 8 is guest 1's and shared for writing (2); guests 1 and 2 write its first byte
pub two_write_it : SetUp machine_0 × Run machine_0 machine_writes × (machine_writes.state.kind 8 ≡ page 1) ×
    (machine_writes.state.shared 8 2 ≡ 2) × Reaches machine_writes 1 writing 0x40008000 × Reaches machine_writes 2 writing 0x40008000
two_write_it = (set_up_0, run_writes, shared_to_write.0, shared_to_write.1, two_write.0, two_write.1)

-- guest 2 is destroyed: its root table, frame 3, and its table of height 0, frame 10, drain for it, and the processor still keeps where
-- the root was
pub its_tables_drain : Run machine_0 machine_destroyed × (machine_destroyed.state.kind 3 ≡ draining_table 2 3 0) ×
    (machine_destroyed.state.kind 10 ≡ draining_table 2 0 0) × machine_destroyed.caches.table_kept 2 3 0 0x40003
its_tables_drain = (run_destroyed, tables_drain.0, tables_drain.1, root_still_kept)

-- after its invalidation the one is guest 3's root table, and the other guest 1's page
pub its_tables_are_used_again : Run machine_0 machine_again × (machine_again.state.kind 3 ≡ table 3 3 0) ×
    (machine_again.state.kind 10 ≡ page 1)
its_tables_are_used_again = (run_again, tables_used_again.0, tables_used_again.1)
