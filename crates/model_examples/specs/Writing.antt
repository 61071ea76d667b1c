-- A second run, computed: a page is shared for writing and two guests write it; one of them is destroyed, its tables drain, and their
-- frames are used again.
-- Lowest first, guest 2's root table is frame 3, and its table where the pages are is frame 10.
use Rattle.std.specs.Prelude.{◌≡◌, refl, true, List, [], ◌∷◌, ℕ, ◌+◌}
use Rattle.std.proofs.Common.{ap, subst, ◌∙◌, arith}
use Rattle.std.proofs.Math.Option.{some}
use Rattle.model.specs.Base.{upd, upd2, sum, all}
use Rattle.model.specs.State.{State, table, draining_table, page, total, free_frames}
use Rattle.model.specs.Entry.{entry, table_entry, page_entry, rights_of}
use Rattle.model.specs.Translate.{upper, descend, leaf, translate, missing_from}
use Rattle.model.specs.Changes.{zeros, becomes, with_root, with_table, grow, with_page, with_mapping, without_page, without_mapping, drained, without_guest, released, clean}
use Rattle.model.specs.Operations.{Out, refuse, done, check, shares, may_map, unshared, create, give, map, unmap, share, unshare, destroy, invalidated, at_first, started}
use Rattle.model.specs.Cache.{nothing_kept, from_root, from_kept, grown, writing}
use Rattle.model.specs.Machine.{Machine, Destroy, answer, keeps, settle, call, Run, Reaches}
use Rattle.model_examples.specs.Lowest.{frees, free_at, lowest}
use Rattle.model_examples.specs.Runs.{Ask, creates, destroys, invalidates, gives, maps, unmaps, shares_with, unshares, operation, after, state_after, answers, begin}
use Rattle.model_examples.specs.Machine.{machine_after, asked_run, asked_state, run_then, machine_0, Looked, looked, reaches_8}

-- 1 to 6, 7 to 9, 10, 11 to 14. Shared with w = 1, and mapped by both with rights 3
unfoldable pub to_write : List Ask
to_write = creates 1 ∷ creates 2 ∷ gives 8 1 ∷ shares_with 1 8 2 1 ∷ maps 8 1 0x1000 3 ∷ maps 8 2 0x1000 3 ∷ []

-- destroy asks that nothing is shared with the guest
unfoldable pub parting : List Ask
parting = unmaps 2 0x1000 ∷ invalidates 2 ∷ unshares 1 8 2 ∷ []

unfoldable pub destroying : List Ask
destroying = destroys 2 ∷ []

-- what drains is not given: answer 6
unfoldable pub used_again : List Ask
used_again = gives 10 1 ∷ invalidates 2 ∷ gives 10 1 ∷ creates 3 ∷ []

unfoldable pub both_write : State
both_write = state_after (begin 2) to_write

unfoldable pub parted : State
parted = state_after both_write parting

unfoldable pub destroyed : State
destroyed = state_after parted destroying

unfoldable pub others_have : State
others_have = state_after destroyed used_again

-- the answers, and what the frames are then
pub steps_1_to_6 : (answers (begin 2) to_write ≡ 0 ∷ 0 ∷ 0 ∷ 0 ∷ 0 ∷ 0 ∷ []) × (both_write.kind 8 ≡ page 1) ×
    (both_write.shared 8 2 ≡ 2) × (translate both_write 1 1 ≡ some (8, 3)) × (translate both_write 2 1 ≡ some (8, 3)) ×
    (both_write.first ≡ 0x40000)
unfolding answers state_after begin after operation answer lowest free_at frees started at_first create give map unmap share unshare
    destroy invalidated check shares may_map unshared total free_frames sum all upd upd2 entry table_entry page_entry rights_of upper
    descend leaf translate missing_from zeros becomes with_root with_table grow with_page with_mapping without_page without_mapping
    drained without_guest released clean both_write to_write
steps_1_to_6 = (refl, refl, refl, refl, refl, refl)

pub steps_7_to_9 : (answers both_write parting ≡ 0 ∷ 0 ∷ 0 ∷ []) × (parted.exists 2 ≡ true) × (parted.root 2 ≡ 3) ×
    (parted.first ≡ 0x40000)
unfolding answers state_after begin after operation answer lowest free_at frees started at_first create give map unmap share unshare
    destroy invalidated check shares may_map unshared total free_frames sum all upd upd2 entry table_entry page_entry rights_of upper
    descend leaf translate missing_from zeros becomes with_root with_table grow with_page with_mapping without_page without_mapping
    drained without_guest released clean both_write parted to_write parting
steps_7_to_9 = (refl, refl, refl, refl)

pub step_10 : (answers parted destroying ≡ 0 ∷ []) × (destroyed.kind 3 ≡ draining_table 2 3 0) ×
    (destroyed.kind 10 ≡ draining_table 2 0 0)
unfolding answers state_after begin after operation answer lowest free_at frees started at_first create give map unmap share unshare
    destroy invalidated check shares may_map unshared total free_frames sum all upd upd2 entry table_entry page_entry rights_of upper
    descend leaf translate missing_from zeros becomes with_root with_table grow with_page with_mapping without_page without_mapping
    drained without_guest released clean both_write parted destroyed to_write parting destroying
step_10 = (refl, refl, refl)

pub steps_11_to_14 : (answers destroyed used_again ≡ 6 ∷ 0 ∷ 0 ∷ 0 ∷ []) × (others_have.kind 3 ≡ table 3 3 0) ×
    (others_have.kind 10 ≡ page 1)
unfolding answers state_after begin after operation answer lowest free_at frees started at_first create give map unmap share unshare
    destroy invalidated check shares may_map unshared total free_frames sum all upd upd2 entry table_entry page_entry rights_of upper
    descend leaf translate missing_from zeros becomes with_root with_table grow with_page with_mapping without_page without_mapping
    drained without_guest released clean both_write parted destroyed others_have to_write parting destroying used_again
steps_11_to_14 = (refl, refl, refl)

-- the same as a run of the machine
unfoldable pub machine_writes : Machine
machine_writes = machine_after machine_0 to_write

unfoldable pub machine_parted : Machine
machine_parted = machine_after machine_writes parting

unfoldable pub machine_destroyed : Machine
machine_destroyed = machine_after machine_parted destroying

unfoldable pub machine_again : Machine
machine_again = machine_after machine_destroyed used_again

pub run_writes : Run machine_0 machine_writes
unfolding machine_writes
run_writes = asked_run machine_0 to_write

pub run_parted : Run machine_0 machine_parted
unfolding machine_parted
run_parted = run_then run_writes (asked_run machine_writes parting)

pub run_destroyed : Run machine_0 machine_destroyed
unfolding machine_destroyed
run_destroyed = run_then run_parted (asked_run machine_parted destroying)

pub run_again : Run machine_0 machine_again
unfolding machine_again
run_again = run_then run_destroyed (asked_run machine_destroyed used_again)

state_writes : machine_writes.state ≡ both_write
unfolding machine_writes machine_0 both_write
state_writes = asked_state (record { state = begin 2; caches = nothing_kept }) to_write refl

state_parted : machine_parted.state ≡ parted
unfolding machine_parted parted
state_parted = asked_state machine_writes parting state_writes

state_destroyed : machine_destroyed.state ≡ destroyed
unfolding machine_destroyed destroyed
state_destroyed = asked_state machine_parted destroying state_parted

state_again : machine_again.state ≡ others_have
unfolding machine_again others_have
state_again = asked_state machine_destroyed used_again state_destroyed

-- frame 8 is shared for writing, and both reach it for writing
pub shared_to_write : (machine_writes.state.kind 8 ≡ page 1) × (machine_writes.state.shared 8 2 ≡ 2)
shared_to_write = (
  ap (λ (s : State). s.kind 8) state_writes ∙ steps_1_to_6.1,
  ap (λ (s : State). s.shared 8 2) state_writes
      ∙ steps_1_to_6.2,
)

pub two_write : Reaches machine_writes 1 writing 0x40008000 × Reaches machine_writes 2 writing 0x40008000
two_write = (reaches 1 steps_1_to_6.3, reaches 2 steps_1_to_6.4)
  where
    reaches : (g : ℕ) → translate both_write g 1 ≡ some (8, 3) → Reaches machine_writes g writing 0x40008000
    reaches g e = reaches_8 run_writes both_write state_writes steps_1_to_6.5 g 1 3 writing (omega arith) e refl

-- guest 2's tables drain, and are another's
pub tables_drain : (machine_destroyed.state.kind 3 ≡ draining_table 2 3 0) × (machine_destroyed.state.kind 10 ≡ draining_table 2 0 0)
tables_drain = (ap (λ (s : State). s.kind 3) state_destroyed ∙ step_10.1, ap (λ (s : State). s.kind 10) state_destroyed ∙ step_10.2)

-- the processor keeps where a guest's root is, and destroy does not make it forget
root_kept : (m : Machine) (g : ℕ) → Looked m → m.state.exists g ≡ true →
    (call m (Destroy g)).caches.table_kept g 3 0 (m.state.first + m.state.root g)
unfolding call
root_kept m g l e = go (answer m.state (Destroy g))
  where
    here : m.caches.table_kept g 3 0 (m.state.first + m.state.root g)
    here = rw l.1 (unfold grown in from_root e refl)

    go : (o : Out) → (settle m (keeps m.caches (Destroy g)) o).caches.table_kept g 3 0 (m.state.first + m.state.root g)
    go (refuse n) = unfold settle grown in from_kept here
    go (done s) = unfold settle grown keeps in from_kept here

pub root_still_kept : machine_destroyed.caches.table_kept 2 3 0 0x40003
unfolding machine_destroyed destroying machine_after operation
root_still_kept = subst (λ (x : ℕ). (call machine_parted (Destroy 2)).caches.table_kept 2 3 0 x) root_at
    (root_kept machine_parted 2 looks (ap (λ (s : State). s.exists 2) state_parted ∙ steps_7_to_9.1))
  where
    looks : Looked machine_parted
    looks = unfold machine_parted parting in looked machine_writes (unmaps 2 0x1000) (invalidates 2 ∷ unshares 1 8 2 ∷ [])

    root_at : machine_parted.state.first + machine_parted.state.root 2 ≡ 0x40003
    root_at = ap (λ (s : State). s.first + s.root 2) state_parted ∙ rw (steps_7_to_9.2, steps_7_to_9.3) refl

pub tables_used_again : (machine_again.state.kind 3 ≡ table 3 3 0) × (machine_again.state.kind 10 ≡ page 1)
tables_used_again = (
  ap (λ (s : State). s.kind 3) state_again ∙ steps_11_to_14.1,
  ap (λ (s : State). s.kind 10) state_again ∙ steps_11_to_14.2,
)
