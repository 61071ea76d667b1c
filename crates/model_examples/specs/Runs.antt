-- Document 03, section 5, computed: the 32 steps with the answers of the table, and the run that runs out.
use Rattle.std.specs.Prelude.{◌≡◌, refl, List, [], ◌∷◌, ℕ}
use Rattle.std.proofs.Math.Option.{none, some}
use Rattle.model.specs.Base.{upd, upd2, sum, all}
use Rattle.model.specs.State.{State, page, draining_page, total, free_frames}
use Rattle.model.specs.Entry.{entry, table_entry, page_entry, rights_of}
use Rattle.model.specs.Translate.{upper, descend, leaf, translate, missing_from}
use Rattle.model.specs.Changes.{zeros, becomes, with_root, with_table, grow, with_page, with_mapping, without_page, without_mapping, drained, without_guest, released, clean}
use Rattle.model.specs.Operations.{Out, refuse, done, refusal, check, shares, may_map, unshared, create, give, map, unmap, share, unshare, take, destroy, invalidated, at_first, started}
use Rattle.model.specs.Machine.{Operation, Create, Give, Take, Map, Unmap, Share, Unshare, Destroy, Invalidated, answer, Chooses}
use Rattle.model_examples.specs.Lowest.{frees, free_at, lowest, lowest_chosen}

-- what is asked for; new tables are taken lowest first
pub data Ask : Type 0 where
  creates destroys invalidates : (g : ℕ) → Ask
  gives takes : (f g : ℕ) → Ask
  maps : (f g a r : ℕ) → Ask
  unmaps : (g a : ℕ) → Ask
  shares_with : (g f h w : ℕ) → Ask
  unshares : (g f h : ℕ) → Ask

unfoldable pub operation : State → Ask → Operation
operation s (creates g) = Create g (lowest s)
operation s (destroys g) = Destroy g
operation s (invalidates g) = Invalidated g
operation s (gives f g) = Give f g
operation s (takes f g) = Take f g
operation s (maps f g a r) = Map f g a r (lowest s)
operation s (unmaps g a) = Unmap a g
operation s (shares_with g f h w) = Share g f h w
operation s (unshares g f h) = Unshare g f h

pub chosen : (s : State) (a : Ask) → Chooses s (operation s a)
unfolding operation
chosen s (creates g) = lowest_chosen s
chosen s (destroys g) = tt
chosen s (invalidates g) = tt
chosen s (gives f g) = tt
chosen s (takes f g) = tt
chosen s (maps f g a r) = lowest_chosen s
chosen s (unmaps g a) = tt
chosen s (shares_with g f h w) = tt
chosen s (unshares g f h) = tt

unfoldable pub after : State → Out → State
after s (refuse n) = s
after s (done s') = s'

unfoldable pub state_after : State → List Ask → State
state_after s [] = s
state_after s (a ∷ rest) = state_after (after s (answer s (operation s a))) rest

unfoldable pub answers : State → List Ask → List ℕ
answers s [] = []
answers s (a ∷ rest) = let o = answer s (operation s a) in refusal o ∷ answers (after s o) rest

-- "16 frames, frames 0 and 1 the monitor's, everything else free"; RAM at 0x40000000, and all its words are 1 to begin with
unfoldable pub begin : (k : ℕ) → State
begin k = started 0x40000000 16 k (λ f i. 1)

-- 1 to 11, 12 to 19, 20 to 32
unfoldable pub sharing : List Ask
sharing =
    creates 1 ∷ creates 1 ∷ creates 2 ∷ gives 8 1 ∷ gives 8 2 ∷ maps 8 1 0x80000000 3 ∷ maps 8 1 0x80000000 1 ∷ maps 8 2 0x1000 1
    ∷ shares_with 1 8 2 0 ∷ maps 8 2 0x1000 3 ∷ maps 8 2 0x1000 1 ∷ []

unfoldable pub draining : List Ask
draining = unshares 1 8 2 ∷ unmaps 2 0x1000 ∷ unshares 1 8 2 ∷ invalidates 2 ∷ unshares 1 8 2 ∷ takes 8 1 ∷ unmaps 1 0x80000000 ∷ takes 8
    1 ∷ []

unfoldable pub reuse : List Ask
reuse =
    gives 8 2 ∷ invalidates 1 ∷ gives 8 2 ∷ maps 8 1 0x80000001 1 ∷ maps 8 1 0x1000000000000 1 ∷ maps 0 2 0x2000 1 ∷ maps 9 2 0x2000 1 ∷
    maps 8 2 0x2000 2
    ∷ unmaps 1 0x80000000 ∷ destroys 1 ∷ creates 1 ∷ invalidates 1 ∷ creates 1 ∷ []

-- "16 frames, the first ten the monitor's; create 1, give 14 and 15 to 1, map 14 at 0, rights 1 (three tables: now none is free), map 15
-- at 2^47, rights 1: answer 3"
unfoldable pub scarce : List Ask
scarce = creates 1 ∷ gives 14 1 ∷ gives 15 1 ∷ maps 14 1 0 1 ∷ maps 15 1 0x800000000000 1 ∷ []

-- the states after steps 11, 19 and 32
unfoldable pub after_11 : State
after_11 = state_after (begin 2) sharing

unfoldable pub after_19 : State
after_19 = state_after after_11 draining

unfoldable pub after_32 : State
after_32 = state_after after_19 reuse

pub steps_1_to_11 : answers (begin 2) sharing ≡ 0 ∷ 2 ∷ 0 ∷ 0 ∷ 6 ∷ 0 ∷ 10 ∷ 9 ∷ 0 ∷ 9 ∷ 0 ∷ []
unfolding answers state_after after_11 after_19 after_32 sharing draining reuse scarce begin after operation answer lowest free_at frees
    started at_first create give map unmap share unshare take destroy invalidated check shares may_map unshared total free_frames sum all
    upd upd2 entry table_entry page_entry rights_of upper descend leaf translate missing_from zeros becomes with_root with_table grow
    with_page with_mapping without_page without_mapping drained without_guest released clean
steps_1_to_11 = refl

pub steps_12_to_19 : answers after_11 draining ≡ 13 ∷ 0 ∷ 14 ∷ 0 ∷ 0 ∷ 13 ∷ 0 ∷ 0 ∷ []
unfolding answers state_after after_11 after_19 after_32 sharing draining reuse scarce begin after operation answer lowest free_at frees
    started at_first create give map unmap share unshare take destroy invalidated check shares may_map unshared total free_frames sum all
    upd upd2 entry table_entry page_entry rights_of upper descend leaf translate missing_from zeros becomes with_root with_table grow
    with_page with_mapping without_page without_mapping drained without_guest released clean
steps_12_to_19 = refl

pub steps_20_to_32 : answers after_19 reuse ≡ 6 ∷ 0 ∷ 0 ∷ 7 ∷ 7 ∷ 9 ∷ 9 ∷ 8 ∷ 11 ∷ 0 ∷ 2 ∷ 0 ∷ 0 ∷ []
unfolding answers state_after after_11 after_19 after_32 sharing draining reuse scarce begin after operation answer lowest free_at frees
    started at_first create give map unmap share unshare take destroy invalidated check shares may_map unshared total free_frames sum all
    upd upd2 entry table_entry page_entry rights_of upper descend leaf translate missing_from zeros becomes with_root with_table grow
    with_page with_mapping without_page without_mapping drained without_guest released clean
steps_20_to_32 = refl

pub runs_out : answers (begin 10) scarce ≡ 0 ∷ 0 ∷ 0 ∷ 0 ∷ 3 ∷ []
unfolding answers state_after after_11 after_19 after_32 sharing draining reuse scarce begin after operation answer lowest free_at frees
    started at_first create give map unmap share unshare take destroy invalidated check shares may_map unshared total free_frames sum all
    upd upd2 entry table_entry page_entry rights_of upper descend leaf translate missing_from zeros becomes with_root with_table grow
    with_page with_mapping without_page without_mapping drained without_guest released clean
runs_out = refl

-- frame 8, which was 1's and shared with 2, drains for 1, and ends as 2's page
pub shared_then : (after_11.kind 8 ≡ page 1) × (after_11.shared 8 2 ≡ 1) × (translate after_11 1 0x80000 ≡ some (8, 3)) ×
    (translate after_11 2 1 ≡ some (8, 1))
unfolding answers state_after after_11 after_19 after_32 sharing draining reuse scarce begin after operation answer lowest free_at frees
    started at_first create give map unmap share unshare take destroy invalidated check shares may_map unshared total free_frames sum all
    upd upd2 entry table_entry page_entry rights_of upper descend leaf translate missing_from zeros becomes with_root with_table grow
    with_page with_mapping without_page without_mapping drained without_guest released clean
shared_then = (refl, refl, refl, refl)

pub drains_then : (after_19.kind 8 ≡ draining_page 1) × (translate after_19 1 0x80000 ≡ none)
unfolding answers state_after after_11 after_19 after_32 sharing draining reuse scarce begin after operation answer lowest free_at frees
    started at_first create give map unmap share unshare take destroy invalidated check shares may_map unshared total free_frames sum all
    upd upd2 entry table_entry page_entry rights_of upper descend leaf translate missing_from zeros becomes with_root with_table grow
    with_page with_mapping without_page without_mapping drained without_guest released clean
drains_then = (refl, refl)

pub handed_on : after_32.kind 8 ≡ page 2
unfolding answers state_after after_11 after_19 after_32 sharing draining reuse scarce begin after operation answer lowest free_at frees
    started at_first create give map unmap share unshare take destroy invalidated check shares may_map unshared total free_frames sum all
    upd upd2 entry table_entry page_entry rights_of upper descend leaf translate missing_from zeros becomes with_root with_table grow
    with_page with_mapping without_page without_mapping drained without_guest released clean
handed_on = refl

pub first_page : after_11.first ≡ 0x40000
unfolding answers state_after after_11 after_19 after_32 sharing draining reuse scarce begin after operation answer lowest free_at frees
    started at_first create give map unmap share unshare take destroy invalidated check shares may_map unshared total free_frames sum all
    upd upd2 entry table_entry page_entry rights_of upper descend leaf translate missing_from zeros becomes with_root with_table grow
    with_page with_mapping without_page without_mapping drained without_guest released clean
first_page = refl

pub first_page_19 : after_19.first ≡ 0x40000
unfolding answers state_after after_11 after_19 after_32 sharing draining reuse scarce begin after operation answer lowest free_at frees
    started at_first create give map unmap share unshare take destroy invalidated check shares may_map unshared total free_frames sum all
    upd upd2 entry table_entry page_entry rights_of upper descend leaf translate missing_from zeros becomes with_root with_table grow
    with_page with_mapping without_page without_mapping drained without_guest released clean
first_page_19 = refl
