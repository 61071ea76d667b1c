-- Two runs that differ, computed: RAM held other words, the monitor keeps another frame, guest 2 exists in one run only and took frames
-- first.
-- Guest 1 gets frame 8 in one run and frame 10 in the other; what it reads at 0x1000 is the same (TwoRunsApart).
use Rattle.std.specs.Prelude.{◌≡◌, refl, true, ◌↔◌, ℕ, zero, suc}
use Rattle.std.proofs.Common.{inl, inr}
use Rattle.std.proofs.Math.Option.{some}
use Rattle.memory.specs.Ram.{ram_fits}
use Rattle.model.specs.Base.{upd, upd2, sum}
use Rattle.model.specs.State.{free_frames}
use Rattle.model.specs.Entry.{entry, table_entry, page_entry, rights_of}
use Rattle.model.specs.Translate.{upper, descend, leaf, translate, missing_from}
use Rattle.model.specs.Changes.{zeros, becomes, with_root, with_table, grow, with_page, with_mapping}
use Rattle.model.specs.Operations.{done, check, shares, may_map, create, give, map, at_first, started, set_up}
use Rattle.model.specs.Cache.{nothing_kept}
use Rattle.model.specs.Machine.{Machine, Create, Give, Map, answer, keeps, settle, call, SetUp}
use Rattle.model_noninterference.specs.ApartTerms.{Frames, after, creates, gives, maps, Apart, second_calls, both_call, RunsApart, stop, then, no_frames, Reads}
use Rattle.model_theorems.specs.TwoRunsApart.{same_reads}
use Rattle.model_examples.specs.Lowest.{frees, free_at, lowest, lowest_chosen}

unfoldable pub begins : (k w : ℕ) → Machine
begins k w = record { state = started 0x40000000 16 k (λ f i. w); caches = nothing_kept }

-- create a guest, give it a frame, map the frame at 0x1000 for reading and writing
unfoldable pub created : (g : ℕ) → Machine → Machine
created g m = call m (Create g (lowest m.state))

unfoldable pub given : (f g : ℕ) → Machine → Machine
given f g m = call m (Give f g)

unfoldable pub placed : (f g : ℕ) → Machine → Machine
placed f g m = call m (Map f g 0x1000 3 (lowest m.state))

-- the first run, after each of its three operations
unfoldable pub one : ℕ → Machine
one zero = begins 2 1
one (suc zero) = created 1 (begins 2 1)
one (suc (suc zero)) = given 8 1 (created 1 (begins 2 1))
one (suc (suc (suc n))) = placed 8 1 (given 8 1 (created 1 (begins 2 1)))

-- the second, after each of its five: guest 2 comes first
unfoldable pub two : ℕ → Machine
two zero = begins 3 7
two (suc zero) = created 2 (begins 3 7)
two (suc (suc zero)) = given 9 2 (created 2 (begins 3 7))
two (suc (suc (suc zero))) = created 1 (given 9 2 (created 2 (begins 3 7)))
two (suc (suc (suc (suc zero)))) = given 10 1 (created 1 (given 9 2 (created 2 (begins 3 7))))
two (suc (suc (suc (suc (suc n))))) = placed 10 1 (given 10 1 (created 1 (given 9 2 (created 2 (begins 3 7)))))

begun : (k w : ℕ) → set_up true 0x40000000 16 k (λ f i. w) ≡ done (begins k w).state → SetUp (begins k w)
unfolding begins
begun k w e = record { b = 0x40000000; n = 16; k = k; word = λ f i. w; accepted = e; fresh = refl }

pub one_begins : SetUp (one 0)
unfolding one
one_begins = begun 2 1 (unfold begins set_up check ram_fits in refl)

pub two_begins : SetUp (two 0)
unfolding two
two_begins = begun 3 7 (unfold begins set_up check ram_fits in refl)

-- what corresponds when guest 1 has its frame
abbrev pub created_frames : Frames
created_frames = after 1 no_frames (Create 1 (lowest (one 0).state)) (Create 1 (lowest (two 2).state)) (one 1).state (two 3).state

abbrev pub given_frames : Frames
given_frames = after 1 created_frames (Give 8 1) (Give 10 1) (one 2).state (two 4).state

corresponds : given_frames 8 10
unfolding one two created given begins call settle keeps answer lowest free_at frees started at_first create give check free_frames sum
    upd zeros becomes with_root
corresponds = (inr (refl, refl), refl, refl)

-- the five steps: two of the second run alone, three together
second_creates : Apart 1 no_frames (one 0) (two 0) no_frames (one 0) (two 1)
unfolding two created
second_creates = second_calls (Create 2 (lowest (begins 3 7).state)) (lowest_chosen (begins 3 7).state) (inl refl)

second_gives : Apart 1 no_frames (one 0) (two 1) no_frames (one 0) (two 2)
unfolding two given
second_gives = second_calls (Give 9 2) tt (inl refl)

both_create : Apart 1 no_frames (one 0) (two 2) created_frames (one 1) (two 3)
unfolding one two created given begins call settle keeps answer lowest free_at frees started at_first create give check free_frames sum
    upd zeros becomes with_root
both_create = both_call (Create 1 (lowest (one 0).state)) (Create 1 (lowest (two 2).state)) (lowest_chosen (one 0).state)
    (lowest_chosen (two 2).state) refl refl creates

both_give : Apart 1 created_frames (one 1) (two 3) given_frames (one 2) (two 4)
unfolding one two created given begins call settle keeps answer lowest free_at frees started at_first create give check free_frames sum
    upd zeros becomes with_root
both_give = both_call (Give 8 1) (Give 10 1) tt tt refl refl gives

abbrev pub placed_frames : Frames
placed_frames = after 1 given_frames (Map 8 1 0x1000 3 (lowest (one 2).state)) (Map 10 1 0x1000 3 (lowest (two 4).state)) (one 3).state
    (two 5).state

both_map : Apart 1 given_frames (one 2) (two 4) placed_frames (one 3) (two 5)
unfolding one two created given placed begins call settle keeps answer lowest free_at frees started at_first create give map check shares
    may_map free_frames sum upd upd2 entry table_entry page_entry rights_of upper descend leaf translate missing_from zeros becomes
    with_root with_table grow with_page with_mapping
both_map = both_call (Map 8 1 0x1000 3 (lowest (one 2).state)) (Map 10 1 0x1000 3 (lowest (two 4).state)) (lowest_chosen (one 2).state)
    (lowest_chosen (two 4).state) refl refl (maps corresponds)

pub differ : RunsApart 1 no_frames (one 0) (two 0) placed_frames (one 3) (two 5)
differ = then second_creates (then second_gives (then both_create (then both_give (then both_map stop))))

-- the frames are not the same
pub other_frames : (translate (one 3).state 1 1 ≡ some (8, 3)) × (translate (two 5).state 1 1 ≡ some (10, 3))
unfolding one two created given placed begins call settle keeps answer lowest free_at frees started at_first create give map check shares
    may_map free_frames sum upd upd2 entry table_entry page_entry rights_of upper descend leaf translate missing_from zeros becomes
    with_root with_table grow with_page with_mapping
other_frames = (refl, refl)

-- and guest 1 reads the same
pub reads_the_same : (v r : ℕ) (bytes : ℕ → ℕ) → Reads (one 3) 1 v r bytes ↔ Reads (two 5) 1 v r bytes
reads_the_same = same_reads one_begins two_begins differ
