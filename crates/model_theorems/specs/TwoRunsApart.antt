-- Demand 3: "What one guest can read depends on nothing another does, but for pages shared on purpose."
-- Any two runs from any two set-ups, also with other RAM: the operations that concern g, where they are answered 0, are the same in both
-- but for the numbers of frames (Matches); everything else differs at will:
-- all other operations, and all stores to frames that g may not read. Stores to those that it may read are the same. What g then reads
-- at each of its pages is the same in both, by the tables and by whatever was kept.
use Rattle.std.specs.Prelude.{◌≡◌, true, ◌↔◌, ℕ}
use Rattle.model.specs.Machine.{Machine, SetUp, Run}
use Rattle.model_noninterference.specs.TwoRunsTerms.{shown, SameBytes}
use Rattle.model_noninterference.specs.ApartTerms.{Frames, RunsApart, no_frames, Reads, ReadsNow}
use Rattle.model_noninterference.proofs.Invariant.ApartRuns.{start_seen, run_apart, covers_reads, covers_reads_now, covers_frames}
use Rattle.model_noninterference.proofs.Invariant.Beside.{halves_apart, beside_apart}
use Rattle.model_noninterference.proofs.Invariant.ApartFrames.{flip}

pub same_reads : {g : ℕ} {R : Frames} {y z y' z' : Machine} → SetUp y → SetUp z → RunsApart g no_frames y z R y' z' →
    (v r : ℕ) (bytes : ℕ → ℕ) → Reads y' g v r bytes ↔ Reads z' g v r bytes
same_reads {g} {R} x w q v r bytes =
    let p = run_apart q (start_seen g x w) in
    (covers_reads g R p.first p.covers v r bytes, covers_reads g (flip R) p.second p.back v r bytes)

pub same_reads_now : {g : ℕ} {R : Frames} {y z y' z' : Machine} → SetUp y → SetUp z → RunsApart g no_frames y z R y' z' →
    (v r : ℕ) (bytes : ℕ → ℕ) → ReadsNow y' g v r bytes ↔ ReadsNow z' g v r bytes
same_reads_now {g} {R} x w q v r bytes =
    let p = run_apart q (start_seen g x w) in
    (covers_reads_now g R p.covers v r bytes, covers_reads_now g (flip R) p.back v r bytes)

-- Each frame that g may read, mapped or not, has its counterpart, with the same bytes.
pub same_frames : {g : ℕ} {R : Frames} {y z y' z' : Machine} → SetUp y → SetUp z → RunsApart g no_frames y z R y' z' → (f : ℕ) →
    shown y'.state g f ≡ true →
    (f' : ℕ) × R f f' × (shown z'.state g f' ≡ true) × SameBytes y'.state z'.state f f'
same_frames {g} {R} x w q = covers_frames g R (run_apart q (start_seen g x w)).covers

-- The hypotheses: each half is a run of a machine as in all other theorems; and they can be met, since every run stands beside itself.
-- (Worked.Apart has two that differ.)
pub are_runs : {g : ℕ} {R R' : Frames} {y z y' z' : Machine} → RunsApart g R y z R' y' z' → Run y y' × Run z z'
are_runs = halves_apart

pub beside_itself : (g : ℕ) {y z : Machine} → SetUp y → Run y z → (R : Frames) × RunsApart g no_frames y y R z z
beside_itself = beside_apart
