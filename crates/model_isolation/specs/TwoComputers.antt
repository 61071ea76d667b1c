-- Demand 3: "What one guest can read depends on nothing another does, but for pages shared on purpose."
-- Two computers, set up anyhow, with any RAM. The tables of space c change on both together, at frames that correspond; frames that c is
-- to
-- read hold the same when they are paired (a page that was handed out is all zero); a store to a pair is made on both. All the rest
-- differs
-- at will, in kind, number and order, also what the processor keeps, of c too. (model_two_computers, Terms: Two)
use Rattle.std.specs.Prelude.{◌≡◌, true, ◌⊎◌, ◌↔◌, ℕ, ◌+◌}
use Rattle.model_moves.specs.Spaces.{exists, Leads}
use Rattle.model_moves.specs.Machine.{Machine, Run}
use Rattle.model_moves.specs.Terms.{Bounded, Start}
use Rattle.model_two_computers.specs.Terms.{Frames, no_frames, SameWords, Two, At, Stale, Corresponds, Settled, Reads}
use Rattle.model_two_computers.proofs.Half.{base, flip}
use Rattle.model_two_computers.proofs.Paired.{turned}
use Rattle.model_two_computers.proofs.Reading.{start_paired, run_paired, both_read, one_reads, reads_too, are_runs, run_bounded}

-- What c reads at page v is the same on both: the same rights, frames that correspond, the same in them.
pub same_reads : {c : ℕ} {R : Frames} {m n y z : Machine} → Start m → Start n → Two c no_frames m n R y z → (v x r x' r' : ℕ) →
    At y c v x r → At z c v x' r' → (r ≡ r') × Corresponds R y z x x'
same_reads {c} x y t = both_read (run_paired t (start_paired c x y))

-- Whatever c reads at page v on the one, it finds at the corresponding frame on the other by the tables, or v is stale there: what was
-- taken out of the tables may still be kept on the one, and no longer on the other, until the report.
pub same_pages : {c : ℕ} {R : Frames} {m n y z : Machine} → Start m → Start n → Two c no_frames m n R y z → (v x r : ℕ) → At y c v x r →
    (x' : ℕ) × Corresponds R y z x x' × (((f' : ℕ) × (x' ≡ z.spaces.first + f') × Leads z.spaces c v f' r) ⊎ Stale z c v)
same_pages {c} x y t = one_reads (run_paired t (start_paired c x y))

-- The tables: page for page they lead to frames that correspond, which hold the same.
pub same_tables : {c : ℕ} {R : Frames} {m n y z : Machine} → Start m → Start n → Two c no_frames m n R y z → exists y.spaces c ≡ true →
    (v f r : ℕ) → Leads y.spaces c v f r →
    (f' : ℕ) × R f f' × Leads z.spaces c v f' r × SameWords y z f f'
same_tables {c} {R} {m} {n} {y} {z} u w t live v f r l =
    let p = run_paired t (start_paired c u w) in
    let a = base c R p.G p.G' y z p.first p.forth live v f r l in
    (a.0, a.1, a.2, p.words f a.0 a.1)

pub same_tables_back : {c : ℕ} {R : Frames} {m n y z : Machine} → Start m → Start n → Two c no_frames m n R y z →
    exists z.spaces c ≡ true → (v f' r : ℕ) → Leads z.spaces c v f' r →
    (f : ℕ) × R f f' × Leads y.spaces c v f r × SameWords y z f f'
same_tables_back {c} {R} {m} {n} {y} {z} u w t live v f r l =
    let p = run_paired t (start_paired c u w) in
    let a = base c (flip R) p.G' p.G z y p.second p.back live v f r l in
    (a.0, a.1, a.2, p.words a.0 f a.1)

-- The same in one line, for a page of which nothing waits for a report: c reads these bytes there on the one if and only if it does on
-- the other.
pub same_bytes : {c : ℕ} {R : Frames} {m n y z : Machine} → Start m → Start n → Bounded m → Bounded n → Two c no_frames m n R y z →
    (v r : ℕ) (bytes : ℕ → ℕ) → Settled y c v → Settled z c v →
    Reads y c v r bytes ↔ Reads z c v r bytes
same_bytes {c} u w bm bn t v r bytes sy sz =
    let p = run_paired t (start_paired c u w) in
    let h = are_runs t in
    (reads_too p (run_bounded h.1 bn) v r bytes sz, reads_too (turned p) (run_bounded h.0 bm) v r bytes sy)

-- Each half is a run of a machine as in all other theorems.
pub are_two_runs : {c : ℕ} {R R' : Frames} {y z y' z' : Machine} → Two c R y z R' y' z' → Run y y' × Run z z'
are_two_runs = are_runs
