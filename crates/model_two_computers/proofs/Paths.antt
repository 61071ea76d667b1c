-- A whole operation of others on one computer: a path of moves, with the processor looking before each of them and at the end (Path). If
-- none of its moves is about c, it is steps of one computer alone.
use mathlib.Core.Path.{◌≡◌, refl}
use Prim.Native.Nat.{ℕ}
use Rattle.model_moves.specs.Spaces.{Spaces}
use Rattle.model_moves.specs.Cache.{Caches}
use Rattle.model_moves.specs.Path.{Path, here, move, report, Watched, at_end, at_move, at_report}
use Rattle.model_moves.specs.Machine.{Machine, moves, reports, looks}
use Rattle.model_moves.specs.Terms.{Touches}
use Rattle.model_two_computers.specs.Terms.{Frames, LeavesFirst, LeavesSecond, Two, ends, left, right}

-- none of its moves is on c's tables or changes what stands in frames P, and none of its reports is for c
abbrev pub Besides : (c : ℕ) (P : ℕ → Type 0) {s z : Spaces} → Path s z → Type 0
Besides c P here = Unit {0}
Besides c P (move {s} {s'} m p) = (Touches m c → ⊥) × (((f i : ℕ) → P f → s'.word f i ≡ s.word f i) × Besides c P p)
Besides c P (report d R D r p) = (c ≡ d → ⊥) × Besides c P p

abbrev at : Spaces → Caches → Machine
at s k = record { spaces = s; caches = k }

pub on_first : {c : ℕ} {R : Frames} {s z : Spaces} {p : Path s z} {k k'' : Caches} (w : Machine) → Watched s z p k k'' →
    Besides c (λ f. (f' : ℕ) × R f f') p → Two c R (at s k) w R (at z k'') w
on_first {c} {R} w (at_end {s} {k} {k'} l) b = let e : LeavesFirst R (at s k) (at s k') = λ f f' i x. refl in left (looks k' l) tt e ends
on_first {c} {R} w (at_move {s} {s'} {k = k} {k' = k'} m l q) b =
    let e : LeavesFirst R (at s k) (at s k') = λ f f' i x. refl in
    let n : LeavesFirst R (at s k') (at s' k') = λ f f' i x. b.1.0 f i (f', x) in
    left (looks k' l) tt e (left (moves s' m) b.0 n (on_first w q b.1.1))
on_first {c} {R} w (at_report {s} {k = k} {k' = k'} d P D r l q) b =
    let e : LeavesFirst R (at s k) (at s k') = λ f f' i x. refl in
    left (looks k' l) tt e (left (reports d P D r) b.0 (λ f f' i x. refl) (on_first w q b.1))

pub on_second : {c : ℕ} {R : Frames} {s z : Spaces} {p : Path s z} {k k'' : Caches} (w : Machine) → Watched s z p k k'' →
    Besides c (λ f'. (f : ℕ) × R f f') p → Two c R w (at s k) R w (at z k'')
on_second {c} {R} w (at_end {s} {k} {k'} l) b =
    let e : LeavesSecond R (at s k) (at s k') = λ f f' i x. refl in right (looks k' l) tt e ends
on_second {c} {R} w (at_move {s} {s'} {k = k} {k' = k'} m l q) b =
    let e : LeavesSecond R (at s k) (at s k') = λ f f' i x. refl in
    let n : LeavesSecond R (at s k') (at s' k') = λ f f' i x. b.1.0 f' i (f, x) in
    right (looks k' l) tt e (right (moves s' m) b.0 n (on_second w q b.1.1))
on_second {c} {R} w (at_report {s} {k = k} {k' = k'} d P D r l q) b =
    let e : LeavesSecond R (at s k) (at s k') = λ f f' i x. refl in
    right (looks k' l) tt e (right (reports d P D r) b.0 (λ f f' i x. refl) (on_second w q b.1))
