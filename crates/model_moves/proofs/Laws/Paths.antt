-- Laws of specs/Path: paths and ways one after another; and a watched path is a run.
use mathlib.Core.Path.{◌≡◌, subst}
use mathlib.Core.Bool.{Bool}
use Prim.Native.Nat.{ℕ}
use Rattle.model_moves.specs.Spaces.{Spaces}
use Rattle.model_moves.specs.Cache.{Caches}
use Rattle.model_moves.specs.Machine.{Machine, moves, reports, looks, Run, stop, then}
use Rattle.model_moves.specs.Moves.{Move, Report, reported}
use Rattle.model_moves.specs.Path.{Path, here, move, report, Watched, at_end, at_move, at_report, Deed, tells, deed, Along, Way}

pub append : {a b c : Spaces} → Path a b → Path b c → Path a c
append here q = q
append (move m p) q = move m (append p q)
append (report c R D r p) q = report c R D r (append p q)

append_along : (D : Deed → Type 0) {a b c : Spaces} (p : Path a b) (q : Path b c) → Along D p → Along D q → Along D (append p q)
unfolding append
append_along D here q x y = y
append_along D (move m p) q x y = (x.0, append_along D p q x.1 y)
append_along D (report c R E r p) q x y = (x.0, append_along D p q x.1 y)

along_more : {D E : Deed → Type 0} {a b : Spaces} (p : Path a b) → ((d : Deed) → D d → E d) → Along D p → Along E p
along_more here more x = tt
along_more (move m p) more x = (more (deed m) x.0, along_more p more x.1)
along_more (report c R F r p) more x = (more (tells c) x.0, along_more p more x.1)

-- ways, deed by deed
pub stay : (D : Deed → Type 0) {s : Spaces} → Way D s s
stay D = (here, tt)

pub by : (D : Deed → Type 0) {s s' z : Spaces} (m : Move s s') → D (deed m) → Way D s' z → Way D s z
by D m d w = (move m w.0, (d, w.1))

pub telling : (D : Deed → Type 0) {s z : Spaces} (c : ℕ) (R E : ℕ → Bool) (r : Report s c R E) → D (tells c) →
    Way D (reported s c E) z → Way D s z
telling D c R E r d w = (report c R E r w.0, (d, w.1))

pub onward : (D : Deed → Type 0) {a b c : Spaces} → Way D a b → Way D b c → Way D a c
onward D x y = (append x.0 y.0, append_along D x.0 y.0 x.1 y.1)

pub way_to : (D : Deed → Type 0) {a b c : Spaces} → Way D a b → b ≡ c → Way D a c
way_to D {a} w e = subst (λ z. Way D a z) e w

pub way_more : {D E : Deed → Type 0} {a b : Spaces} → ((d : Deed) → D d → E d) → Way D a b → Way E a b
way_more more w = (w.0, along_more w.0 more w.1)

-- A watched path is a run, and every theorem on runs holds at each of its moments
pub watched_run : {s z : Spaces} {p : Path s z} {k k'' : Caches} → Watched s z p k k'' →
    Run (record { spaces = s; caches = k }) (record { spaces = z; caches = k'' })
watched_run (at_end {k' = k'} l) = then (looks k' l) stop
watched_run (at_move {s' = s'} {k' = k'} m l w) = then (looks k' l) (then (moves s' m) (watched_run w))
watched_run (at_report {k' = k'} c R D r l w) = then (looks k' l) (then (reports c R D r) (watched_run w))

-- runs one after another
pub joined : {a b c : Machine} → Run a b → Run b c → Run a c
joined stop q = q
joined (then x p) q = then x (joined p q)
