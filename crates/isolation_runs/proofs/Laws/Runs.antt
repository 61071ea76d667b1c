-- Any sequence of steps of the two slices, from a set_up that was answered with 0 and with nothing kept, is a run of moves from Start: so
-- every theorem of model_isolation holds of it; and what each function requires is met before every call.
use mathlib.Core.Path.{◌≡◌, refl, sym, ap, subst}
use mathlib.Core.Bool.{Bool, true, false, ◌&&◌}
use mathlib.Core.List.{List}
use Prim.Native.Nat.{ℕ}
use native.Mathlib.Omega.{arith}
use lib.Dec.{ltb}
use Rattle.memory.specs.Ram.{ram_fits}
use Rattle.model.specs.Operations.{done, check, set_up, started}
use Rattle.model_moves.specs.Cache.{Caches}
use Rattle.model_moves.specs.Machine as G
use Rattle.model_moves.specs.Terms.{Start, Bounded}
use Rattle.model_moves.proofs.Laws.Paths.{joined}
use Rattle.model_moves.proofs.Invariant.Allowed.{start_good}
use Rattle.model_paths.specs.View.{use_of}
use Rattle.model_paths.specs.Goes.{Ready}
use Rattle.model_paths.proofs.Ready.{set_up_ready}
use Rattle.ledger.specs.Layout.{word_of, state_of}
use Rattle.ledger.specs.Sound.{Sound}
use Rattle.monitor.specs.Answers.{Outcome}
use Rattle.monitor.specs.SetUp.{slices_fit}
use Rattle.isolation_runs.specs.Slices.{Slices, spaces, machine, Run, stop, then, Begun}
use Rattle.isolation_runs.proofs.Laws.Steps.{Fit, step_run, step_fits}

-- set_up refuses with 4, and never with 0
pub accepted : (t : Bool) (b n k : ℕ) (m l l' : List ℕ) → Outcome (set_up t b n k (word_of m)) m l 0 m l' →
    set_up true b n k (word_of m) ≡ done (state_of m l')
unfolding set_up check
accepted true b n k m l l' o = go (true && ram_fits b n && ltb k n) o
  where
    go : (u : Bool) → Outcome (check u 4 (done (started b n k (word_of m)))) m l 0 m l' →
        check u 4 (done (started b n k (word_of m))) ≡ done (state_of m l')
    go true o = ap done (sym o.1)
    go false o = let z = o.0 in absurd (omega arith)
accepted false b n k m l l' o = let z = o.0 in absurd (omega arith)

begun_both : {x : Slices} → Begun x → Start (machine x) × Ready (state_of x.ram x.ledger)
begun_both {x} h =
    let z = set_up_ready true h.b h.n h.k (word_of x.ram) (state_of x.ram x.ledger)
    (accepted (slices_fit h.n x.ram h.ledger_before) h.b h.n h.k x.ram h.ledger_before x.ledger
    h.answered.outcome) in
    (subst (λ (k : Caches). Start (record { spaces = spaces x; caches = k })) (sym h.fresh) z.0, z.1)

pub begun_start : {x : Slices} → Begun x → Start (machine x)
begun_start h = (begun_both h).0

pub begun_fits : {x : Slices} → Begun x → Fit x
begun_fits h = record { sound = h.answered.sound refl; ended = (begun_both h).1.ended; good = start_good (begun_start h) }

-- frames beyond RAM are called the monitor's
pub begun_bounded : {x : Slices} → Begun x → Bounded (machine x)
begun_bounded {x} h t l = ap use_of ((h.answered.sound refl).core.beyond t l)

pub run_fits : {x y : Slices} → Fit x → Run x y → Fit y
run_fits h stop = h
run_fits h (then s r) = run_fits (step_fits h s) r

pub run_is_run : {x y : Slices} → Fit x → Run x y → G.Run (machine x) (machine y)
run_is_run h stop = G.stop
run_is_run h (then s r) = joined (step_run h s) (run_is_run (step_fits h s) r)

-- what happened to the slices is a run of moves from Start; and they are what the next call requires
pub are_runs : {x y : Slices} → Begun x → Run x y → Start (machine x) × G.Run (machine x) (machine y)
are_runs h r = (begun_start h, run_is_run (begun_fits h) r)

pub always_fits : {x y : Slices} → Begun x → Run x y → Fit y
always_fits h r = run_fits (begun_fits h) r

pub always_sound : {x y : Slices} → Begun x → Run x y → Sound y.ram y.ledger
always_sound h r = (always_fits h r).sound
