-- Any sequence of calls of the monitor's functions on the two slices, with guests' stores of bytes between them, from a set-up that was
-- answered with 0, is a run of the model from set-up.
-- So every theorem of the page Isolation about one run of the model holds of the two slices; and what each function requires is met
-- before every call.
use mathlib.Core.Path.{refl}
use Rattle.model.specs.Machine as M
use Rattle.model.proofs.Invariant.Holds.{nothing_ok}
use Rattle.ledger.specs.Layout.{word_of, state_of}
use Rattle.ledger.specs.Sound.{Sound}
use Rattle.monitor.specs.SetUp.{slices_fit}
use Rattle.isolation_runs.specs.Coarse.{Slices, machine, Run, stop, then, Begun}
use Rattle.isolation_runs.proofs.Coarse.Steps.{Fit, step_is_step, step_fits}
use Rattle.isolation_runs.proofs.Laws.Runs.{accepted}

pub run_is_run : {x y : Slices} → Fit x → Run x y → M.Run (machine x) (machine y)
run_is_run h stop = M.stop
run_is_run h (then s r) = M.then (step_is_step h s) (run_is_run (step_fits h s) r)

pub run_fits : {x y : Slices} → Fit x → Run x y → Fit y
run_fits h stop = h
run_fits h (then s r) = run_fits (step_fits h s) r

pub begun_is : {x : Slices} → Begun x → M.SetUp (machine x)
begun_is {x} h = record {
  n = h.n;
  b = h.b;
  k = h.k;
  word = word_of x.ram;
  accepted = accepted (slices_fit h.n x.ram h.ledger_before) h.b h.n h.k x.ram h.ledger_before x.ledger
      h.answered.outcome;
  fresh = h.fresh;
}

pub begun_fits : {x : Slices} → Begun x → Fit x
begun_fits {x} h = record { sound = h.answered.sound refl; kept = rw h.fresh (nothing_ok (state_of x.ram x.ledger)) }

-- the capstone: what happened to the slices is a run of the model; and they are what the next call requires
pub are_runs : {x y : Slices} → Begun x → Run x y → M.SetUp (machine x) × M.Run (machine x) (machine y)
are_runs h r = (begun_is h, run_is_run (begun_fits h) r)

pub always_sound : {x y : Slices} → Begun x → Run x y → Sound y.ram y.ledger
always_sound h r = (run_fits (begun_fits h) r).sound
