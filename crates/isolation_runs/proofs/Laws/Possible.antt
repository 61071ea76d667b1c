-- Where a function has answered, there is the step of its call: its operation's path, watched without anything new being kept.
use mathlib.Core.Path.{◌≡◌, refl, sym, ap, ◌∙◌, subst}
use mathlib.Core.Logic.{inl, inr}
use mathlib.Core.List.{List}
use Prim.Native.Nat.{ℕ, ◌<◌}
use lib.ListN.{length, get_or, set}
use lib.Seq.{get_or-set_same, get_or-set_other}
use Rattle.model.proofs.Laws.Base.{eq?}
use Rattle.model.specs.State.{State}
use Rattle.model.specs.Operations.{Out, refuse, done}
use Rattle.model.specs.Machine as M
use Rattle.model.proofs.Invariant.Answer.{then_is}
use Rattle.model_moves.specs.Spaces.{Spaces}
use Rattle.model_moves.specs.Cache.{Caches, Looks, from_kept, kept, kept_level, forget}
use Rattle.model_moves.specs.Path.{Path, here, move, report, Watched, at_end, at_move, at_report, Way}
use Rattle.model_moves.proofs.Laws.Paths.{stay}
use Rattle.model_paths.specs.View.{view}
use Rattle.model_paths.specs.Goes.{Goes, Does}
use Rattle.model_paths.proofs.Ready.{ready_goes}
use Rattle.ledger.specs.Layout.{state_of, pick_of}
use Rattle.monitor.specs.Answers.{Answers, Outcome}
use Rattle.isolation_runs.specs.Calls.{Call, defined, in_model}
use Rattle.isolation_runs.specs.Slices.{Slices, spaces, Called}
use Rattle.isolation_runs.proofs.Laws.Calls.{defined_is}
use Rattle.isolation_runs.proofs.Laws.Steps.{Fit, fit_ready, chosen_so}

pub still_bytes : (m : List ℕ) (at b : ℕ) → at < length m → b < 256 → ((i : ℕ) → get_or m i 0 < 256) → (i : ℕ) →
    get_or (set m at b) i 0 < 256
still_bytes m at b room small h i = elim (eq? i at) [
  | inl e ↦ rw e (rw (get_or-set_same m at b 0 room) small)
  | inr e ↦ rw (get_or-set_other m at i b 0 e) (h i)
]

-- nothing new is kept
same_look : (s : Spaces) (k : Caches) → Looks s k k
same_look s k = record { tables = λ c h p x a. from_kept a; pages = λ c v x r a. kept a; levels = λ c v l a. kept_level a }

kept_along : {s z : Spaces} → Path s z → Caches → Caches
kept_along here k = k
kept_along (move m p) k = kept_along p k
kept_along (report c R D r p) k = kept_along p (forget k c R)

unseen : {s z : Spaces} (p : Path s z) (k : Caches) → Watched s z p k (kept_along p k)
unfolding kept_along
unseen {s} here k = at_end (same_look s k)
unseen {s} (move m p) k = at_move m (same_look s k) (unseen p k)
unseen {s} (report c R D r p) k = at_report c R D r (same_look s k) (unseen p (forget k c R))

module _ (x : Slices) (h : Fit x) (c : Call) (r : ℕ) (ram ledger : List ℕ) (bytes : (i : ℕ) → get_or ram i 0 < 256)
    (a : Answers (defined c) x.ram x.ledger r ram ledger) where
  way : Way (Does (state_of x.ram x.ledger) (in_model c (pick_of x.ledger))) (spaces x) (view (state_of ram ledger))
  way = go (defined c (state_of x.ram x.ledger) (pick_of x.ledger)) refl a.outcome
    where
      go : (u : Out) → defined c (state_of x.ram x.ledger) (pick_of x.ledger) ≡ u → Outcome u x.ram x.ledger r ram ledger →
          Goes (state_of x.ram x.ledger) (in_model c (pick_of x.ledger)) (state_of ram ledger)
      go (refuse n) e o = subst (λ (t : State). Goes (state_of x.ram x.ledger) (in_model c (pick_of x.ledger)) t)
          (sym (ap (λ (m : List ℕ). state_of m ledger) o.1 ∙ ap (λ (l : List ℕ). state_of x.ram l) o.2))
          (stay (Does (state_of x.ram x.ledger) (in_model c (pick_of x.ledger))))
      go (done s) e o = subst (λ (t : State). Goes (state_of x.ram x.ledger) (in_model c (pick_of x.ledger)) t) (sym o.1)
          (then_is (M.answer (state_of x.ram x.ledger) (in_model c (pick_of x.ledger))) s
          (ready_goes (state_of x.ram x.ledger) (fit_ready h) (in_model c (pick_of x.ledger)) (chosen_so x h.sound c))
          (sym (defined_is c (state_of x.ram x.ledger) (pick_of x.ledger)) ∙ e)).0

  pub call_goes : (y : Slices) × Called c r x y × (y.ram ≡ ram) × (y.ledger ≡ ledger)
  call_goes = (
    record { ram = ram; ledger = ledger; bytes = bytes; caches = kept_along way.0 x.caches },
    record { answers = a; path = way.0; along = way.1; watched = unseen way.0 x.caches },
    refl,
    refl,
  )
