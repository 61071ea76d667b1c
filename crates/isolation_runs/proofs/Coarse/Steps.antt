-- Each step of the two slices is a step of the model, and what the operations count on holds again after it (Fit): so every call's
-- `requires` is met in any sequence.
use mathlib.Core.Path.{◌≡◌, refl, sym, ap, ◌∙◌, subst}
use mathlib.Core.Bool.{Bool, true, false}
use mathlib.Core.List.{List}
use Prim.Native.Nat.{ℕ, ◌+◌, ◌*◌}
use native.Mathlib.Omega.{arith}
use lib.ListN.{length, length-set, set}
use Rattle.model.specs.State.{State, is_guest}
use Rattle.model.specs.Operations.{Out, refuse, done, check, invalidated}
use Rattle.model.specs.Changes.{clean}
use Rattle.model.specs.Cache.{Caches, grown}
use Rattle.model.specs.Machine as M
use Rattle.model.specs.Invariant.{Core, Kept}
use Rattle.model.proofs.Invariant.Holds.{Holds, step_holds}
use Rattle.ledger.specs.Layout.{size_of, state_in, state_of, pick_of}
use Rattle.ledger.specs.LedgerSound.{LedgerSound}
use Rattle.ledger.specs.Sound.{Sound}
use Rattle.ledger.proofs.Laws.Sound.{chosen, within}
use Rattle.monitor.specs.Answers.{Outcome}
use Rattle.isolation_runs.specs.Calls.{Call, Create, Give, Take, Map, Unmap, Share, Unshare, Destroy, Invalidated, defined, in_model}
use Rattle.isolation_runs.proofs.Laws.Calls.{defined_is, chooses}
use Rattle.isolation_runs.specs.Coarse.{Slices, machine, kept_after, Looks, Called, Stored, Step, called, stored}
use Rattle.isolation_runs.proofs.Laws.StoredByte.{state_put}

-- what every operation requires; and what is kept leads only where it may
pub record Fit (x : Slices) : Type 0 where
  pub sound : Sound x.ram x.ledger
  pub kept : Kept (state_of x.ram x.ledger) x.caches

pub fit_holds : {x : Slices} → Fit x → Holds (machine x)
fit_holds h = record { core = h.sound.core; kept = h.kept }

abbrev of_both : State → Caches → M.Machine
of_both s k = record { state = s; caches = k }

machine_is : (y : Slices) (s : State) (k k' : Caches) → state_of y.ram y.ledger ≡ s → Looks y k → k ≡ k' →
    machine y ≡ of_both s (grown s k')
machine_is y s k k' e look q =
    ap (of_both (state_of y.ram y.ledger)) look
    ∙ ap (λ (z : State). of_both z (grown z k)) e
    ∙ ap (λ (z : Caches). of_both s (grown s z)) q

-- what is kept after a call is what the model says, refused or done
refused_one : (b : Bool) (s : State) (n : ℕ) → check b 1 (done s) ≡ refuse n → n ≡ 1
unfolding check
refused_one true s n e = let z : ◌≡◌ {A = ℕ} 0 1 = cc in absurd (omega arith)
refused_one false s n e = cc

kept_refused : (c : Call) (s : State) (pick : ℕ → ℕ) (n r : ℕ) (k : Caches) → defined c s pick ≡ refuse n → r ≡ n → kept_after c r k ≡ k
kept_refused (Create g) s pick n r k e q = refl
kept_refused (Give f g) s pick n r k e q = refl
kept_refused (Take f g) s pick n r k e q = refl
kept_refused (Map f g a w) s pick n r k e q = refl
kept_refused (Unmap a g) s pick n r k e q = refl
kept_refused (Share g f h w) s pick n r k e q = refl
kept_refused (Unshare g f h) s pick n r k e q = refl
kept_refused (Destroy g) s pick n r k e q = refl
kept_refused (Invalidated g) s pick n r k e q = ap (λ (z : ℕ). kept_after (Invalidated g) z k) (q ∙ one e)
  where
    one : invalidated s g ≡ refuse n → n ≡ 1
    one e = unfold invalidated in refused_one (is_guest g) (clean s g) n e

kept_done : (c : Call) (pick : ℕ → ℕ) (r : ℕ) (k : Caches) → r ≡ 0 → kept_after c r k ≡ M.keeps k (in_model c pick)
unfolding M.keeps
kept_done (Create g) pick r k q = refl
kept_done (Give f g) pick r k q = refl
kept_done (Take f g) pick r k q = refl
kept_done (Map f g a w) pick r k q = refl
kept_done (Unmap a g) pick r k q = refl
kept_done (Share g f h w) pick r k q = refl
kept_done (Unshare g f h) pick r k q = refl
kept_done (Destroy g) pick r k q = refl
kept_done (Invalidated g) pick r k q = ap (λ (z : ℕ). kept_after (Invalidated g) z k) q

module _ (x y : Slices) where
  pub after_call : (c : Call) (r : ℕ) → Called c r x y → machine y ≡ M.call (machine x) (in_model c (pick_of x.ledger))
  unfolding M.call M.settle
  after_call c r a =
      go (defined c (state_of x.ram x.ledger) (pick_of x.ledger)) refl a.answers.outcome
      ∙ ap (M.settle (machine x) (M.keeps x.caches (in_model c (pick_of x.ledger))))
      (defined_is c (state_of x.ram x.ledger) (pick_of x.ledger))
    where
      go : (u : Out) → defined c (state_of x.ram x.ledger) (pick_of x.ledger) ≡ u →
          Outcome u x.ram x.ledger r y.ram y.ledger →
          machine y ≡ M.settle (machine x) (M.keeps x.caches (in_model c (pick_of x.ledger))) u
      go (refuse n) e o =
          machine_is y (state_of x.ram x.ledger) (kept_after c r x.caches) x.caches
          (ap (λ (m : List ℕ). state_of m y.ledger) o.1 ∙ ap (λ (l : List ℕ). state_of x.ram l) o.2)
          a.looks (kept_refused c (state_of x.ram x.ledger) (pick_of x.ledger) n r x.caches e o.0)
      go (done s) e o = machine_is y s (kept_after c r x.caches) (M.keeps x.caches (in_model c (pick_of x.ledger))) o.1
          a.looks (kept_done c (pick_of x.ledger) r x.caches o.0)

  pub after_store : Fit x → (g f o b : ℕ) → Stored g f o b x y → machine y ≡ M.write (machine x) f o b
  unfolding M.write
  after_store h g f o b a =
      machine_is y (M.stored (state_of x.ram x.ledger) f o b) x.caches x.caches
      (ap (λ (m : List ℕ). state_of m y.ledger) a.ram_after
      ∙ ap (λ (l : List ℕ). state_of (set x.ram (f * 4096 + o) b) l) a.ledger_after
      ∙ state_put x.ram x.bytes b f o (within x.ram x.ledger h.sound f a.in_ram) a.in_frame x.ledger)
      a.looks refl

-- the code takes free frames as the model asks
pub chosen_so : {x : Slices} → Fit x → (c : Call) → M.Chooses (state_of x.ram x.ledger) (in_model c (pick_of x.ledger))
chosen_so {x} h c = chooses c (state_of x.ram x.ledger) (pick_of x.ledger) (chosen x.ledger h.sound.ledger_sound x.ram)

pub step_is_step : {x y : Slices} → Fit x → Step x y → M.Step (machine x) (machine y)
unfolding state_in
step_is_step {x} {y} h (called c r a) =
    subst (λ (z : M.Machine). M.Step (machine x) z) (sym (after_call x y c r a))
    (M.calls (in_model c (pick_of x.ledger)) (chosen_so h c))
step_is_step {x} {y} h (stored g f o b a) =
    subst (λ (z : M.Machine). M.Step (machine x) z) (sym (after_store x y h g f o b a))
    (M.stores g f o b a.lives a.in_ram a.in_frame a.is_byte a.reaches)

pub step_fits : {x y : Slices} → Fit x → Step x y → Fit y
step_fits {x} {y} h s = record { sound = go s after.core; kept = after.kept }
  where
    after : Holds (machine y)
    after = step_holds (step_is_step h s) (fit_holds h)

    go : Step x y → Core (state_of y.ram y.ledger) → Sound y.ram y.ledger
    go (called c r a) core = a.answers.sound
    go (stored g f o b a) core = record {
      ledger_sound = subst (λ (l : List ℕ). LedgerSound l) (sym a.ledger_after) h.sound.ledger_sound;
      ram_fits = ap (λ (m : List ℕ). length m) a.ram_after ∙ length-set x.ram (f * 4096 + o) b ∙ h.sound.ram_fits
          ∙ ap (λ (l : List ℕ). size_of l * 4096) (sym a.ledger_after);
      core = core;
    }
