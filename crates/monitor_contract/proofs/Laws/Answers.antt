-- Laws of specs/Answers.
use mathlib.Core.Path.{◌≡◌, refl, sym, ap, ◌∙◌}
use mathlib.Core.Bool.{Bool, true, false, ◌&&◌}
use mathlib.Core.List.{List}
use Prim.Native.Nat.{ℕ, ◌<◌}
use native.Mathlib.Omega.{arith}
use lib.ListN.{length}
use Rattle.model.specs.State.{State}
use Rattle.model.specs.Operations.{Out, done, refusal, check}
use Rattle.model.specs.Cache.{Caches}
use Rattle.model.specs.Invariant.{Core, Kept}
use Rattle.model.proofs.Invariant.Answer.{Then, Good, core_alone, then_is}
use Rattle.ledger.specs.Layout.{size_of, state_in, state_of}
use Rattle.ledger.specs.LedgerSound.{LedgerSound, Changed}
use Rattle.ledger.specs.Sound.{Sound}
use Rattle.monitor_contract.specs.Answers.{Operation, out, Answers, Done}

-- the answer of what is done
pub answered : {o : Operation} {m l m' l' : List ℕ} → Done o m l m' l' → Answers o m l 0 m' l'
answered d = record { sound = d.sound; outcome = rw d.made (refl, refl) }

-- a check, as the code makes it: it goes on
pub goes_on : {r : ℕ} (b : Bool) (k : ℕ) (o : Out) → b ≡ true → r ≡ refusal o → r ≡ refusal (check b k o)
unfolding check
goes_on b k o e h = rw e h

-- a check that was passed, and is out of the way
pub through : (b : Bool) (k : ℕ) (o : Out) → 0 < k → refusal (check b k o) ≡ 0 → (b ≡ true) × (refusal o ≡ 0) × (check b k o ≡ o)
unfolding check
through true k o h e = (refl, e, refl)
through false k o h e = absurd (omega arith)

-- Sound after it: model's invariant holds of what the operation makes
core_sound : (m l m' l' : List ℕ) (o : Out) → Sound m l → Then Core o → o ≡ done (state_of m' l') → LedgerSound l' →
    length m' ≡ length m → (state_of m' l').size ≡ (state_of m l).size → Sound m' l'
unfolding state_in
core_sound m l m' l' o s core e ledger_sound len size = record {
  ledger_sound = ledger_sound;
  ram_fits = let a = s.ram_fits in let b : size_of l' ≡ size_of l = size in omega arith;
  core = then_is o (state_of m' l') core e;
}

-- the doing, from the state that it has made
module _ (o : Operation) (after : State) {m l m' l' : List ℕ} (s : Sound m l) where
  pub core_done : Then Core (out o m l) → out o m l ≡ done after → LedgerSound l' → length m' ≡ length m →
      after.size ≡ (state_of m l).size → state_of m' l' ≡ after → Done o m l m' l'
  core_done core e ledger_sound len size state = record {
    sound = core_sound m l m' l' (out o m l) s core made ledger_sound len
        (ap (λ (x : State). x.size) state ∙ size);
    made = made;
  }
    where
      made : out o m l ≡ done (state_of m' l')
      made = e ∙ ap done (sym state)

  -- the same of an operation that forgets nothing of what is kept
  pub good_done : ((k : Caches) → Kept (state_of m l) k → Good k (out o m l)) → out o m l ≡ done after → LedgerSound l' →
      length m' ≡ length m → after.size ≡ (state_of m l).size → state_of m' l' ≡ after →
      Done o m l m' l'
  good_done good = core_done (core_alone (state_of m l) (out o m l) good)

-- a frame is still there when another field has changed
pub still_low : {φ : State → State} {l l' : List ℕ} → Changed φ l l' → ((s : State) → (φ s).size ≡ s.size) → (f : ℕ) → f < size_of l →
    f < size_of l'
still_low {φ} {l} {l'} c keeps f h = let e : size_of l' ≡ size_of l = same in omega arith
  where
    same : size_of l' ≡ size_of l
    same = unfold state_in in ap (λ (x : State). x.size) (c.state l) ∙ keeps (state_of l l)

-- tests, as the code makes them
pub and_both : (a b : Bool) → a ≡ true → b ≡ true → (a && b) ≡ true
and_both a b e f = rw (e, f)
