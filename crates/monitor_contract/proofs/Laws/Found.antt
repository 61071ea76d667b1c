-- Laws of specs/Found.
use mathlib.Core.Path.{◌≡◌, refl, sym, ap, subst, ◌∙◌}
use mathlib.Core.Bool.{Bool, true, false}
use mathlib.Core.Option.{Option}
use mathlib.Core.List.{List}
use Prim.Native.Nat.{ℕ, ◌+◌, ◌*◌, ◌<◌}
use native.Mathlib.Omega.{arith}
use Rattle.memory.specs.Word.{word_at}
use Rattle.walk.specs.Both.{stage_2}
use Rattle.model.specs.State.{State}
use Rattle.model.specs.Translate.{Page}
use Rattle.model.specs.Operations.{Out, done, refusal, check}
use Rattle.model.specs.Bytes.{Image, access, comes}
use Rattle.model.proofs.Invariant.RoundTrip.{AskedAt, walk_asked}
use Rattle.ledger.specs.Layout.{root_of, state_in, state_of}
use Rattle.ledger.proofs.Laws.Words.{word_is}
use Rattle.ledger.specs.Sound.{Sound}
use Rattle.monitor_contract.specs.Found.{base_of, Finds, Nonzero}

-- the bytes of the slice are those of the state
image_of : (m l : List ℕ) → Sound m l → Image (state_of m l) (base_of l) m
unfolding state_in
image_of m l ok = record {
  base = refl;
  long = let a = ok.ram_fits in omega arith;
  words = λ f i _ k. sym (word_is m f i k) ∙ ap (word_at m) (omega arith);
}

root_is : (m l : List ℕ) (g : ℕ) → (state_of m l).root g ≡ root_of l g
unfolding state_in
root_is m l g = refl

-- model's round trip, on the bytes
pub finds_asked : (m l : List ℕ) → Sound m l → (g a : ℕ) (o : Option Page) → AskedAt g a o (state_of m l) → Finds g a o m l
finds_asked m l ok g a o x k low w = subst (λ (t : ℕ). (stage_2 m (base_of l) (base_of l + 4096 * t) (access w) (a + k)).result ≡
    comes (base_of l) k 0 w o) (root_is m l g)
    (walk_asked (image_of m l ok) x k low w)

pub tested : (b : Bool) (n : ℕ) (o : Out) → 0 < n → Nonzero o → Nonzero (check b n o)
unfolding check
tested true n o pos rest k e z = rest k e z
tested false n o pos rest k e z = let q : n ≡ k = ap (λ (x : Out). refusal x) e in omega arith

pub was_done : (s : State) → Nonzero (done s)
was_done s k e z = let q : ◌≡◌ {A = ℕ} 0 1 = cc in omega arith
