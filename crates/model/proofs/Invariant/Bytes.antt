-- Bytes of words, and bytes that an operation leaves.
use mathlib.Core.Path.{◌≡◌, refl, ap, ◌∙◌}
use mathlib.Core.Bool.{false}
use Prim.Native.Nat.{ℕ, zero, suc, ◌+◌, ◌*◌, ◌<◌, ◌/◌, ◌%◌}
use native.Mathlib.Omega.{arith}
use lib.Dec.{eqb}
use Rattle.model.specs.State.{State, KindOfFrame, byte_of, put_byte, byte}
use Rattle.model.specs.Operations.{done}
use Rattle.model.specs.Machine.{Operation, answer, Chooses}
use Rattle.model.specs.State.{kind_number, FREE, TABLE}
use Rattle.model.specs.Invariant.{Core}
use Rattle.model.proofs.Invariant.Answer.{then_is}
use Rattle.model.proofs.Invariant.Orderly.{orderly}

pub byte_put_same : (k w x : ℕ) → x < 256 → byte_of k (put_byte k w x) ≡ x
unfolding byte_of put_byte
byte_put_same zero w x l = omega arith
byte_put_same (suc k) w x l = let z : (put_byte k (w / 256) x * 256 + w % 256) / 256 ≡ put_byte k (w / 256) x =
    omega arith in rw z (byte_put_same k (w / 256) x l)

pub byte_put_other : (j k w x : ℕ) → x < 256 → (j ≡ k → ⊥) → byte_of j (put_byte k w x) ≡ byte_of j w
unfolding byte_of put_byte
byte_put_other zero zero w x l ne = absurd (ne refl)
byte_put_other zero (suc k) w x l ne = omega arith
byte_put_other (suc j) zero w x l ne = let z : (w / 256 * 256 + x) / 256 ≡ w / 256 = omega arith in rw z
byte_put_other (suc j) (suc k) w x l ne =
    let z : (put_byte k (w / 256) x * 256 + w % 256) / 256 ≡ put_byte k (w / 256) x = omega arith in
    rw z (byte_put_other j k (w / 256) x l (λ (e : j ≡ k). ne (ap suc e)))

pub byte_zero : (k : ℕ) → byte_of k 0 ≡ 0
unfolding byte_of
byte_zero zero = refl
byte_zero (suc k) = byte_zero k

pub bytes_stay : (s : State) (c : Core s) (o : Operation) → Chooses s o → (s' : State) → answer s o ≡ done s' → (f : ℕ) (x : KindOfFrame) →
    s.kind f ≡ x → eqb FREE (kind_number x) ≡ false → eqb TABLE (kind_number x) ≡ false →
    (i : ℕ) → byte s' f i ≡ byte s f i
unfolding byte
bytes_stay s c o ch s' e f x k a b i = ap (byte_of (i % 8)) ((then_is (answer s o) s' (orderly s c o ch) e).words f x k a b (i / 8))

pub bytes_zero : (s : State) (f : ℕ) → ((i : ℕ) → s.word f i ≡ 0) → (i : ℕ) → byte s f i ≡ 0
unfolding byte
bytes_zero s f z i = ap (byte_of (i % 8)) (z (i / 8)) ∙ byte_zero (i % 8)
