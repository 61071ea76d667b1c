-- A word is the number of its eight bytes. The laws are said of any number of bytes, lowest first, so that each is one induction.
use Prim.Native.Nat.{ℕ, zero, suc, ◌+◌, ◌*◌, ◌^◌, ◌≤◌, ◌<◌, ◌/◌, ◌%◌}
use mathlib.Core.Path.{◌≡◌, sym, ap, ◌∙◌}
use mathlib.Core.List.{List}
use native.Mathlib.Nat.{add_assoc, add-zero, div-one}
use native.Mathlib.Omega.{arith}
use lib.ListN.{get_or}
use lib.Pow.{shr-shr}
use Rattle.memory.specs.Word.{word_at}

-- the number of n + 1 bytes from `at` on
unfoldable pub bytes_from : (n : ℕ) → List ℕ → ℕ → ℕ
bytes_from zero m at = get_or m at 0
bytes_from (suc n) m at = get_or m at 0 + 256 * bytes_from n m (at + 1)

pub word_bytes : (m : List ℕ) (at : ℕ) → word_at m at ≡ bytes_from 7 m at
unfolding word_at bytes_from
word_bytes m at = simp add_assoc

-- equal bytes make equal numbers
pub bytes_agree : (n : ℕ) (m l : List ℕ) (at to : ℕ) → ((i : ℕ) → i ≤ n → get_or m (at + i) 0 ≡ get_or l (to + i) 0)
    → bytes_from n m at ≡ bytes_from n l to
unfolding bytes_from
bytes_agree zero m l at to h = simp add-zero at (h 0 (omega arith))
bytes_agree (suc n) m l at to h =
    let first : get_or m at 0 ≡ get_or l to 0 = simp add-zero at (h 0 (omega arith)) in
    let rest = bytes_agree n m l (at + 1) (to + 1) (λ i p. simp add_assoc (h (1 + i) (omega arith))) in
    omega arith

-- byte k + 1 of a number is byte k of what is above its lowest byte
pub byte_above : (k w : ℕ) → w / 2 ^ (8 * suc k) ≡ w / 256 / 2 ^ (8 * k)
byte_above k w = ap (λ (i : ℕ). w / 2 ^ i) (omega arith) ∙ sym (shr-shr w 8 (8 * k))

-- bytes that are those of a number make up this number
pub bytes_made : (n : ℕ) (m : List ℕ) (at w : ℕ) → ((i : ℕ) → i ≤ n → get_or m (at + i) 0 ≡ w / 2 ^ (8 * i) % 256) → w / 2 ^ (8 * n) < 256
    → bytes_from n m at ≡ w
unfolding bytes_from
bytes_made zero m at w h top =
    let first : get_or m at 0 ≡ w % 256 = simp (add-zero, div-one) at (h 0 (omega arith)) in
    let low : w < 256 = simp div-one at top in
    omega arith
bytes_made (suc n) m at w h top =
    let first : get_or m at 0 ≡ w % 256 = simp (add-zero, div-one) at (h 0 (omega arith)) in
    let above : (i : ℕ) → i ≤ n → get_or m (at + 1 + i) 0 ≡ w / 256 / 2 ^ (8 * i) % 256 = λ i p. ap (λ (j : ℕ). get_or m j 0) (omega arith)
    ∙ h (suc i) (omega arith) ∙ ap (λ (x : ℕ). x % 256) (byte_above i w) in
    let rest = bytes_made n m (at + 1) (w / 256) above (rw byte_above at top) in
    omega arith

-- and the bytes of the number of bytes are these
module _ (m : List ℕ) (h : (i : ℕ) → get_or m i 0 < 256) where
  pub bytes_there : (n at k : ℕ) → k ≤ n → bytes_from n m at / 2 ^ (8 * k) % 256 ≡ get_or m (at + k) 0
  unfolding bytes_from
  bytes_there zero at zero l = let low = h at in simp (add-zero, div-one) (omega arith)
  bytes_there zero at (suc k) l = absurd (omega arith)
  bytes_there (suc n) at zero l = let low = h at in simp (add-zero, div-one) (omega arith)
  bytes_there (suc n) at (suc k) l =
      let low = h at in
      let above : (get_or m at 0 + 256 * bytes_from n m (at + 1)) / 256 ≡ bytes_from n m (at + 1) = omega arith in
      rw (byte_above, above) (bytes_there n (at + 1) k (omega arith) ∙ ap (λ (i : ℕ). get_or m i 0) (omega arith))
