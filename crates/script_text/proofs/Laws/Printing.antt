-- Texts that are put one after the other, and the digits of a number.
use Prim.Native.Nat.{ℕ, zero, suc, ◌+◌, ◌-◌, ◌/◌, ◌%◌, ◌≤◌, ◌<◌, min}
use Prim.Native.Char.{code}
use mathlib.Core.Path.{◌≡◌, refl, sym, ap, ◌∙◌}
use mathlib.Core.Bool.{Bool, true, false, cond, not}
use mathlib.Core.List.{List, [], ◌∷◌, ◌++◌, append_assoc, append-nil}
use Rattle.std.proofs.Common.{Option, Some, None, unwrap_or, nat_eq, nat_lt}
use Rattle.std.specs.List.{position, position_or_len}
use Rattle.std.proofs.lemmas.Bool.Decides.{nat_tests}
use native.Mathlib.Nat.{not-suc-le-zero}
use native.Mathlib.Omega.{arith}
use lib.Dec.{eqb}
use lib.ListN.{length, set, take, drop, length-append, length-drop}
use lib.Seq.{take_all, drop-length, set_split, drop_at, length-take-le}
use Rattle.script_text.specs.Digits.{digit_character, digits, without_zeros}
use Rattle.script_text.specs.Wrote.{Wrote}

-- one text after another

pub wrote_then : {a b : ℕ} {m l k : List ℕ} {at r q : ℕ} {s t : List ℕ}
    → Wrote a m at l r s → Wrote b l r k q t → Wrote (a + b) m at k q (s ++ t)
wrote_then {a} {b} {m} {l} {k} {at} {r} {q} {s} {t} v w =
    let v1 = v.near in
    let v2 = v.next in
    let w1 = w.near in
    let w2 = w.next in
    record {
      near = omega arith;
      next = omega (arith, length-append s t);
      there = w.there ∙ rw (v.there, append_assoc);
    }

pub wrote_within : {a b : ℕ} {m l : List ℕ} {at r : ℕ} {s t : List ℕ} → Wrote a m at l r s → a ≤ b → s ≡ t → Wrote b m at l r t
wrote_within {a} {b} w h e =
    let w1 = w.near in
    record { near = omega arith; next = rw (← e) w.next; there = rw (← e) w.there }

-- digits, the lowest first

pub spell_none : (out : List ℕ) (b n : ℕ) {k : ℕ} → length out ≡ k → digits b k n ≡ digits b k n ++ drop k out
spell_none out b n h = rw (← h, drop-length) (sym (append-nil (digits b (length out) n)))

spell_step : (out : List ℕ) (b j n : ℕ) → j < length out
    → digits b (suc j) n ++ drop (suc j) out ≡ digits b j (n / b) ++ drop j (set out j (digit_character (n % b)))
unfolding digits
spell_step out b j n h =
    rw (
      set_split out j (digit_character (n % b)) h,
      drop_at (take j out) (digit_character (n % b) ∷ drop (suc j) out) j (length-take-le j out (omega arith)),
      append_assoc,
    )

pub spell_more : {all : List ℕ} (out : List ℕ) (b i n : ℕ) → 0 < i → i ≤ length out → all ≡ digits b i n ++ drop i out
    → all ≡ digits b (i - 1) (n / b) ++ drop (i - 1) (set out (i - 1) (digit_character (n % b)))
spell_more out b zero n p h e = absurd (not-suc-le-zero p)
spell_more out b (suc j) n p h e =
    let n : suc j - 1 ≡ j = omega arith in
    e ∙ rw n (spell_step out b j _ (omega arith))

-- the zeros in front

abbrev pub is_shown : ℕ → Bool
is_shown d = not (nat_eq d (code "0"))

zero_first : (b : Bool) (n k d : ℕ) (l : List ℕ) {m : List ℕ} → drop (min n k) l ≡ m
    → drop (min (cond (not (not b)) (1 + n) 0) (suc k)) (d ∷ l) ≡ cond b m (d ∷ l)
zero_first true n k d l h = let e : min (1 + n) (suc k) ≡ suc (min n k) = omega arith in rw e h
zero_first false n k d l h = let e : min 0 (suc k) ≡ 0 = omega arith in rw e refl

zeros_in_front : (d : ℕ) (l : List ℕ) → drop (min (position_or_len is_shown (d ∷ l)) (length l)) (d ∷ l) ≡ without_zeros (d ∷ l)
unfolding without_zeros
zeros_in_front d [] = let e : min (position_or_len is_shown (d ∷ [])) 0 ≡ 0 = omega arith in rw e refl
zeros_in_front d (e ∷ l) = zero_first (nat_eq d (code "0")) _ _ d (e ∷ l) (zeros_in_front e l)

place_or_last : (n k : ℕ) → unwrap_or (cond (nat_lt n (suc k)) (Some n) None) k ≡ min n k
place_or_last n k = grind (arith, nat_tests)

-- the first digit that is shown, or the last one
pub zeros_passed : (l : List ℕ) (k : ℕ) {r : Option ℕ} {from : ℕ} → length l ≡ suc k → r ≡ position is_shown l → from ≡ unwrap_or r k
    → drop from l ≡ without_zeros l
zeros_passed [] k h p e = absurd (omega arith)
zeros_passed (d ∷ l) k h p e =
    let n : k ≡ length l = omega arith in
    rw (e, p, n, place_or_last (position_or_len is_shown (d ∷ l)) (length l)) (zeros_in_front d l)

pub length_digits : (b k n : ℕ) → length (digits b k n) ≡ k
unfolding digits
length_digits b zero n = refl
length_digits b (suc k) n = simp length-append (omega (arith, length_digits b k (n / b)))

pub spell_all : {all : List ℕ} (out : List ℕ) (b i n : ℕ) → i ≤ 0 → all ≡ digits b i n ++ drop i out → out ≡ all
unfolding digits
spell_all out b zero n h e = sym e
spell_all out b (suc i) n h e = absurd (not-suc-le-zero h)

-- the digits without the zeros in front, put from their array
part_all : (k : ℕ) (l : List ℕ) (from : ℕ) → length l ≡ k → take (k - from) (drop from l) ≡ drop from l
part_all k l from h = take_all (k - from) (drop from l) (omega (arith, length-drop from l))

pub without_zeros_wrote : (b k : ℕ) (l : List ℕ) (n from : ℕ) {m out : List ℕ} {at r : ℕ}
    → l ≡ digits b k n → drop from l ≡ without_zeros l
    → Wrote (length (take (k - from) (drop from l))) m at out r (take (k - from) (drop from l))
    → Wrote k m at out r (without_zeros (digits b k n))
without_zeros_wrote b k l n from e z w =
    let size : length l ≡ k = ap length e ∙ length_digits b k n in
    let all = part_all k l from size in
    wrote_within w (omega (arith, ap length all, length-drop from l)) (all ∙ z ∙ ap without_zeros e)

pub wrote_none : {b : ℕ} {m : List ℕ} → Wrote b m 0 m 0 []
wrote_none = record { near = omega arith; next = refl; there = refl }

pub digits_wrote : (b k n : ℕ) {l m out : List ℕ} {at r : ℕ}
    → l ≡ digits b k n → Wrote (length l) m at out r l → Wrote k m at out r (digits b k n)
digits_wrote b k n e w = wrote_within w (omega (arith, ap length e, length_digits b k n)) e

pub ruleset one_after_another = (wrote_then, digits_wrote)

pub take_short : (n : ℕ) (l : List ℕ) → length (take n l) ≤ n
take_short zero l = omega arith
take_short (suc n) [] = omega arith
take_short (suc n) (x ∷ l) = let h = take_short n l in omega arith
