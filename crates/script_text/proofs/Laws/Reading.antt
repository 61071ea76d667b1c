-- Reading a number character by character gives its value.
use Rattle.std.proofs.Common.{ℕ, ◌+◌, ◌*◌, ◌^◌, ◌≤◌, ◌<◌, ◌≡◌, refl, sym, Bool, true, false, cond, ◌&&◌, List, get_or, Option, Some, None, Ok, Err, SomeIff, add-one, arith}
use Rattle.std.proofs.lemmas.Bool.Decides.{nat_tests}
use Rattle.std.specs.Char.{digit_value as value_of_digit}
use native.Mathlib.Nat.{le-mul_of_pos_right}
use native.Mathlib.Decide.{dec_lt}
use lib.Dec.{ltb, leb}
use borrow.Author.Tests.{lt-ltb, lt-leb, le-ltb, le-leb}
use Rattle.script_text.specs.declared.numbers.NumberError.TheVariants.{NoNumber}
use Rattle.script_text.specs.Number.{Read, digit_value, value_of_first, all_digits, value_or_too_large, numeral_of_first, add_digit, add_character}

-- the library's digit is the definition's
pub digit_read : (c b : ℕ) (r : Option ℕ) → b ≤ 16 → SomeIff r (value_of_digit c < b) (value_of_digit c)
    → r ≡ cond (leb b (digit_value c)) None (Some (digit_value c))
unfolding digit_value
digit_read c b None h n = grind (arith, nat_tests)
digit_read c b (Some d) h s = grind (arith, nat_tests)

-- a digit more leaves what is too large too large
too_large_stays : (b d v : ℕ) → 0 < b → value_or_too_large (v * b + d) ≡ add_digit b d (value_or_too_large v)
unfolding value_or_too_large
too_large_stays b d v h =
    elim (dec_lt v (2 ^ 64)) [
      | yes p ↦ simp (lt-ltb _ _ p)
      | no p ↦ (
          let low : 2 ^ 64 ≤ v = omega arith in
          let more : v ≤ v * b = le-mul_of_pos_right v h in
          let high : 2 ^ 64 ≤ v * b + d = omega arith in
          simp (le-ltb _ _ low, le-ltb _ _ high))
    ]

read_step : (b d v : ℕ) (all : Bool) → 0 < b
    → cond (all && ltb d b) (value_or_too_large (v * b + d)) (Err NoNumber)
    ≡ cond (leb b d) (Err NoNumber) (add_digit b d (cond all (value_or_too_large v) (Err NoNumber)))
read_step b d v true h =
    elim (dec_lt d b) [
      | yes p ↦ simp (lt-ltb _ _ p, lt-leb _ _ p) (too_large_stays b d v h)
      | no p ↦ (let q : b ≤ d = omega arith in simp (le-ltb _ _ q, le-leb _ _ q))
    ]
read_step b d v false h =
    elim (dec_lt d b) [
      | yes p ↦ simp (lt-leb _ _ p)
      | no p ↦ (let q : b ≤ d = omega arith in simp (le-leb _ _ q))
    ]

-- nothing read yet; one character more
pub read_none : (b : ℕ) (s : List ℕ) → Ok 0 ≡ numeral_of_first b s 0
unfolding numeral_of_first all_digits value_of_first value_or_too_large
read_none b s = refl

pub read_more : {n : Read} (b : ℕ) (s : List ℕ) (k : ℕ) → 0 < b → n ≡ numeral_of_first b s k
    → add_character b (get_or s k 0) n ≡ numeral_of_first b s (k + 1)
unfolding add_character numeral_of_first all_digits value_of_first
read_more b s k h e = rw (e, add-one) (sym (read_step b _ _ (all_digits b s k) h))

pub ruleset readings = (read_none, read_more)
