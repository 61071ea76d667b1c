-- docs/SCRIPT.md: "A number is decimal, or hexadecimal after `0x`, below 2^64."
-- The digits a to f may be capitals. What has no digit, or another character among its digits, is no number.
use Rattle.std.specs.Prelude.{ℕ, zero, suc, ◌+◌, ◌-◌, ◌*◌, ◌^◌, Bool, true, cond, ◌&&◌, List, ltb, leb, eqb, length, get_or, drop, Result, Ok, Err}
use Prim.Native.Char.{code}
use Rattle.script_text.specs.declared.numbers.NumberError.{NumberError}
use Rattle.script_text.specs.declared.numbers.NumberError.TheVariants.{TooLarge, NoNumber}

-- a number below 2^64, or why there is none
abbrev pub Read : Type 0
Read = Result ℕ NumberError

-- more than any digit is worth
abbrev pub no_digit : ℕ
no_digit = 99

-- what a character is worth as a digit: 0 to 9, A to F, a to f
unfoldable pub digit_value : ℕ → ℕ
digit_value c =
    cond (ltb c (code "0")) no_digit (cond (leb c (code "9")) (c - code "0") (
    cond (ltb c (code "A")) no_digit (cond (leb c (code "F")) (c - code "A" + 10) (
    cond (ltb c (code "a")) no_digit (cond (leb c (code "f")) (c - code "a" + 10) no_digit)))))

-- the value of the first k digits of s in base b
unfoldable pub value_of_first : ℕ → List ℕ → ℕ → ℕ
value_of_first b s zero = 0
value_of_first b s (suc k) = value_of_first b s k * b + digit_value (get_or s k 0)

-- whether the first k characters of s are all digits in base b
unfoldable pub all_digits : ℕ → List ℕ → ℕ → Bool
all_digits b s zero = true
all_digits b s (suc k) = all_digits b s k && ltb (digit_value (get_or s k 0)) b

-- "below 2^64"
unfoldable pub value_or_too_large : ℕ → Read
value_or_too_large v = cond (ltb v (2 ^ 64)) (Ok v) (Err TooLarge)

-- what the first k characters of s are as a number
unfoldable pub numeral_of_first : ℕ → List ℕ → ℕ → Read
numeral_of_first b s k = cond (all_digits b s k) (value_or_too_large (value_of_first b s k)) (Err NoNumber)

unfoldable pub read_numeral : ℕ → List ℕ → Read
read_numeral b s = cond (eqb (length s) 0) (Err NoNumber) (numeral_of_first b s (length s))

-- does it begin with 0x?
unfoldable pub starts_with_0x : List ℕ → Bool
starts_with_0x s = leb 2 (length s) && eqb (get_or s 0 0) (code "0") && eqb (get_or s 1 0) (code "x")

unfoldable pub number_of : List ℕ → Read
number_of s = cond (starts_with_0x s) (read_numeral 16 (drop 2 s)) (read_numeral 10 s)

-- the same character by character, as the code reads: n with the digit d more
abbrev pub add_digit : ℕ → ℕ → Read → Read
add_digit b d (Ok v) = value_or_too_large (v * b + d)
add_digit b d (Err e) = Err e

-- n with the character c more
unfoldable pub add_character : ℕ → ℕ → Read → Read
add_character b c n = cond (leb b (digit_value c)) (Err NoNumber) (add_digit b (digit_value c) n)
