-- A number as text: decimal, hexadecimal with no leading zeros, and hexadecimal with sixteen digits.
use Rattle.std.specs.Prelude.{ℕ, zero, suc, ◌+◌, ◌-◌, ◌/◌, ◌%◌, cond, List, [], ◌∷◌, ◌++◌, ltb, eqb}
use Prim.Native.Char.{code}
use Rattle.script_text.specs.Text.{ascii}

-- the character of a digit below 16: 0 to 9, then a to f
unfoldable pub digit_character : ℕ → ℕ
digit_character d = cond (ltb d 10) (code "0" + d) (code "a" + (d - 10))

-- the last k digits of n in base b, the highest first
unfoldable pub digits : ℕ → ℕ → ℕ → List ℕ
digits b zero n = []
digits b (suc k) n = digits b k (n / b) ++ (digit_character (n % b) ∷ [])

-- without the zeros in front, but with the last digit
unfoldable pub without_zeros : List ℕ → List ℕ
without_zeros [] = []
without_zeros (d ∷ []) = d ∷ []
without_zeros (d ∷ e ∷ l) = cond (eqb d (code "0")) (without_zeros (e ∷ l)) (d ∷ e ∷ l)

-- in base 10 and above these hold every number below 2^64
abbrev pub most_digits : ℕ
most_digits = 20

-- and these in base 16
abbrev pub word_digits : ℕ
word_digits = 16

-- n in base b with no zeros in front
unfoldable pub numeral_of : ℕ → ℕ → List ℕ
numeral_of b n = without_zeros (digits b most_digits n)

unfoldable pub decimal_of : ℕ → List ℕ
decimal_of n = numeral_of 10 n

unfoldable pub hex_of : ℕ → List ℕ
hex_of n = ascii "0x" ++ numeral_of 16 n

unfoldable pub sixteen_digits_of : ℕ → List ℕ
sixteen_digits_of n = ascii "0x" ++ digits 16 word_digits n
