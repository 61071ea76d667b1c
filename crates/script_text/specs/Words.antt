-- A line as text and words. Words are separated by spaces or tabs; `#` starts a comment, which may hold any byte;
-- a carriage return that is the line's last byte counts for nothing.
use Rattle.std.specs.Prelude.{ℕ, ◌-◌, ◌≤◌, ◌≡◌, Bool, true, false, cond, ◌&&◌, ◌||◌, List, [], ◌∷◌, ltb, leb, eqb, length, take, drop}
use Prim.Native.Char.{code}

unfoldable pub is_blank : ℕ → Bool
is_blank c = eqb c (code " ") || eqb c (code "\t")

-- a character that ends the text, with `left` bytes after it
unfoldable pub ends_text : ℕ → ℕ → Bool
ends_text c left = eqb c (code "#") || (eqb c (code "\r") && eqb left 0)

-- what is no comment and no line end
unfoldable pub text_of : List ℕ → List ℕ
text_of [] = []
text_of (c ∷ s) = cond (ends_text c (length s)) [] (c ∷ text_of s)

-- the character after those of ASCII that print
abbrev delete : ℕ
delete = 127

-- only printable characters of ASCII, and blanks
unfoldable pub is_text_byte : ℕ → Bool
is_text_byte c = eqb c (code "\t") || (leb (code " ") c && ltb c delete)

unfoldable pub is_text : List ℕ → Bool
is_text [] = true
is_text (c ∷ s) = is_text_byte c && is_text s

-- from the next word on
unfoldable pub after_blanks : List ℕ → List ℕ
after_blanks [] = []
after_blanks (c ∷ s) = cond (is_blank c) (after_blanks s) (c ∷ s)

-- the word at the start, and what comes after it
unfoldable pub leading_word : List ℕ → List ℕ
leading_word [] = []
leading_word (c ∷ s) = cond (is_blank c) [] (c ∷ leading_word s)

unfoldable pub after_word : List ℕ → List ℕ
after_word [] = []
after_word (c ∷ s) = cond (is_blank c) (c ∷ s) (after_word s)

-- the word of l that starts at `from` ends at r
pub record WordEnds (l : List ℕ) (from r : ℕ) : Type 0 where
  pub later : from ≤ r
  pub inside : r ≤ length l
  pub word : take (r - from) (drop from l) ≡ leading_word (drop from l)
  pub after : drop r l ≡ after_word (drop from l)

unfoldable pub same_text : List ℕ → List ℕ → Bool
same_text [] [] = true
same_text [] (y ∷ b) = false
same_text (x ∷ a) [] = false
same_text (x ∷ a) (y ∷ b) = eqb x y && same_text a b
