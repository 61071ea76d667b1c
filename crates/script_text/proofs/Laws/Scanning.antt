-- A text looked through: what specs/Words.antt says of it, by the place of its first byte of a kind.
use Rattle.std.proofs.Common.{ℕ, suc, ◌+◌, ◌-◌, ◌≤◌, ◌<◌, ◌≡◌, refl, sym, ap, Bool, true, false, cond, ◌&&◌, List, [], ◌∷◌, ◌++◌, length, take, drop, Option, Some, None, unwrap_or, nat_eq, arith, length-append, length-drop, ◌∙◌}
use Prim.Native.Char.{code}
use mathlib.Core.Bool.{not}
use Rattle.std.specs.List.{position, position_or_len, list_all}
use Rattle.std.specs.Str.{bytes_eq}
use Rattle.std.proofs.lemmas.Bool.Decides.{nat_tests}
use Rattle.std.proofs.lemmas.Grind.{common_steps}
use Rattle.std.proofs.lemmas.List.Sums.{prefix_len-le-length}
use Rattle.std.proofs.lemmas.List.{drop-drop, take-append-le}
use Rattle.std.specs.Option.{MatchOption}
use denote.Ref.{Bor}
use lib.Seq.{take_all}
use Rattle.script_text.specs.Words.{is_blank, ends_text, text_of, is_text_byte, is_text, after_blanks, leading_word, after_word, WordEnds, same_text}

-- a part that goes to the end
pub rest : (n : ℕ) (l : List ℕ) → take (length l - n) (drop n l) ≡ drop n l
rest n l = take_all (length l - n) (drop n l) (omega (arith, length-drop n l))

-- the first place of a kind, or the end

pub place_within : (p : ℕ → Bool) (l : List ℕ) → position_or_len p l ≤ length l
place_within p l = prefix_len-le-length (λ x. not (p x)) l

pub place_or_end : (p : ℕ → Bool) (l : List ℕ) {r : Option ℕ} → r ≡ position p l → unwrap_or r (length l) ≡ position_or_len p l
place_or_end p l {r} e = let h = place_within p l in rw e (grind (arith, common_steps))

from_place : (b : Bool) (n c : ℕ) (l : List ℕ) {m : List ℕ} → drop n l ≡ m → drop (cond (not b) (1 + n) 0) (c ∷ l) ≡ cond b (c ∷ l) m
from_place true n c l h = refl
from_place false n c l h = let e : 1 + n ≡ suc n = omega arith in rw e h

before_place : (b : Bool) (n c : ℕ) (l : List ℕ) {m : List ℕ} → take n l ≡ m → take (cond (not b) (1 + n) 0) (c ∷ l) ≡ cond b [] (c ∷ m)
before_place true n c l h = refl
before_place false n c l h = let e : 1 + n ≡ suc n = omega arith in rw (e, h) refl

-- text throughout

pub all_text : (l : List ℕ) → list_all is_text_byte l ≡ is_text l
unfolding is_text
all_text [] = refl
all_text (c ∷ l) = ap (λ (b : Bool). is_text_byte c && b) (all_text l)

-- where a word starts, and where it ends

pub after_blanks_at : (l : List ℕ) → drop (position_or_len (λ c. not (is_blank c)) l) l ≡ after_blanks l
unfolding after_blanks
after_blanks_at [] = refl
after_blanks_at (c ∷ l) = from_place (not (is_blank c)) _ c l (after_blanks_at l) ∙ exchanged (is_blank c)
  where
    exchanged : (b : Bool) → cond (not b) (c ∷ l) (after_blanks l) ≡ cond b (after_blanks l) (c ∷ l)
    exchanged true = refl
    exchanged false = refl

pub word_at : (l : List ℕ) → (take (position_or_len is_blank l) l ≡ leading_word l) × (drop (position_or_len is_blank l) l ≡ after_word l)
unfolding leading_word after_word
word_at [] = (refl, refl)
word_at (c ∷ l) = (before_place (is_blank c) _ c l (word_at l).0, from_place (is_blank c) _ c l (word_at l).1)

module _ (s : List ℕ) (from : ℕ) {n : ℕ} {r : Option ℕ} (h : from ≤ length s)
    (e : n ≡ unwrap_or r (length (take (length s - from) (drop from s)))) where
  place_from : (p : ℕ → Bool) → r ≡ position p (drop from s) → n ≡ position_or_len p (drop from s)
  place_from p k = e ∙ rw (rest from s) (place_or_end p (drop from s) k)

  inside_from : (p : ℕ → Bool) → r ≡ position p (drop from s) → from + n ≤ length s
  inside_from p k = omega (arith, place_from p k, place_within p (drop from s), length-drop from s)

  pub word_starts : r ≡ position (λ c. not (is_blank c)) (drop from s)
      → (from + n ≤ length s) × (drop (from + n) s ≡ after_blanks (drop from s))
  word_starts k = (
    inside_from _ k,
    sym (drop-drop n from s) ∙ ap (λ (i : ℕ). drop i (drop from s)) (place_from _ k) ∙ after_blanks_at (drop from s),
  )

  pub word_ends : r ≡ position is_blank (drop from s) → WordEnds s from (from + n)
  word_ends k =
      let i : from + n - from ≡ n = omega arith in
      record {
        later = omega arith;
        inside = inside_from _ k;
        word = rw i (ap (λ (i : ℕ). take i (drop from s)) (place_from _ k) ∙ (word_at (drop from s)).0);
        after = sym (drop-drop n from s) ∙ ap (λ (i : ℕ). drop i (drop from s)) (place_from _ k) ∙ (word_at (drop from s)).1;
      }

-- where the text ends: at a comment, and before a carriage return that is the line's last byte

abbrev pub is_comment : ℕ → Bool
is_comment c = nat_eq c (code "#")

abbrev pub line_end : List ℕ
line_end = code "\r" ∷ []

ends_inside : (c n : ℕ) → 0 < n → ends_text c n ≡ is_comment c
unfolding ends_text
ends_inside c n h = grind (arith, nat_tests)

ends_last : (c : ℕ) → (c ≡ code "\r" → ⊥) → ends_text c 0 ≡ is_comment c
unfolding ends_text
ends_last c h = grind (arith, nat_tests)

alone : [] ≡ text_of line_end
unfolding text_of ends_text
alone = refl

pub text_before_return : (l : List ℕ) → take (position_or_len is_comment l) l ≡ text_of (l ++ line_end)
unfolding text_of
text_before_return [] = alone
text_before_return (c ∷ l) =
    rw (ends_inside c (length (l ++ line_end)) (omega (arith, length-append l line_end)))
    (before_place (is_comment c) _ c l (text_before_return l))

pub text_to_end : (l : List ℕ) → ((t : List ℕ) → l ≡ t ++ line_end → ⊥) → take (position_or_len is_comment l) l ≡ text_of l
unfolding text_of
text_to_end [] n = refl
text_to_end (c ∷ []) n = rw (ends_last c (λ e. n [] (rw e))) (before_place (is_comment c) 0 c [] refl)
text_to_end (c ∷ d ∷ l) n =
    rw (ends_inside c (length (d ∷ l)) (omega arith))
    (before_place (is_comment c) _ c (d ∷ l) (text_to_end (d ∷ l) (λ t e. n (c ∷ t) (rw e))))

-- t is what is left of the line without that
pub text_ends : (line t : Bor (List ℕ)) (r : Option (Bor (List ℕ))) {n : ℕ}
    → MatchOption r ((front : List ℕ) → line.now ≡ front ++ line_end → ⊥) (λ x. line.now ≡ x.now ++ line_end)
    → t ≡ unwrap_or r line → n ≡ position_or_len is_comment t.now → (n ≤ length line.now) × (take n line.now ≡ text_of line.now)
text_ends line t None h e k = rw (k, e) (place_within is_comment line.now, text_to_end line.now h)
text_ends line t (Some x) {n} h e k =
    let m : n ≤ length x.now = rw (k, e) (place_within is_comment x.now) in
    rw h (omega (arith, length-append x.now line_end), take-append-le n x.now line_end m ∙ rw (k, e) (text_before_return x.now))

-- two texts

pub same_bytes : (a b : List ℕ) → bytes_eq a b ≡ same_text a b
unfolding same_text
same_bytes [] [] = refl
same_bytes [] (y ∷ b) = refl
same_bytes (x ∷ a) [] = refl
same_bytes (x ∷ a) (y ∷ b) = ap (λ (t : Bool). nat_eq x y && t) (same_bytes a b)
