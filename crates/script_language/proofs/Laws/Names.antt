-- A word looked up among names, and in the table.
use Rattle.std.proofs.Common.{ℕ, suc, ◌+◌, ◌≡◌, refl, ap, ◌∙◌, Bool, true, false, cond, List, [], ◌∷◌, ◌++◌, length, map, Option, Some, None, Ok, Err, nat_lt, arith, Bor}
use Rattle.std.proofs.lemmas.List.{length-map}
use Rattle.std.specs.List.{position, position_or_len, find}
use Rattle.std.specs.Option.{ok_or, option_map}
use mathlib.Core.Bool.{not}
use Rattle.script_text.specs.Words.{same_text}
use Rattle.script_language.specs.declared.Reason.{Reason}
use Rattle.script_language.specs.declared.names.CommandName.{CommandName}
use Rattle.script_language.specs.Names.{Entry, command_table, operation_table, lookup, word_index, first_word, operation_word}
use Rattle.script_language.specs.Commands.{named_argument}

-- the place of the first name that is w
abbrev pub is_name : List ℕ → Bor (List ℕ) → Bool
is_name w x = same_text w x.now

place_first : (b : Bool) (n : ℕ) → cond (not b) (1 + n) 0 ≡ cond b 0 (suc n)
place_first true n = refl
place_first false n = omega arith

pub index_at : (w : List ℕ) (l : List (Bor (List ℕ))) → position_or_len (is_name w) l ≡ word_index w (map (λ (x : Bor (List ℕ)). x.now) l)
unfolding word_index
index_at w [] = refl
index_at w (x ∷ l) =
    place_first (same_text w x.now) _ ∙ rw (index_at w l) refl

-- its number, or why there is none
chosen : (b : Bool) (n : ℕ) (why : Reason) → ok_or (cond b (Some n) None) why ≡ cond b (Ok n) (Err why)
chosen true n why = refl
chosen false n why = refl

pub named_at : (w : List ℕ) (l : List (Bor (List ℕ))) (why : Reason) {r : Option ℕ} → r ≡ position (is_name w) l
    → ok_or r why ≡ named_argument w (map (λ (x : Bor (List ℕ)). x.now) l) why
unfolding named_argument
named_at w l why e =
    rw (
      e,
      chosen (nat_lt (position_or_len (is_name w) l) (length l)) (position_or_len (is_name w) l) why,
      index_at w l,
      length-map l (λ (x : Bor (List ℕ)). x.now),
    ) refl

-- a row of the code's table: what it names

abbrev pub Row : Type 0
Row = Bor (List ℕ) × CommandName

abbrev pub is_word : List ℕ → Row → Bool
is_word w x = same_text w x.0.now

abbrev entry_of : Row → Entry
entry_of x = record { word = x.0.now; name = x.1 }

abbrev name_of : Option Row → Option CommandName
name_of r = option_map (λ (x : Row). x.1) r

-- the rows are those of the definition's two tables
abbrev pub IsTable : List Row → Type 0
IsTable rows = map entry_of rows ≡ command_table ++ operation_table

named_first : (b : Bool) (x : Row) (r : Option Row) {other : Option CommandName} → name_of r ≡ other
    → name_of (cond b (Some x) r) ≡ cond b (Some x.1) other
named_first true x r h = refl
named_first false x r h = h

found : (w : List ℕ) (rows : List Row) → name_of (find (is_word w) rows) ≡ lookup w (map entry_of rows) None
unfolding lookup
found w [] = refl
found w (x ∷ rows) = named_first (is_word w x) x (find (is_word w) rows) (found w rows)

both_tables : (w : List ℕ) → lookup w (command_table ++ operation_table) None ≡ first_word w
unfolding first_word operation_word lookup
both_tables w = refl

-- r is what the search for w among the rows gave
module _ (w : List ℕ) (rows : List Row) (t : IsTable rows) (r : Option (Bor Row))
    (f : option_map (λ (x : Bor Row). x.now) r ≡ find (is_word w) rows) where
  looked_up : name_of (option_map (λ (x : Bor Row). x.now) r) ≡ first_word w
  looked_up = ap name_of f ∙ found w rows ∙ rw t (both_tables w)

  pub no_row : r ≡ None → None ≡ first_word w
  no_row h = rw h at looked_up

  pub row_names : {x : Bor Row} → r ≡ Some x → Some x.now.1 ≡ first_word w
  row_names h = rw h at looked_up
