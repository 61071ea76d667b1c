-- The command that a line is, or why it can't be read.
use Rattle.std.specs.Prelude.{ℕ, cond, List, [], ◌∷◌, ltb, leb, eqb, length, Option, Some, None, Result, Ok, Err}
use Rattle.script_text.specs.declared.numbers.NumberError.{NumberError}
use Rattle.script_text.specs.declared.numbers.NumberError.TheVariants.{TooLarge, NoNumber}
use Rattle.script_language.specs.declared.Command.{Command}
use Rattle.script_language.specs.declared.names.CommandName.{CommandName}
use Rattle.script_language.specs.declared.names.Form.{Form}
use Rattle.script_language.specs.declared.names.Form.TheVariants.{Number, Access, Level}
use Rattle.script_language.specs.declared.Reason.{Reason}
use Rattle.script_language.specs.declared.Reason.TheVariants.{UnknownCommand, TooFewWords, TooManyWords, NumberExpected, NumberTooLarge, AccessExpected, LevelExpected, NotText, LineTooLong}
use Rattle.script_language.specs.Names.{word_index, first_word, command_numbers, access_and_level, forms_of, argument_at, command_with}
use Rattle.script_text.specs.Text.{ascii}
use Rattle.script_text.specs.Words.{text_of, is_text, after_blanks, leading_word, after_word}
use Rattle.script_text.specs.Number.{number_of}

-- why a word is no number, as the script says it
abbrev pub reason_of : NumberError → Reason
reason_of TooLarge = NumberTooLarge
reason_of NoNumber = NumberExpected

abbrev pub number_argument : Result ℕ NumberError → Result ℕ Reason
number_argument (Ok v) = Ok v
number_argument (Err e) = Err (reason_of e)

-- a name's number is its place among the names: r is 0, w 1, x 2; el0 is 0, el1 1
unfoldable pub named_argument : List ℕ → List (List ℕ) → Reason → Result ℕ Reason
named_argument w names why = cond (ltb (word_index w names) (length names)) (Ok (word_index w names)) (Err why)

-- the argument that a word is
unfoldable pub read_argument : Form → List ℕ → Result ℕ Reason
read_argument Number w = number_argument (number_of w)
read_argument Access w = named_argument w (ascii "r" ∷ ascii "w" ∷ ascii "x" ∷ []) AccessExpected
read_argument Level w = named_argument w (ascii "el0" ∷ ascii "el1" ∷ []) LevelExpected

-- the values of a line's arguments, or why they can't be read
abbrev pub Values : Type 0
Values = Result (List ℕ) Reason

-- the first argument, and then the rest
abbrev pub joined : Result ℕ Reason → Values → Values
joined (Err r) rest = Err r
joined (Ok x) (Err r) = Err r
joined (Ok x) (Ok l) = Ok (x ∷ l)

-- the words of s as arguments of these forms, one after the other
unfoldable pub values_of : List Form → List ℕ → Values
values_of [] s = cond (eqb (length (after_blanks s)) 0) (Ok []) (Err TooManyWords)
values_of (f ∷ fs) s =
    cond (eqb (length (after_blanks s)) 0) (Err TooFewWords)
    (joined (read_argument f (leading_word (after_blanks s))) (values_of fs (after_word (after_blanks s))))

abbrev pub values_for : CommandName → List ℕ → Values
values_for v s = values_of (forms_of (command_numbers v) (access_and_level v)) s

-- the command of these values
abbrev pub read_from : CommandName → Values → Result Command Reason
read_from v (Ok l) = Ok (command_with v (argument_at l))
read_from v (Err r) = Err r

-- the command of a first word, with the words after it
unfoldable pub read_command : Option CommandName → List ℕ → Result Command Reason
read_command (Some v) s = read_from v (values_for v s)
read_command None s = Err UnknownCommand

-- what a line asks for: a command, or none
abbrev pub asked : Result Command Reason → Result (Option Command) Reason
asked (Ok c) = Ok (Some c)
asked (Err r) = Err r

-- the words of a line, which start with the first one
unfoldable pub read_words : List ℕ → Result (Option Command) Reason
read_words s = cond (eqb (length s) 0) (Ok None) (asked (read_command (first_word (leading_word s)) (after_word s)))

-- "a line of 4,096 bytes or more"
abbrev line_limit : ℕ
line_limit = 4096

-- what the line is, given without its line end
unfoldable pub read_line : List ℕ → Result (Option Command) Reason
read_line line =
    cond (leb line_limit (length line)) (Err LineTooLong) (
    cond (is_text (text_of line)) (read_words (after_blanks (text_of line))) (Err NotText))
