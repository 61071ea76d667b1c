-- The table of the script language (docs/SCRIPT.md): each command's word, its arguments, and the command that they make.
use Rattle.std.specs.Prelude.{ℕ, suc, cond, List, [], ◌∷◌, ◌++◌, get_or, take, replicate, Option, Some, None}
use Prim.Native.String.{String}
use Rattle.script_language.specs.declared.names.CommandName.{CommandName}
use Rattle.script_language.specs.declared.names.CommandName.TheVariants.{Setup, Word, Peek, Stage2, Walk, Translation, OneFrame, OneGuest, WholeLedger, Operating}
use Rattle.script_language.specs.declared.names.OperationName.{OperationName}
use Rattle.script_language.specs.declared.names.OperationName.TheVariants.{Creating, Giving, Mapping, Unmapping, Sharing, Unsharing, Taking, Destroying, Invalidating}
use Rattle.script_language.specs.declared.names.Form.{Form}
use Rattle.script_language.specs.declared.names.Form.TheVariants.{Number, Access, Level}
use Rattle.script_language.specs.declared.Operation.{Operation}
use Rattle.script_language.specs.declared.Operation.TheVariants.{Create, Give, Map, Unmap, Share, Unshare, Take, Destroy, Invalidated}
use Rattle.script_language.specs.declared.Command.{Command}
use Rattle.script_language.specs.declared.Command.TheVariants.{SetUp, StoreWord, Operate, Ask}
use Rattle.script_language.specs.declared.Question.TheVariants.{PeekWord, WalkStage2, WalkBoth, Translate, Frame, Guest, Ledger}
use Rattle.script_text.specs.Text.{ascii}
use Rattle.script_text.specs.Words.{same_text}

-- a command's word, and what it asks for
pub record Entry : Type 0 where
  pub word : List ℕ
  pub name : CommandName

abbrev pub entry : String → CommandName → Entry
entry w v = record { word = ascii w; name = v }

-- the operations of the monitor
abbrev pub operation_table : List Entry
operation_table =
    entry "create" (Operating Creating) ∷
    entry "give" (Operating Giving) ∷
    entry "map" (Operating Mapping) ∷
    entry "unmap" (Operating Unmapping) ∷
    entry "share" (Operating Sharing) ∷
    entry "unshare" (Operating Unsharing) ∷
    entry "take" (Operating Taking) ∷
    entry "destroy" (Operating Destroying) ∷
    entry "invalidated" (Operating Invalidating) ∷
    []

-- the other commands
abbrev pub command_table : List Entry
command_table =
    entry "setup" Setup ∷
    entry "word" Word ∷
    entry "peek" Peek ∷
    entry "stage2" Stage2 ∷
    entry "walk" Walk ∷
    entry "translate" Translation ∷
    entry "frame" OneFrame ∷
    entry "guest" OneGuest ∷
    entry "ledger" WholeLedger ∷
    []

-- what the word w asks for by a table, and `other` where it is none of its words
unfoldable pub lookup : List ℕ → List Entry → Option CommandName → Option CommandName
lookup w [] other = other
lookup w (e ∷ t) other = cond (same_text w e.word) (Some e.name) (lookup w t other)

-- the operation that w names
unfoldable pub operation_word : List ℕ → Option CommandName
operation_word w = lookup w operation_table None

-- the command that w names
unfoldable pub first_word : List ℕ → Option CommandName
first_word w = lookup w command_table (operation_word w)

-- the place of w in a list of words; where it is none of them, their number
unfoldable pub word_index : List ℕ → List (List ℕ) → ℕ
word_index w [] = 0
word_index w (x ∷ l) = cond (same_text w x) 0 (suc (word_index w l))

-- what follows the word: so many numbers
unfoldable pub operation_numbers : OperationName → ℕ
operation_numbers Creating = 1
operation_numbers Giving = 2
operation_numbers Mapping = 4
operation_numbers Unmapping = 2
operation_numbers Sharing = 4
operation_numbers Unsharing = 3
operation_numbers Taking = 2
operation_numbers Destroying = 1
operation_numbers Invalidating = 1

unfoldable pub command_numbers : CommandName → ℕ
command_numbers Setup = 3
command_numbers Word = 2
command_numbers Peek = 1
command_numbers Stage2 = 2
command_numbers Walk = 3
command_numbers Translation = 2
command_numbers OneFrame = 1
command_numbers OneGuest = 1
command_numbers WholeLedger = 0
command_numbers (Operating d) = operation_numbers d

-- and then, for one stage, a kind of access; for both stages, that and an exception level
unfoldable pub access_and_level : CommandName → ℕ
access_and_level Setup = 0
access_and_level Word = 0
access_and_level Peek = 0
access_and_level Stage2 = 1
access_and_level Walk = 2
access_and_level Translation = 1
access_and_level OneFrame = 0
access_and_level OneGuest = 0
access_and_level WholeLedger = 0
access_and_level (Operating d) = 0

-- n numbers, and then k of the access and the level
unfoldable pub forms_of : ℕ → ℕ → List Form
forms_of n k = replicate n Number ++ take k (Access ∷ Level ∷ [])

-- `walk` has five, and no command has more
abbrev pub most_arguments : ℕ
most_arguments = 5

-- the argument at each place
abbrev pub argument_at : List ℕ → ℕ → ℕ
argument_at a i = get_or a i 0

-- `create G`, `give F G`, `map F G A R`, `unmap A G`, `share G F H W`, `unshare G F H`, `take F G`, `destroy G`, `invalidated G`
unfoldable pub operation_with : OperationName → (ℕ → ℕ) → Operation
operation_with Creating a = Create (a 0)
operation_with Giving a = Give (a 0) (a 1)
operation_with Mapping a = Map (a 0) (a 1) (a 2) (a 3)
operation_with Unmapping a = Unmap (a 0) (a 1)
operation_with Sharing a = Share (a 0) (a 1) (a 2) (a 3)
operation_with Unsharing a = Unshare (a 0) (a 1) (a 2)
operation_with Taking a = Take (a 0) (a 1)
operation_with Destroying a = Destroy (a 0)
operation_with Invalidating a = Invalidated (a 0)

-- `setup N B K`, `word A V`, `peek A`, `stage2 ROOT IPA ACCESS`, `walk ROOT1 ROOT2 VA ACCESS EL`,
-- `translate G IPA ACCESS`, `frame F`, `guest G`, `ledger`
unfoldable pub command_with : CommandName → (ℕ → ℕ) → Command
command_with Setup a = SetUp (a 0) (a 1) (a 2)
command_with Word a = StoreWord (a 0) (a 1)
command_with Peek a = Ask (PeekWord (a 0))
command_with Stage2 a = Ask (WalkStage2 (a 0) (a 1) (a 2))
command_with Walk a = Ask (WalkBoth (a 0) (a 1) (a 2) (a 3) (a 4))
command_with Translation a = Ask (Translate (a 0) (a 1) (a 2))
command_with OneFrame a = Ask (Frame (a 0))
command_with OneGuest a = Ask (Guest (a 0))
command_with WholeLedger a = Ask Ledger
command_with (Operating d) a = Operate (operation_with d a)
