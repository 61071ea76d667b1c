-- docs/SCRIPT.md: what `frame` and `ledger` print.
use Rattle.std.specs.Prelude.{Bool, cond, List, [], ◌++◌, ℕ, zero, suc, ◌*◌, eqb, leb, length}
use Rattle.model.specs.State.{State, guests}
use Rattle.monitor_query.specs.declared.FrameKind.{FrameKind}
use Rattle.monitor_query.specs.declared.FrameKind.TheVariants.{Outside, Monitor, Free, Table, Draining, Page}
use Rattle.monitor_query.specs.Questions.{frame_told, share_told}
use Rattle.script_text.specs.Text.{ascii}
use Rattle.script_text.specs.Digits.{decimal_of}

-- The most bytes of a guest in a list, of such a list, of what `frame` prints, of a line of `ledger`.
abbrev pub listed_guest_bytes : ℕ
listed_guest_bytes = 2

abbrev pub guest_list_bytes : ℕ
guest_list_bytes = listed_guest_bytes * guests

abbrev pub frame_text_bytes : ℕ
frame_text_bytes = 128

abbrev pub line_bytes : ℕ
line_bytes = 160

abbrev pub empty : List ℕ → Bool
empty l = eqb (length l) 0

-- "separated by commas": one before each guest but the first
unfoldable pub listed_guest_text : (first : Bool) (g : ℕ) → List ℕ
listed_guest_text first g = cond first [] (ascii ",") ++ decimal_of g

-- "the guests in rising order": of 1 to g, those that `least` or more is shared with
unfoldable pub guest_list_to : (least : ℕ) (shares : ℕ → ℕ) (g : ℕ) → List ℕ
guest_list_to least shares zero = []
guest_list_to least shares (suc g) =
    cond (leb least (shares (suc g)))
    (guest_list_to least shares g ++ listed_guest_text (empty (guest_list_to least shares g)) (suc g))
    (guest_list_to least shares g)

-- "or `-` for none"
unfoldable pub guest_list_text : (least : ℕ) (shares : ℕ → ℕ) → List ℕ
guest_list_text least shares = cond (empty (guest_list_to least shares guests)) (ascii "-") (guest_list_to least shares guests)

-- what is shared is 1 for reading, and 2 for writing too
abbrev pub for_reading : ℕ
for_reading = 1

abbrev pub for_writing : ℕ
for_writing = 2

-- "`page G readers L writers L mapped N`"
unfoldable pub page_text : (owner : ℕ) (shares : ℕ → ℕ) (mapped : ℕ) → List ℕ
page_text owner shares mapped =
    (ascii "page " ++ decimal_of owner)
    ++ ascii " readers " ++ guest_list_text for_reading shares
    ++ ascii " writers " ++ guest_list_text for_writing shares
    ++ (ascii " mapped " ++ decimal_of mapped)

-- "`monitor`, `free`, `table G`, `draining G`, or `page G ..`; `4` where there is no such frame"
unfoldable pub frame_kind_text : FrameKind → (shares : ℕ → ℕ) → List ℕ
frame_kind_text Outside shares = ascii "4"
frame_kind_text Monitor shares = ascii "monitor"
frame_kind_text Free shares = ascii "free"
frame_kind_text (Table g) shares = ascii "table " ++ decimal_of g
frame_kind_text (Draining g) shares = ascii "draining " ++ decimal_of g
frame_kind_text (Page g n) shares = page_text g shares n

unfoldable pub frame_text : State → (f : ℕ) → List ℕ
frame_text s f = frame_kind_text (frame_told s f) (share_told s f)

-- "a line for each frame: its number, a space, what `frame` prints"
unfoldable pub line_text : State → (f : ℕ) → List ℕ
line_text s f = decimal_of f ++ ascii " " ++ frame_text s f ++ ascii "\n"

-- the lines of frames 0 to n - 1
unfoldable pub lines_to : State → (n : ℕ) → List ℕ
lines_to s zero = []
lines_to s (suc n) = lines_to s n ++ line_text s n

unfoldable pub ledger_text : State → List ℕ
ledger_text s = lines_to s s.size
