-- docs/SCRIPT.md: what `guest` prints.
use Rattle.std.specs.Prelude.{Bool, cond, List, [], ◌++◌, ℕ}
use Rattle.monitor_query.specs.declared.GuestKind.{GuestKind}
use Rattle.monitor_query.specs.declared.GuestKind.TheVariants.{Nobody, Absent, Present}
use Rattle.script_text.specs.Text.{ascii}
use Rattle.script_text.specs.Digits.{hex_of}

-- The most bytes of what is printed.
abbrev pub dirty_bytes : ℕ
dirty_bytes = 6

abbrev pub guest_bytes : ℕ
guest_bytes = 35

-- "then ` dirty` where it is"
unfoldable pub dirty_text : Bool → List ℕ
dirty_text d = cond d (ascii " dirty") []

-- "`none` or `exists ROOT` .. `1` where G is out of range"
unfoldable pub guest_text : GuestKind → List ℕ
guest_text Nobody = ascii "1"
guest_text (Absent dirty) = ascii "none" ++ dirty_text dirty
guest_text (Present root dirty) = ascii "exists " ++ hex_of root ++ dirty_text dirty
