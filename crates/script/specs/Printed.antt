-- docs/SCRIPT.md: what is printed.
use Rattle.std.specs.Prelude.{ℕ, ◌+◌, ◌*◌, List, ◌++◌}
use Rattle.script_language.specs.declared.Reason.{Reason}
use Rattle.script_language.specs.declared.Reason.TheVariants.{UnknownCommand, TooFewWords, TooManyWords, NumberExpected, NumberTooLarge, AccessExpected, LevelExpected, NotText, LineTooLong}
use Rattle.script_machine.specs.declared.Machine.{Machine}
use Rattle.script_machine.specs.declared.Reply.{Reply}
use Rattle.script_machine.specs.declared.Reply.TheVariants.{Done, OutsideRam, Number, Contents, Walked, Frame, Guest, Ledger, SetupNeeded}
use Rattle.model.specs.State.{State}
use Rattle.script_print.specs.Answer.{answer_text}
use Rattle.script_print.specs.Frame.{line_bytes, frame_text, ledger_text}
use Rattle.script_print.specs.Guest.{guest_text}
use Rattle.script_text.specs.Text.{ascii}
use Rattle.script_text.specs.Digits.{decimal_of, sixteen_digits_of}

-- The most bytes of a reply other than the whole ledger, of a mistake, of what any line prints.
abbrev pub reply_bytes : ℕ
reply_bytes = 256

abbrev pub mistake_bytes : ℕ
mistake_bytes = 28

abbrev pub printed_bytes : Machine → ℕ
printed_bytes m = line_bytes * m.frames + reply_bytes

-- why a line can't be read
unfoldable pub reason_text : Reason → List ℕ
reason_text UnknownCommand = ascii "unknown command"
reason_text TooFewWords = ascii "too few words"
reason_text TooManyWords = ascii "too many words"
reason_text NumberExpected = ascii "number expected"
reason_text NumberTooLarge = ascii "number too large"
reason_text AccessExpected = ascii "access is r, w or x"
reason_text LevelExpected = ascii "level is el0 or el1"
reason_text NotText = ascii "not text"
reason_text LineTooLong = ascii "line too long"

-- the line that a command prints, with its end; of a frame, and of the whole ledger, what the state s of the machine says
unfoldable pub reply_text : State → Reply → List ℕ
reply_text s Done = ascii "ok\n"
reply_text s OutsideRam = ascii "refused\n"
reply_text s (Number n) = decimal_of n ++ ascii "\n"
reply_text s (Contents v) = sixteen_digits_of v ++ ascii "\n"
reply_text s (Walked a) = answer_text a ++ ascii "\n"
reply_text s (Frame f) = frame_text s f ++ ascii "\n"
reply_text s (Guest g) = guest_text g ++ ascii "\n"
reply_text s Ledger = ledger_text s
reply_text s SetupNeeded = ascii "error: setup needed\n"

-- the line of one that can't be read
unfoldable pub mistake_text : Reason → List ℕ
mistake_text r = ascii "error: " ++ reason_text r ++ ascii "\n"
