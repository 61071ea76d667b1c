-- The numbers that C is told, by the names of include/pageledger.h without its prefix. tests/link.py holds these, those of src/lib.rt
-- and the header's to one another.
use Rattle.std.specs.Prelude.{ℕ}

-- enum pageledger_status. Document 03's refusals are the numbers from 1 on; `short` is ours, and stands where no refusal comes.
abbrev pub done : ℕ
done = 0

abbrev pub short : ℕ
short = 64

-- how many numbers an answer has: of a walk, of a frame, of a guest
abbrev pub answer_numbers : ℕ
answer_numbers = 7

abbrev pub frame_numbers : ℕ
frame_numbers = 3

abbrev pub guest_numbers : ℕ
guest_numbers = 3

-- enum pageledger_what
abbrev pub found : ℕ
found = 0

abbrev pub fault : ℕ
fault = 1

abbrev pub during : ℕ
during = 2

abbrev pub refused : ℕ
refused = 3

-- enum pageledger_kind
abbrev pub walk_abort : ℕ
walk_abort = 1

abbrev pub translation : ℕ
translation = 2

abbrev pub not_modelled : ℕ
not_modelled = 3

abbrev pub access_flag : ℕ
access_flag = 4

abbrev pub permission : ℕ
permission = 5

-- enum pageledger_frame_what
abbrev pub frame_outside : ℕ
frame_outside = 0

abbrev pub frame_monitor : ℕ
frame_monitor = 1

abbrev pub frame_free : ℕ
frame_free = 2

abbrev pub frame_table : ℕ
frame_table = 3

abbrev pub frame_draining : ℕ
frame_draining = 4

abbrev pub frame_page : ℕ
frame_page = 5

-- enum pageledger_guest_what
abbrev pub guest_nobody : ℕ
guest_nobody = 0

abbrev pub guest_absent : ℕ
guest_absent = 1

abbrev pub guest_present : ℕ
guest_present = 2
