-- docs/SCRIPT.md: what a walk prints.
use Rattle.std.specs.Prelude.{ℕ, List, ◌++◌}
use Rattle.walk_descriptor.specs.declared.FaultKind.{FaultKind}
use Rattle.walk_descriptor.specs.declared.FaultKind.TheVariants.{WalkAbort, Translation, NotModelled, AccessFlag, Permission}
use Rattle.walk.specs.declared.Answer.{Answer}
use Rattle.walk.specs.declared.Answer.TheVariants.{Found, Fault, During, Refused}
use Rattle.script_text.specs.Text.{ascii}
use Rattle.script_text.specs.Digits.{decimal_of, hex_of}

-- The most bytes of a name, a fault, a fault of stage 2 during stage 1, the number of descriptors, a walk's answer.
abbrev pub name_bytes : ℕ
name_bytes = 20

abbrev pub fault_bytes : ℕ
fault_bytes = 74

abbrev pub during_bytes : ℕ
during_bytes = 116

abbrev pub fetched_bytes : ℕ
fetched_bytes = 29

abbrev pub answer_bytes : ℕ
answer_bytes = 145

-- document 01, section 4: the faults
unfoldable pub kind_text : FaultKind → List ℕ
kind_text WalkAbort = ascii "WALK_ABORT"
kind_text Translation = ascii "TRANSLATION"
kind_text NotModelled = ascii "NOT_MODELLED"
kind_text AccessFlag = ascii "ACCESS_FLAG"
kind_text Permission = ascii "PERMISSION"

-- "KIND stage S level L"
unfoldable pub fault_text : FaultKind → ℕ → ℕ → List ℕ
fault_text k stage level =
    kind_text k ++ (ascii " stage " ++ decimal_of stage) ++ (ascii " level " ++ decimal_of level)

-- a fault of stage 2 while stage 1 was at level `of`
unfoldable pub during_text : FaultKind → ℕ → ℕ → List ℕ
during_text k level of = fault_text k 2 level ++ (ascii " during stage 1 level " ++ decimal_of of)

unfoldable pub fetched_text : ℕ → List ℕ
fetched_text n = ascii " fetched " ++ decimal_of n

unfoldable pub answer_text : Answer → List ℕ
answer_text (Found address fetched) = hex_of address ++ fetched_text fetched
answer_text (Fault k stage level fetched) = fault_text k stage level ++ fetched_text fetched
answer_text (During k level of fetched) = during_text k level of ++ fetched_text fetched
answer_text Refused = ascii "REFUSED"
