-- The bytes of RAM below a state (document 01, section 1), and what the state says of an address in document 01's words.
-- Decided here: RAM is the list m of its bytes, the first at physical address b, of which the state keeps b / 4096; frame f begins at
-- index 4096 f.
use Rattle.std.specs.Prelude.{◌≡◌, cond, List, ℕ, ◌+◌, ◌*◌, ◌-◌, ◌<◌, ◌/◌, ◌%◌, length}
use Rattle.std.proofs.Math.Option.{Option, none, some}
use Rattle.memory.specs.Word.{word_at}
use Rattle.walk_descriptor.specs.declared.FaultKind.TheVariants.{Translation, Permission}
use Rattle.walk.specs.declared.Answer.{Answer}
use Rattle.walk.specs.Both.{Stage2Result, reached, failed, as_answer_2}
use Rattle.model.specs.State.{State}
use Rattle.model.specs.Translate.{Page, translate, missing}
use Rattle.model.specs.Cache.{Access, reading, writing, executing, grants}

-- The bytes m, from physical address b on, hold the state's words.
pub record Image (s : State) (b : ℕ) (m : List ℕ) : Type 0 where
  pub base : b ≡ 4096 * s.first
  pub long : length m ≡ 4096 * s.size
  pub words : (f i : ℕ) → f < s.size → i < 512 → s.word f i ≡ word_at m (4096 * f + 8 * i)

-- "the kind of access (read, write, execute)", as document 01's walk numbers it
abbrev pub access : Access → ℕ
access reading = 0
access writing = 1
access executing = 2

-- What a walk comes to where the page translates so, o is the offset in the page, and k tables are missing on the way.
abbrev pub comes : (b o k : ℕ) → Access → Option Page → Stage2Result
comes b o k w none = failed Translation (3 - k)
comes b o k w (some p) = cond (grants p.1 w) (reached (b + 4096 * p.0 + o)) (failed Permission 3)

-- What the state says of guest g's address a: the byte at the same offset of the frame, where the rights allow the access; PERMISSION,
-- where they do not;
-- TRANSLATION, where nothing is mapped, at the level of the first empty entry.
unfoldable pub says : State → (b g a : ℕ) → Access → Stage2Result
says s b g a w = comes b (a % 4096) (missing s g (a / 4096)) w (translate s g (a / 4096))

-- The same as the public function answers it, with the number of descriptors that are fetched: 4, or those of the tables that are there.
unfoldable pub answers : State → (b g a : ℕ) → Access → Answer
answers s b g a w = as_answer_2 (says s b g a w) (4 - missing s g (a / 4096))
