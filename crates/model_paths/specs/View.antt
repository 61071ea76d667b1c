-- The state of document 03 (model's State) as one over spaces. Guest g's space is g, of one root of height 3; "dirty" is one slot that has
-- every page. A table that drains is a table of a space that is no longer.
use Rattle.std.specs.Prelude.{Bool, false, ◌&&◌, cond, ℕ, eqb, ltb}
use Rattle.model.specs.State
use Rattle.model_moves.specs.Spaces.{Spaces, FrameUse, monitor, free, table, page, draining}

-- the number of that slot, after sixteen for ranges
abbrev pub whole_slot : ℕ
whole_slot = 16

abbrev pub use_of : State.KindOfFrame → FrameUse
use_of State.monitor = monitor
use_of State.free = free
use_of (State.table g h p) = table g h p
use_of (State.draining_table g h p) = table g h p
use_of (State.page g) = page g
use_of (State.draining_page g) = draining g

-- a page that drains waits for its guest's report
abbrev pub waits_of : State.KindOfFrame → (c j : ℕ) → Bool
waits_of State.monitor c j = false
waits_of State.free c j = false
waits_of (State.table g h p) c j = false
waits_of (State.draining_table g h p) c j = false
waits_of (State.page g) c j = false
waits_of (State.draining_page g) c j = eqb c g && eqb j whole_slot

-- a frame has 512 words
abbrev pub words_of : (ℕ → ℕ → ℕ) → ℕ → ℕ → ℕ
words_of w f i = cond (ltb i 512) (w f i) 0

abbrev pub view : State.State → Spaces
view s = record {
  size = s.size;
  first = s.first;
  kind = λ f. use_of (s.kind f);
  shared = s.shared;
  waits = λ f. waits_of (s.kind f);
  space = λ g. record { exists = s.exists g; serves = g; height = 3; wide = 1; root = s.root g };
  stale = λ g j v. eqb j whole_slot && s.dirty g;
  word = words_of s.word;
}
