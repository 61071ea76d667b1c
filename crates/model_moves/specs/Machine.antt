-- The monitor, the guests, the host and the processor, step by step. The processor looks when it likes: between any two moves.
use Rattle.std.specs.Prelude.{Bool, ℕ, ◌+◌, ◌*◌, ◌<◌, ◌/◌, ◌%◌}
use Rattle.model.specs.State.{put_byte}
use Rattle.model.specs.Cache.{writing}
use Rattle.model_moves.specs.Spaces.{Spaces, store}
use Rattle.model_moves.specs.Cache.{Caches, Looks, forget, Reach}
use Rattle.model_moves.specs.Moves.{Move, Report, reported}

pub record Machine : Type 1 where
  pub spaces : Spaces
  pub caches : Caches

abbrev pub with_spaces : Machine → Spaces → Machine
with_spaces m s = record { spaces = s; caches = m.caches }

-- byte o of frame f becomes b
abbrev pub byte_stored : Spaces → (f o b : ℕ) → Spaces
byte_stored s f o b = store s f (o / 8) (put_byte (o % 8) (s.word f (o / 8)) b)

pub data Step (m : Machine) : Machine → Type 1 where
  moves : (s : Spaces) → Move m.spaces s → Step m (with_spaces m s)
  reports : (c : ℕ) (R D : ℕ → Bool) → Report m.spaces c R D →
      Step m (record { spaces = reported m.spaces c D; caches = forget m.caches c R })
  looks : (k : Caches) → Looks m.spaces m.caches k → Step m (record { spaces = m.spaces; caches = k })
  -- a guest: a byte where it reaches for writing. One that was destroyed stores nothing, and nothing proved here needs that
  stores : (c f o b : ℕ) → o < 4096 → Reach m.spaces m.caches c writing ((m.spaces.first + f) * 4096 + o) →
      Step m (with_spaces m (byte_stored m.spaces f o b))

pub data Run : Machine → Machine → Type 1 where
  stop : {m : Machine} → Run m m
  then : {m m' z : Machine} → Step m m' → Run m' z → Run m z
