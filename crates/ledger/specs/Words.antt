-- RAM by frames: where a frame lies in it. The words of a frame: word_of, in Layout.
use Rattle.std.specs.Prelude.{List, ℕ, ◌+◌, ◌*◌, ◌≤◌, length}

-- frame f lies in RAM
abbrev pub Within : List ℕ → ℕ → Type 0
Within m f = f * 4096 + 4096 ≤ length m
