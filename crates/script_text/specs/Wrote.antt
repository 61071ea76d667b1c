-- A text that was put into a list.
use Rattle.std.specs.Prelude.{ℕ, ◌+◌, ◌≤◌, ◌≡◌, List, ◌++◌, length, take}

-- The list l is m with `text` put at `at`: r is the place after it, at most `most` further, and what stood before is there still.
pub record Wrote (most : ℕ) (m : List ℕ) (at : ℕ) (l : List ℕ) (r : ℕ) (text : List ℕ) : Type 0 where
  pub near : r ≤ at + most
  pub next : r ≡ at + length text
  pub there : take r l ≡ take at m ++ text
