-- The free frames as a sparse set: a permutation D of the frames with its inverse P, of which the first `count` are the free ones.
-- A frame that leaves or joins changes places with the last one inside or the first one outside.
use Rattle.std.specs.Prelude.{◌≡◌, ℕ, ◌≤◌, ◌<◌, eqb, ltb}
use Rattle.model.specs.State.{FREE}

-- K: what a frame is, FREE where it is free
pub record FreeSet (n : ℕ) (K D P : ℕ → ℕ) (count : ℕ) : Type 0 where
  pub few : count ≤ n
  pub d_low : (i : ℕ) → i < n → D i < n
  pub p_low : (f : ℕ) → f < n → P f < n
  pub p_d : (i : ℕ) → i < n → P (D i) ≡ i
  pub d_p : (f : ℕ) → f < n → D (P f) ≡ f
  pub in_set : (f : ℕ) → f < n → eqb (K f) FREE ≡ ltb (P f) count
