-- The way of a page number through a guest's tables, as the code goes it: what is known where it stands, and where it ends.
use Rattle.std.specs.Prelude.{◌≡◌, ◌⊎◌, ℕ, ◌≤◌}
use Rattle.model.specs.State.{State}
use Rattle.model.specs.Translate.{index, descend, missing_from, missing}
use Rattle.model.specs.Changes.{grow}
use Rattle.model.specs.Translate.{At}

-- from the root to table t of height h
pub record Reached (s : State) (g v h t : ℕ) : Type 0 where
  pub high : h ≤ 3
  pub serves : At s g h v t
  pub way : descend s 3 (s.root g) v ≡ descend s h t v
  pub lacks : missing s g v ≡ missing_from s h t v
  pub grows : (pick : ℕ → ℕ) → grow 3 s g (s.root g) v pick ≡ grow h s g t v pick

-- no further: it is a last table, or the next is missing
pub record Ended (s : State) (g v h t : ℕ) : Type 0 where
  pub reached : Reached s g v h t
  pub stops : (h ≡ 0) ⊎ (s.word t (index h v) ≡ 0)
