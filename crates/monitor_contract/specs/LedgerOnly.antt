-- Operations that leave RAM alone and make one change of the ledger: what they have found when they refuse nothing.
use Rattle.std.specs.Prelude.{◌≡◌, true, List, ℕ, ◌<◌}
use Rattle.model.specs.State.{page, is_guest}
use Rattle.ledger.specs.Layout.{size_of, kind_of}

-- what take, share and unshare have found when they refuse nothing: f is a page of g, and the guest c that they ask about is there
pub record Owned (l : List ℕ) (f g c : ℕ) : Type 0 where
  pub low : f < size_of l
  pub its_page : kind_of l f ≡ page g
  pub there : is_guest c ≡ true
