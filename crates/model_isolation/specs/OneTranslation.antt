-- Break before make: a page of a space never has two translations, whatever the tables say and whatever was kept.
-- A translation is the page of physical memory, the rights, and the height of the leaf. It is why map refuses 14, "the guest is dirty".
-- Any run from Start; any space and page.
use Rattle.std.specs.Prelude.{◌≡◌, ℕ}
use Rattle.model_moves.specs.Cache.{Translation, Level}
use Rattle.model_moves.specs.Machine.{Machine, Run}
use Rattle.model_moves.specs.Terms.{Start}
use Rattle.model_moves.proofs.Invariant.Found.{found_one}
use Rattle.model_moves.proofs.Invariant.Levels.{found_one_level}
use Rattle.model_moves.proofs.Invariant.Always.{good, levels}

module _ {m z : Machine} (st : Start m) (run : Run m z) where
  pub one_translation : (c v x r x' r' : ℕ) → Translation z.spaces z.caches c v x r → Translation z.spaces z.caches c v x' r' →
      (x ≡ x') × (r ≡ r')
  one_translation c v x r x' r' = let g = good st run in found_one z.spaces z.caches g.core g.kept

  pub one_level : (c v l l' : ℕ) → Level z.spaces z.caches c v l → Level z.spaces z.caches c v l' → l ≡ l'
  one_level c v l l' = let g = good st run in found_one_level z.spaces z.caches g.core g.kept (levels st run)
