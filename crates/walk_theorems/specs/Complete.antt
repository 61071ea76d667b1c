-- "A complete walk fetches 4 x (4 + 1) + 4 = 24 descriptors" (document 01, section 5): exactly 24 where every walk on the way goes
-- through four levels, which is where stage 1 makes five walks of stage 2 and each of these fetches four.
-- Any bytes, any roots, any access and level; a virtual address below 2^48.
use Rattle.std.specs.Prelude.{ℕ, ◌<◌, ◌≡◌, List, length}
use Rattle.memory.specs.Ram.{address_end}
use Rattle.walk.specs.Both.{both}
use Rattle.walk.specs.Walks.{walks, EachFour}
use Rattle.walk.proofs.Laws.Complete.{both_complete}

pub complete : (ram : List ℕ) (base root1 root2 va access el : ℕ) → va < address_end
    → length (walks ram base root1 root2 va access el) ≡ 5 → EachFour (walks ram base root1 root2 va access el)
    → length (both ram base root1 root2 va access el).fetched ≡ 24
complete ram base root1 root2 va access el low five four = both_complete ram base root2 access el va root1 low four five
