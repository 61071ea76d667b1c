-- Demand 3: "no page can be reached by two guests unless its owner shared it".
-- Any run from Start; two spaces that serve different guests, and reach one frame: it is a page of the one guest that is shared with the
-- other's space so, or a third guest's that is shared with both.
use Rattle.std.specs.Prelude.{◌≡◌, true, ◌⊎◌, ℕ, ◌+◌, ◌/◌}
use Rattle.model.specs.Cache.{Access}
use Rattle.model.specs.Terms.{lends}
use Rattle.model_moves.specs.Spaces.{Spaces, page}
use Rattle.model_moves.specs.Machine.{Machine, Run}
use Rattle.model_moves.specs.Terms.{Start, Reaches}
use Rattle.model_moves.proofs.Invariant.Allowed.{both_allowed, reach_allowed}
use Rattle.model_moves.proofs.Invariant.Always.{good}

-- guest o's page f is its own space's, or is shared with space c for this access
abbrev pub Uses : Spaces → (o c f : ℕ) → Access → Type 0
Uses s o c f w = (o ≡ (s.space c).serves) ⊎ (lends (s.shared f c) w ≡ true)

pub two_guests : {m z : Machine} → Start m → Run m z → (c d : ℕ) (w w' : Access) (a a' f : ℕ) →
    ((z.spaces.space c).serves ≡ (z.spaces.space d).serves → ⊥) →
    a / 4096 ≡ z.spaces.first + f → a' / 4096 ≡ z.spaces.first + f → Reaches z c w a → Reaches z d w' a' →
    (o : ℕ) × (z.spaces.kind f ≡ page o) × Uses z.spaces o c f w × Uses z.spaces o d f w'
two_guests {m} {z} st run c d w w' a a' f ne i i' x x' =
    both_allowed z.spaces c d f w w' ne (reach_allowed (good st run) c w a f i x) (reach_allowed (good st run) d w' a' f i' x')
