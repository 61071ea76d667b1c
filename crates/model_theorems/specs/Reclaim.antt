-- Document 03, section 3: "An owner can always get a page back: unmap and invalidate wherever it is shared, unshare, unmap and
-- invalidate at home, take. That this never ends in a refusal is worth a theorem."
-- Any run from set-up, any page f of any guest g: there are operations of these kinds alone, the unmaps at addresses that translate to
-- f, each answered 0, after which f is free.
use Rattle.std.specs.Prelude.{◌≡◌, refl, ℕ}
use Rattle.std.proofs.Common.{ap, ◌∙◌}
use Rattle.model.specs.State.{State, free, page}
use Rattle.model.specs.Machine.{Machine, SetUp, Run}
use Rattle.model.specs.Terms.{Asked, Reclaims}
use Rattle.model.proofs.Invariant.Holds.{holds}
use Rattle.model.proofs.Invariant.LinkedAlways.{linked_always}
use Rattle.model.proofs.Invariant.Reclaim.{reclaimed, asked_run}

pub reclaim : {m z : Machine} → SetUp m → Run m z → (f g : ℕ) → z.state.kind f ≡ page g →
    (s' : State) × Asked (Reclaims f g) z.state s' × (s'.kind f ≡ free)
reclaim {z} x r f g k = reclaimed f g z.state (holds x r).core (linked_always x r) k

-- the same as a run of the machine
pub reclaim_run : {m z : Machine} → SetUp m → Run m z → (f g : ℕ) → z.state.kind f ≡ page g →
    (z' : Machine) × Run z z' × (z'.state.kind f ≡ free)
reclaim_run {z} x r f g k =
    let a = reclaim x r f g k in
    let b = asked_run z refl a.1 in
    (b.0, b.1, ap (λ (s : State). s.kind f) b.2 ∙ a.2)
