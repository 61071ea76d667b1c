-- What it means that an operation goes along a path of moves, and what it needs for that. That each of the nine does: proofs/Ready.
use Rattle.std.specs.Prelude.{◌≡◌, Bool, true, false, cond, ◌⊎◌, ℕ, ◌+◌, ◌/◌, eqb}
use Rattle.model.specs.State
use Rattle.model.specs.Machine.{Operation, Create, Give, Take, Map, Unmap, Share, Unshare, Destroy, Invalidated}
use Rattle.model.specs.Invariant as Ledger
use Rattle.model_moves.specs.Spaces.{free}
use Rattle.model_moves.specs.Path.{Deed, puts, claims, links, clears, unhooks, enters, hands, lends, retires, releases, opens, ends, dissolves, tells, Way}
use Rattle.model_moves.proofs.Invariant.Core.{Core}
use Rattle.model_paths.specs.View.{view}

-- map: frames that are free are filled with zeros, and become tables of g
abbrev pub Builds : (g : ℕ) → Deed → Type 0
Builds g d = ((t : ℕ) × (d ≡ puts t free)) ⊎ ((h q : ℕ) × ((d ≡ claims g h q) ⊎ (d ≡ links g h q)))

-- The rows of document 03, deed by deed.
abbrev pub Does : State.State → Operation → Deed → Type 0
Does s (Create g pick) d = (d ≡ puts (pick 0) free) ⊎ (d ≡ opens g)
Does s (Give f g) d = (d ≡ puts f free) ⊎ (d ≡ hands f g)
Does s (Take f g) d = (d ≡ retires g (λ t. eqb t f)) ⊎ (d ≡ releases (λ t. eqb t f))
Does s (Map f g a r pick) d = Builds g d ⊎ (d ≡ enters g 0 (a / 4096) (s.first + f) r)
Does s (Unmap a g) d = d ≡ clears g 0 (a / 4096)
Does s (Share g f h w) d = d ≡ lends f h (cond (eqb w 0) 1 2)
Does s (Unshare g f h) d = d ≡ lends f h 0
Does s (Destroy g) d = (d ≡ ends g) ⊎ (d ≡ retires g (λ t. State.is_page_of (s.kind t) g))
Does s (Invalidated g) d = (d ≡ tells g) ⊎ (((P : ℕ → Bool) × (d ≡ releases P)) ⊎ (d ≡ dissolves g))

-- From s to s' along moves, each with at most one store, and each one that the operation makes.
abbrev pub Goes : (s : State.State) → Operation → (s' : State.State) → Type 0
Goes s o s' = Way (Does s o) (view s) (view s')

-- The space that a deed is about, where it is about tables, or what is stale. Handing out, lending and draining a frame leave these.
abbrev pub About : Deed → (c : ℕ) → Type 0
About (puts f u) d = ⊥
About (claims c h q) d = c ≡ d
About (links c h q) d = c ≡ d
About (clears c h q) d = c ≡ d
About (unhooks c h q) d = c ≡ d
About (enters c h q y r) d = c ≡ d
About (hands f g) d = ⊥
About (lends f c how) d = ⊥
About (retires g P) d = ⊥
About (releases P) d = ⊥
About (opens c) d = c ≡ d
About (ends c) d = c ≡ d
About (dissolves c) d = c ≡ d
About (tells c) d = c ≡ d

-- the guest whose tables, or whose report, the operation is about; share, unshare, give and take are about none, and name the owner
abbrev pub guest : Operation → ℕ
guest (Create g pick) = g
guest (Give f g) = g
guest (Take f g) = g
guest (Map f g a r pick) = g
guest (Unmap a g) = g
guest (Share g f h w) = g
guest (Unshare g f h) = g
guest (Destroy g) = g
guest (Invalidated g) = g

-- tables drain only for a guest that is no longer, and that is dirty
pub record Ended (s : State.State) : Type 0 where
  pub gone : (t g h p : ℕ) → s.kind t ≡ State.draining_table g h p → (s.exists g ≡ false) × (s.dirty g ≡ true)

-- what the paths need: it holds after set-up, and after each operation and store
pub record Ready (s : State.State) : Type 0 where
  pub ledger : Ledger.Core s
  pub ended : Ended s
  pub spaces : Core (view s)
