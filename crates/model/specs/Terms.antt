-- Words for the statements: what a guest is allowed to do with a frame.
use Rattle.std.specs.Prelude.{◌≡◌, Bool, true, false, ◌&&◌, cond, ◌⊎◌, ℕ, ◌+◌, ◌/◌, eqb, leb}
use Rattle.std.proofs.Math.Option.{Option, none, some}
use Rattle.model.specs.State.{State, free, page, draining_page, byte, READING, WRITING}
use Rattle.model.specs.Translate.{Page, translate}
use Rattle.model.specs.Cache.{Access, reading, writing, executing}
use Rattle.model.specs.Operations.{done}
use Rattle.model.specs.Machine.{Machine, Reaches, Operation, Create, Give, Take, Map, Unmap, Share, Unshare, Destroy, Invalidated, answer, Chooses}

-- a page that is shared so may be accessed in this way; executing is never shared
abbrev pub lends : ℕ → Access → Bool
lends how reading = leb READING how
lends how writing = leb WRITING how
lends how executing = false

-- somebody's page, shared with g for this access
abbrev pub Lent : State → (g f : ℕ) → Access → Type 0
Lent s g f w = (o : ℕ) × (s.kind f ≡ page o) × (lends (s.shared f g) w ≡ true)

-- g's own page, or one that is shared with g for this access, or a frame that drains for g
abbrev pub Allowed : State → (g f : ℕ) → Access → Type 0
Allowed s g f w = (s.kind f ≡ page g) ⊎ (Lent s g f w ⊎ (s.kind f ≡ draining_page g))

-- What page v of guest h translates to after operation o is answered, by what it did before: the table of the nine operations.
unfoldable pub expected : State → Operation → (h v : ℕ) → Option Page
expected s (Create g pick) h v = translate s h v
expected s (Give f g) h v = translate s h v
expected s (Take f g) h v = translate s h v
expected s (Map f g a r pick) h v = cond (eqb h g && eqb v (a / 4096)) (some (f, r)) (translate s h v)
expected s (Unmap a g) h v = cond (eqb h g && eqb v (a / 4096)) none (translate s h v)
expected s (Share g f g' w) h v = translate s h v
expected s (Unshare g f g') h v = translate s h v
expected s (Destroy g) h v = cond (eqb h g) none (translate s h v)
expected s (Invalidated g) h v = translate s h v

-- Frame f is handed out in the step from z to z'.
pub record Handed (z z' : Machine) (f : ℕ) : Type 0 where
  pub was_free : z.state.kind f ≡ free
  pub unreached_before : (h : ℕ) (w : Access) (a : ℕ) → a / 4096 ≡ z.state.first + f → Reaches z h w a → ⊥
  pub unreached_after : (h : ℕ) (w : Access) (a : ℕ) → a / 4096 ≡ z'.state.first + f → Reaches z' h w a → ⊥
  pub all_zero : (i : ℕ) → byte z'.state f i ≡ 0

-- Frame f becomes a table in the step from z to z'.
pub record Laid (z z' : Machine) (f : ℕ) : Type 0 where
  pub was_free : z.state.kind f ≡ free
  pub unreached_before : (h : ℕ) (w : Access) (a : ℕ) → a / 4096 ≡ z.state.first + f → Reaches z h w a → ⊥
  pub unreached_after : (h : ℕ) (w : Access) (a : ℕ) → a / 4096 ≡ z'.state.first + f → Reaches z' h w a → ⊥

-- Operations asked for one after another, each fit for its state, each answered 0.
pub data Asked (P : State → Operation → Type 0) : State → State → Type 0 where
  nothing : {s : State} → Asked P s s
  ask : {s s'' : State} (o : Operation) (s' : State) → P s o → Chooses s o → answer s o ≡ done s' → Asked P s' s'' → Asked P s s''

-- What gets page f back to its owner g: unmapping it where it is mapped, invalidating, unsharing it, taking it.
abbrev pub Reclaims : (f g : ℕ) → State → Operation → Type 0
Reclaims f g s (Unmap a h) = (r : ℕ) × (translate s h (a / 4096) ≡ some (f, r))
Reclaims f g s (Invalidated h) = Unit {0}
Reclaims f g s (Unshare g' f' h) = (g' ≡ g) × (f' ≡ f)
Reclaims f g s (Take f' g') = (f' ≡ f) × (g' ≡ g)
Reclaims f g s (Create h pick) = ⊥
Reclaims f g s (Give f' h) = ⊥
Reclaims f g s (Map f' h a r pick) = ⊥
Reclaims f g s (Share g' f' h w) = ⊥
Reclaims f g s (Destroy h) = ⊥
