-- Demand 3: "no page can be reached by two guests unless its owner shared it".
-- Any steps of the slices from set-up; any frame that two guests reach, each for some access: it is a page, of the one and shared with the
-- other so, or of a third who shares it with both.
use Rattle.std.specs.Prelude.{◌≡◌, ℕ}
use Rattle.model.specs.State.{page}
use Rattle.model.specs.Cache.{Access}
use Rattle.ledger.specs.Layout.{kind_of, state_in}
use Rattle.isolation_runs.specs.Slices.{Slices, Reaches, Run, Begun}
use Rattle.isolation_runs.specs.Terms.{In, Uses}
use Rattle.isolation_runs.proofs.Laws.Runs.{are_runs}
use Rattle.isolation_runs.proofs.Isolation.Words.{page_so}
use Rattle.model_isolation.specs.TwoGuests as T

module _ {x y : Slices} (begun : Begun x) (run : Run x y) where
  pub two_guests : (g h : ℕ) (w w' : Access) (a a' f : ℕ) → (g ≡ h → ⊥) → In y a f → In y a' f → Reaches y g w a → Reaches y h w' a' →
      (o : ℕ) × (kind_of y.ledger f ≡ page o) × Uses y o g f w × Uses y o h f w'
  unfolding state_in
  two_guests g h w w' a a' f ne i i' p p' =
      let r = are_runs begun run in
      let z = T.two_guests r.0 r.1 g h w w' a a' f ne i i' p p' in
      (z.0, page_so y f z.0 z.1, z.2, z.3)
