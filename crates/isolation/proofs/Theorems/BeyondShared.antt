-- Demand 3: "none is written beyond what was shared"; nor read, nor executed.
-- Any steps of the slices from set-up; any page of a guest o that some guest reaches for some access: o is that guest, or the page is
-- shared
-- with it for that.
use Rattle.std.specs.Prelude.{◌≡◌, ℕ}
use Rattle.std.proofs.Common.{ap}
use Rattle.model.specs.State.{page}
use Rattle.model.specs.Cache.{Access}
use Rattle.ledger.specs.Layout.{kind_of, state_in}
use Rattle.isolation_runs.specs.Slices.{Slices, Reaches, Run, Begun}
use Rattle.isolation_runs.specs.Terms.{In, Uses}
use Rattle.isolation_runs.proofs.Laws.Runs.{are_runs}
use Rattle.model_paths.specs.View.{use_of}
use Rattle.model_isolation.specs.BeyondShared as B

module _ {x y : Slices} (begun : Begun x) (run : Run x y) where
  pub beyond_shared : (o g f : ℕ) (w : Access) (a : ℕ) → kind_of y.ledger f ≡ page o → In y a f → Reaches y g w a → Uses y o g f w
  unfolding state_in
  beyond_shared o g f w a k = let r = are_runs begun run in B.beyond_shared r.0 r.1 o g f w a (ap use_of k)
