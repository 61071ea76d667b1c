-- Document 03, section 4: "Isolation is about what guests can reach in this sense, and not about what the tables say now."
-- Any steps of the slices from set-up; any guest's number, access and address: what is reached lies in a frame of RAM that is the guest's
-- own page, or one shared with it for that access, or a frame that drains for it. So never the ledger, which is outside RAM.
use Rattle.std.specs.Prelude.{ℕ, ◌<◌}
use Rattle.model.specs.Cache.{Access}
use Rattle.ledger.specs.Layout.{size_of}
use Rattle.isolation_runs.specs.Slices.{Slices, Reaches, Run, Begun}
use Rattle.isolation_runs.specs.Terms.{In, Allowed}
use Rattle.isolation_runs.proofs.Laws.Runs.{always_fits}
use Rattle.isolation_runs.proofs.Isolation.Words.{reach_so}

module _ {x y : Slices} (begun : Begun x) (run : Run x y) where
  pub reach : (g : ℕ) (w : Access) (a : ℕ) → Reaches y g w a → (f : ℕ) × In y a f × (f < size_of y.ledger) × Allowed y g f w
  reach = reach_so y (always_fits begun run)
