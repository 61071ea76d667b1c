-- Demand 3: "What one guest can read depends on nothing another does, but for pages shared on purpose." The same operations in both
-- runs, other stores: see TwoRunsApart for other operations.
-- Any two runs from set-up with the same numbers, whatever RAM held then: the same operations, the same stores to what g may read, any
-- other stores in either run; a page that is shared with g is the same in both then.
-- The ledger, the tables, and what every guest reaches are the same in both; and so is every byte that g reaches, whatever the others
-- stored.
use Rattle.std.specs.Prelude.{◌≡◌, ◌↔◌, ℕ, ◌+◌, ◌/◌, ◌%◌}
use Rattle.model.specs.State.{byte}
use Rattle.model.specs.Cache.{Access}
use Rattle.model.specs.Machine.{Machine, Run, Reaches}
use Rattle.model_noninterference.specs.TwoRunsTerms.{TwoRuns, SameStart, SameLedger}
use Rattle.model_noninterference.proofs.Invariant.Beside.{halves, beside}
use Rattle.model_noninterference.proofs.Invariant.Alike.{together_all, started_pair, pair_ledger, pair_reach, pair_bytes, pair_turned}

pub same_bytes : {g : ℕ} {y z y' z' : Machine} → SameStart y z → TwoRuns g y z y' z' → (w : Access) (a f : ℕ) →
    a / 4096 ≡ y'.state.first + f → Reaches y' g w a →
    byte y'.state f (a % 4096) ≡ byte z'.state f (a % 4096)
same_bytes {g} x r = pair_bytes (together_all r (started_pair g x))

pub same_reach : {g : ℕ} {y z y' z' : Machine} → SameStart y z → TwoRuns g y z y' z' → (h : ℕ) (w : Access) (a : ℕ) →
    Reaches y' h w a ↔ Reaches z' h w a
same_reach {g} x r h w a = let p = together_all r (started_pair g x) in (pair_reach p h w a, pair_reach (pair_turned p) h w a)

pub same_ledger : {g : ℕ} {y z y' z' : Machine} → SameStart y z → TwoRuns g y z y' z' → SameLedger y'.state z'.state
same_ledger {g} x r = pair_ledger (together_all r (started_pair g x))

-- The hypotheses: each half is a run of a machine as in all other theorems; and they can be met, since every run stands beside itself.
pub are_runs : {g : ℕ} {y z y' z' : Machine} → TwoRuns g y z y' z' → Run y y' × Run z z'
are_runs = halves

pub beside_itself : (g : ℕ) {y z : Machine} → Run y z → TwoRuns g y y z z
beside_itself = beside
