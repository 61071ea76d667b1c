-- The nine operations (document 03, section 3) as a host calls them, with numbers only: the definition that each function's contract
-- cites, and the model's operation.
-- Both are the same: the code's choice of free frames is the model's argument `pick`.
use Rattle.std.specs.Prelude.{ℕ}
use Rattle.model.specs.Machine as M
use Rattle.monitor.specs.Answers as A
use Rattle.monitor.specs.Create.{creating}
use Rattle.monitor.specs.Give.{giving}
use Rattle.monitor.specs.Map.{mapping}
use Rattle.monitor.specs.Unmap.{unmapping}
use Rattle.monitor.specs.Share.{sharing, unsharing}
use Rattle.monitor.specs.Take.{taking}
use Rattle.monitor.specs.Destroy.{destroying}
use Rattle.monitor.specs.Invalidated.{invalidating}

pub data Call : Type 0 where
  Create : (g : ℕ) → Call
  Give Take : (f g : ℕ) → Call
  Map : (f g a r : ℕ) → Call
  Unmap : (a g : ℕ) → Call
  Share : (g f h w : ℕ) → Call
  Unshare : (g f h : ℕ) → Call
  Destroy Invalidated : (g : ℕ) → Call

-- what the contract of the function says that it answers
abbrev pub defined : Call → A.Operation
defined (Create g) = creating g
defined (Give f g) = giving f g
defined (Take f g) = taking f g
defined (Map f g a r) = mapping f g a r
defined (Unmap a g) = unmapping a g
defined (Share g f h w) = sharing g f h w
defined (Unshare g f h) = unsharing g f h
defined (Destroy g) = destroying g
defined (Invalidated g) = invalidating g

abbrev pub in_model : Call → (pick : ℕ → ℕ) → M.Operation
in_model (Create g) pick = M.Create g pick
in_model (Give f g) pick = M.Give f g
in_model (Take f g) pick = M.Take f g
in_model (Map f g a r) pick = M.Map f g a r pick
in_model (Unmap a g) pick = M.Unmap a g
in_model (Share g f h w) pick = M.Share g f h w
in_model (Unshare g f h) pick = M.Unshare g f h
in_model (Destroy g) pick = M.Destroy g
in_model (Invalidated g) pick = M.Invalidated g
