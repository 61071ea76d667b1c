-- share and unshare as operations of the state, what keeps a guest from losing a right, and how far a page is shared:
-- as the contracts cite them. What they do: model/specs/Operations.
use Rattle.std.specs.Prelude.{Bool, cond, ℕ, eqb}
use Rattle.model.specs.State.{READING, WRITING}
use Rattle.model.specs.Operations.{share, unshare}
use Rattle.monitor_contract.specs.Answers.{Operation}

abbrev pub sharing : (g f h w : ℕ) → Operation
sharing g f h w s pick = share s g f h w

abbrev pub unsharing : (g f h : ℕ) → Operation
unsharing g f h s pick = unshare s g f h

-- 13 "h has f mapped", in so many places; 14 "h is dirty"
abbrev pub held_back : (places : ℕ) (dirty : Bool) → ℕ
held_back c d = cond (eqb c 0) (cond d 14 0) 13

-- share: "h may map f for reading, and for writing too unless w = 0"
abbrev pub extent : ℕ → ℕ
extent w = cond (eqb w 0) READING WRITING
