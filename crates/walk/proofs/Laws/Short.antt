-- Stage 2 fetches 4 descriptors at most, and what it reaches is below 2^48.
use Prim.Native.Nat.{ℕ, ◌+◌, ◌≤◌, ◌<◌}
use mathlib.Core.Path.{◌≡◌, sym, subst, ◌∙◌}
use mathlib.Core.List.{List}
use native.Mathlib.Omega.{arith}
use lib.ListN.{length}
use Rattle.memory.specs.Ram.{address_end}
use Rattle.walk_descriptor.specs.declared.FaultKind.{FaultKind}
use Rattle.walk_descriptor.specs.declared.FaultKind.TheVariants.{WalkAbort}
use Rattle.walk_descriptor.specs.Descriptor.{last_level}
use Rattle.std.specs.Prelude.{Ok, Err}
use Rattle.walk.specs.declared.stage_2.Reached.{Reached}
use Rattle.walk.specs.Memory.{read_at}
use Rattle.walk.specs.Both.{Walked, ends, Stage2Result, reached, failed, rules_2, fetch_2, stage_2}
use Rattle.walk.specs.Steps.{most_by_stage_2, with_count, Ended, as_ended, ended}
use Rattle.walk.proofs.Laws.Within.{Within, fetched_within, walk_within}

abbrev pub LowResult : Stage2Result → Type 0
LowResult (reached a) = a < address_end
LowResult (failed kind level) = Unit {0}

nothing : (kind : FaultKind) (level : ℕ) → Within LowResult 0 (ends (failed kind level))
nothing kind level = record { bounds = tt; few = omega arith }

pub stage_2_short : (m : List ℕ) (b access ipa root : ℕ) → Within LowResult most_by_stage_2 (stage_2 m b root access ipa)
unfolding stage_2 rules_2 fetch_2
stage_2_short m b access ipa root =
    walk_within (rules_2 access) ipa 0 nothing (λ o low. record { bounds = low; few = omega arith }) (fetch_2 m b) 1
    (λ level a most next. fetched_within a (read_at m b a) (ends (failed WalkAbort level)) next (nothing WalkAbort level)) last_level root

-- the same of what the code hands on
abbrev pub LowEnd : ℕ → Ended → Type 0
LowEnd n (Ok r) = (r.address < address_end) × (r.fetched ≤ n + most_by_stage_2)
LowEnd n (Err e) = e.fetched ≤ n + most_by_stage_2

low_end : (n k : ℕ) (r : Stage2Result) → LowResult r → k ≤ most_by_stage_2 → LowEnd n (as_ended r (n + k))
low_end n k (reached a) h le = (h, omega arith)
low_end n k (failed kind level) h le = omega arith

pub ended_low : (n : ℕ) (w : Walked Stage2Result) → Within LowResult most_by_stage_2 w → LowEnd n (ended n w)
unfolding with_count
ended_low n w h = low_end n (length w.fetched) w.result h.bounds h.few

-- what a walk of stage 2 reached, with any access, is low, and it fetched few
pub reached_low : (m : List ℕ) (b root access ipa n : ℕ) {way : Ended} → way ≡ ended n (stage_2 m b root access ipa)
    → {r : Reached} → way ≡ Ok r → (r.address < address_end) × (r.fetched ≤ n + most_by_stage_2)
reached_low m b root access ipa n walked e =
    subst (LowEnd n) (sym walked ∙ e) (ended_low n (stage_2 m b root access ipa) (stage_2_short m b access ipa root))
