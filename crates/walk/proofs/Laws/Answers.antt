-- Both stages fetch 5 descriptors for each level and 4 for the result at most; what they find is below 2^48, and stage 2 found it.
use Prim.Native.Nat.{ℕ, ◌+◌, ◌≤◌, ◌<◌}
use mathlib.Core.Path.{◌≡◌, subst}
use mathlib.Core.Bool.{Bool, true, false, cond}
use mathlib.Core.List.{List}
use native.Mathlib.Omega.{arith}
use lib.ListN.{length}
use lib.Dec.{ltb}
use Rattle.memory.specs.Ram.{address_end}
use Rattle.walk_descriptor.specs.Descriptor.{to_read}
use Rattle.walk_descriptor.specs.declared.FaultKind.TheVariants.{WalkAbort, Translation}
use Rattle.walk.specs.declared.Answer.{Answer}
use Rattle.walk.specs.declared.Answer.TheVariants.{Found, Fault, During, Refused}
use Rattle.walk.specs.Memory.{read_at}
use Rattle.walk.specs.Both.{Walked, ends, fetched_at, Stage2Result, reached, failed, BothResult, found, fault, during, stage_2_only, as_answer, rules_1, fetch_1}
use Rattle.walk.specs.Both.{stage_1, stage_2, both, stage2_fits, both_fits, answer_2, answer, fetched_in}
use Rattle.walk.specs.Steps.{most_by_stage_2}
use Rattle.walk.proofs.Laws.Within.{Within, wider, fetched_within, walk_within, through_within}
use Rattle.walk.proofs.Laws.Short.{LowResult, stage_2_short}

module _ (m : List ℕ) (b root2 access : ℕ) where
  -- a guest-physical address from which stage 2 comes to p
  abbrev pub ByStage2 : ℕ → Type 0
  ByStage2 p = (ipa : ℕ) × (ipa < address_end) × ((stage_2 m b root2 access ipa).result ≡ reached p)

  abbrev pub ResultBounds : BothResult → Type 0
  ResultBounds (found p) = (p < address_end) × ByStage2 p
  ResultBounds (fault kind stage level) = Unit {0}
  ResultBounds (during kind level of) = Unit {0}

  module _ (el va : ℕ) where
    pub stage_1_brief : (root1 : ℕ) → Within ResultBounds 24 (stage_1 m b root1 root2 va access el)
    unfolding stage_1 rules_1 fetch_1
    stage_1_brief root1 =
        walk_within (rules_1 m b root2 access el) va most_by_stage_2 (λ kind level. record { bounds = tt; few = omega arith })
        (λ ipa low. through_within (λ kind level. fault kind 2 level) (λ a. ends (found a)) 0 (λ kind level. tt)
        (stage_2 m b root2 access ipa)
        (stage_2_short m b access ipa root2).few
        (λ a at. record {
          bounds = (subst LowResult at (stage_2_short m b access ipa root2).bounds, (ipa, low, at));
          few = omega arith;
        }))
        (fetch_1 m b root2) 5
        (λ level ipa most next h. wider (omega arith) (through_within (λ kind level2. during kind level2 level)
        (λ a. fetched_at a (read_at m b a) (ends (fault WalkAbort 1 level)) next) (1 + most) (λ kind level. tt)
        (stage_2 m b root2 to_read ipa)
        (stage_2_short m b to_read ipa root2).few
        (λ a at. fetched_within a (read_at m b a) (ends (fault WalkAbort 1 level)) next (record { bounds = tt; few = omega arith }) h)))
        3 root1

    either : (t : Bool) (w : Walked BothResult) → Within ResultBounds 24 w
        → Within ResultBounds 24 (cond t w (ends (fault Translation 1 0)))
    either true w h = h
    either false w h = record { bounds = tt; few = omega arith }

    pub both_brief : (root1 : ℕ) → Within ResultBounds 24 (both m b root1 root2 va access el)
    unfolding both
    both_brief root1 = either (ltb va address_end) (stage_1 m b root1 root2 va access el) (stage_1_brief root1)

-- the same of the answers: what one found
abbrev pub Low : Answer → Type 0
Low (Found a n) = a < address_end
Low (Fault kind stage level n) = Unit {0}
Low (During kind level of n) = Unit {0}
Low Refused = Unit {0}

pub record Bounded (most : ℕ) (x : Answer) : Type 0 where
  pub low : Low x
  pub few : fetched_in x ≤ most

bounded : (fits : Bool) (r : BothResult) (n most : ℕ) → Low (as_answer r 0) → n ≤ most → Bounded most (cond fits (as_answer r n) Refused)
bounded false r n most l h = record { low = tt; few = omega arith }
bounded true (found a) n most l h = record { low = l; few = h }
bounded true (fault kind stage level) n most l h = record { low = tt; few = h }
bounded true (during kind level of) n most l h = record { low = tt; few = h }

low_2 : (r : Stage2Result) → LowResult r → Low (as_answer (stage_2_only r) 0)
low_2 (reached a) l = l
low_2 (failed kind level) l = tt

pub answer_2_bounds : (m : List ℕ) (b n root ipa access : ℕ) → Bounded most_by_stage_2 (answer_2 m b n root ipa access)
unfolding answer_2
answer_2_bounds m b n root ipa access =
    let w = stage_2 m b root access ipa in
    let short = stage_2_short m b access ipa root in
    bounded (stage2_fits (length m) b n root ipa access) (stage_2_only w.result) (length w.fetched) 4
    (low_2 w.result short.bounds) short.few

low_both : (m : List ℕ) (b root2 access : ℕ) (r : BothResult) → ResultBounds m b root2 access r → Low (as_answer r 0)
low_both m b root2 access (found a) g = g.0
low_both m b root2 access (fault kind stage level) g = tt
low_both m b root2 access (during kind level of) g = tt

pub answer_bounds : (m : List ℕ) (b n root1 root2 va access el : ℕ) → Bounded 24 (answer m b n root1 root2 va access el)
unfolding answer
answer_bounds m b n root1 root2 va access el =
    let w = both m b root1 root2 va access el in
    let brief = both_brief m b root2 access el va root1 in
    bounded (both_fits (length m) b n root1 root2 access el) w.result (length w.fetched) 24
    (low_both m b root2 access w.result brief.bounds) brief.few
