-- Document 01, sections 4 and 5: stage 2 in RAM, stage 1 through stage 2, and what is refused.
-- A walk has its result and the physical addresses of the descriptors that it fetched, in order.
use Rattle.std.specs.Prelude.{ℕ, ◌%◌, Bool, cond, ◌&&◌, List, [], ◌∷◌, ◌++◌, length, eqb, ltb}
use Rattle.std.proofs.Math.Option.{Option, none, some}
use Rattle.memory.specs.Ram.{frame_bytes, address_end}
use Rattle.walk_descriptor.specs.declared.FaultKind.{FaultKind}
use Rattle.walk_descriptor.specs.declared.FaultKind.TheVariants.{WalkAbort, Translation}
use Rattle.walk.specs.declared.Answer.{Answer}
use Rattle.walk.specs.declared.Answer.TheVariants.{Found, Fault, During, Refused}
use Rattle.walk.specs.Memory.{image_fits, read_at}
use Rattle.walk_descriptor.specs.Descriptor.{last_level, to_read, kinds_of_access, exception_levels, allows_1, allows_2}
use Rattle.walk_level.specs.Stage.{Stage, walk_from}

pub record Walked (R : Type 0) : Type 0 where
  pub result : R
  pub fetched : List ℕ

abbrev pub ends : {R : Type 0} → R → Walked R
ends r = record { result = r; fetched = [] }

abbrev pub having_fetched : {R : Type 0} → List ℕ → Walked R → Walked R
having_fetched places w = record { result = w.result; fetched = places ++ w.fetched }

-- Section 4. "1. Fetch the descriptor. If its eight bytes are not all in RAM: WALK_ABORT at this level."
abbrev pub fetched_at : {R : Type 0} → (a : ℕ) → Option ℕ → (abort : Walked R) → (next : ℕ → Walked R) → Walked R
fetched_at a none abort next = abort
fetched_at a (some d) abort next = having_fetched (a ∷ []) (next d)

-- Stage 2 ends with an address, or with a kind and a level.
pub data Stage2Result : Type 0 where
  reached : ℕ → Stage2Result
  failed : (kind : FaultKind) (level : ℕ) → Stage2Result

unfoldable pub rules_2 : (access : ℕ) → Stage (Walked Stage2Result)
rules_2 access = record {
  allows = allows_2 access;
  fault = λ kind level. ends (failed kind level);
  output = λ a. ends (reached a);
}

unfoldable pub fetch_2 : (ram : List ℕ) (base level a : ℕ) → (ℕ → Walked Stage2Result) → Walked Stage2Result
fetch_2 ram base level a next = fetched_at a (read_at ram base a) (ends (failed WalkAbort level)) next

unfoldable pub stage_2 : (ram : List ℕ) (base root access ipa : ℕ) → Walked Stage2Result
stage_2 ram base root access ipa = walk_from (rules_2 access) ipa (fetch_2 ram base) last_level root

-- Section 5. "The answer is an address, or kind, stage, level, and for "during stage 1" the second level."
pub data BothResult : Type 0 where
  found : ℕ → BothResult
  fault : (kind : FaultKind) (stage level : ℕ) → BothResult
  during : (kind : FaultKind) (level of : ℕ) → BothResult

-- A guest-physical address goes through stage 2: what a failure there means, and what follows otherwise.
abbrev pub by_result : Stage2Result → (fails : FaultKind → ℕ → BothResult) → (next : ℕ → Walked BothResult) → Walked BothResult
by_result (reached a) fails next = next a
by_result (failed kind level) fails next = ends (fails kind level)

abbrev pub through : Walked Stage2Result → (fails : FaultKind → ℕ → BothResult) → (next : ℕ → Walked BothResult) → Walked BothResult
through w fails next = having_fetched w.fetched (by_result w.result fails next)

-- "If stage 1 succeeds, its result goes through stage 2 with the original kind of access."
unfoldable pub rules_1 : (ram : List ℕ) (base root2 access el : ℕ) → Stage (Walked BothResult)
rules_1 ram base root2 access el = record {
  allows = allows_1 access el;
  fault = λ kind level. ends (fault kind 1 level);
  output = λ ipa. through (stage_2 ram base root2 access ipa) (λ kind level. fault kind 2 level) (λ a. ends (found a));
}

-- "Each stage_1 descriptor's guest-physical address goes through stage 2 as a read. If that fails, the answer is stage 2's failure
-- with its level, marked "during stage 1" with the stage_1 level that was being fetched."
unfoldable pub fetch_1 : (ram : List ℕ) (base root2 level ipa : ℕ) → (ℕ → Walked BothResult) → Walked BothResult
fetch_1 ram base root2 level ipa next =
    through (stage_2 ram base root2 to_read ipa) (λ kind level2. during kind level2 level)
    (λ a. fetched_at a (read_at ram base a) (ends (fault WalkAbort 1 level)) next)

unfoldable pub stage_1 : (ram : List ℕ) (base root1 root2 va access el : ℕ) → Walked BothResult
stage_1 ram base root1 root2 va access el =
    walk_from (rules_1 ram base root2 access el) va (fetch_1 ram base root2) last_level root1

-- "A virtual address with a bit of 63..48 set: TRANSLATION, stage 1, level 0, and no descriptor is fetched."
unfoldable pub both : (ram : List ℕ) (base root1 root2 va access el : ℕ) → Walked BothResult
both ram base root1 root2 va access el =
    cond (ltb va address_end) (stage_1 ram base root1 root2 va access el) (ends (fault Translation 1 0))

-- "Refused .. and nothing fetched: numbers that don't fit section 1, a root that isn't a multiple of 4,096 or is 2^48 or more,
-- another kind or level, and, where stage 2 is walked alone, a guest-physical address of 2^48 or more."
unfoldable pub root_fits : (root : ℕ) → Bool
root_fits root = eqb (root % frame_bytes) 0 && ltb root address_end

unfoldable pub stage2_fits : (len base frames root ipa access : ℕ) → Bool
stage2_fits len base frames root ipa access =
    image_fits len base frames && (root_fits root && (ltb access kinds_of_access && ltb ipa address_end))

unfoldable pub both_fits : (len base frames root1 root2 access el : ℕ) → Bool
both_fits len base frames root1 root2 access el =
    image_fits len base frames
    && (root_fits root1 && (root_fits root2 && (ltb access kinds_of_access && ltb el exception_levels)))

-- What the two public functions answer: the result, and how many descriptors were fetched.
abbrev pub as_answer : BothResult → (fetched : ℕ) → Answer
as_answer (found a) n = Found a n
as_answer (fault kind stage level) n = Fault kind stage level n
as_answer (during kind level of) n = During kind level of n

-- a result of stage 2 alone is one of both stages
abbrev pub stage_2_only : Stage2Result → BothResult
stage_2_only (reached a) = found a
stage_2_only (failed kind level) = fault kind 2 level

abbrev pub as_answer_2 : Stage2Result → (fetched : ℕ) → Answer
as_answer_2 r n = as_answer (stage_2_only r) n

-- how many descriptors an answer says were fetched
abbrev pub fetched_in : Answer → ℕ
fetched_in (Found a n) = n
fetched_in (Fault kind stage level n) = n
fetched_in (During kind level of n) = n
fetched_in Refused = 0

unfoldable pub answer_2 : (ram : List ℕ) (base frames root ipa access : ℕ) → Answer
answer_2 ram base frames root ipa access =
    let w = stage_2 ram base root access ipa in
    cond (stage2_fits (length ram) base frames root ipa access) (as_answer_2 w.result (length w.fetched)) Refused

unfoldable pub answer : (ram : List ℕ) (base frames root1 root2 va access el : ℕ) → Answer
answer ram base frames root1 root2 va access el =
    let w = both ram base root1 root2 va access el in
    cond (both_fits (length ram) base frames root1 root2 access el) (as_answer w.result (length w.fetched)) Refused
