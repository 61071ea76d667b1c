-- Two images that agree on what a walk fetched: it goes the same way on both.
use Prim.Native.Nat.{ℕ, zero, suc, ◌+◌, ◌-◌}
use mathlib.Core.Path.{◌≡◌, refl, sym, ap, subst, ◌∙◌}
use mathlib.Core.Bool.{Bool, true, false, cond, ◌&&◌}
use mathlib.Core.List.{List, [], ◌∷◌, ◌++◌}
use mathlib.Core.Option.{Option, none, some}
use lib.Dec.{ltb, leb}
use lib.ListN.{length}
use Rattle.memory.specs.Word.{word_at}
use Rattle.memory.specs.Ram.{address_end}
use Rattle.walk_descriptor.specs.declared.FaultKind.{FaultKind}
use Rattle.walk_descriptor.specs.declared.FaultKind.TheVariants.{WalkAbort, Translation}
use Rattle.walk.specs.declared.Answer.{Answer}
use Rattle.walk.specs.declared.Answer.TheVariants.{Refused}
use Rattle.walk_level.specs.declared.Step.{Step}
use Rattle.walk_level.specs.declared.Step.TheVariants.{Absent, Down, Output, Fail}
use Rattle.walk.specs.Memory.{in_ram, read_at, Agrees}
use Rattle.walk_descriptor.specs.Descriptor.{slot, last_level, to_read}
use Rattle.walk_level.specs.Stage.{Stage, meaning, walk_from}
use Rattle.walk.specs.Both.{Walked, ends, having_fetched, fetched_at, Stage2Result, reached, failed, BothResult, found, fault, during, by_result, through, as_answer, as_answer_2}
use Rattle.walk.specs.Both.{rules_1, rules_2, fetch_1, fetch_2, stage_1, stage_2, both, stage2_fits, both_fits, answer_2, answer}
use Rattle.walk_level.specs.Step.{step_of}
use Rattle.walk.proofs.Laws.OneLevel.{meaning_of_step, meaning_by_step, one_level_last}

module _ (m m' : List ℕ) (b : ℕ) where
  abbrev Agree : List ℕ → Type 0
  Agree = Agrees m m' b

  agree_left : (places more : List ℕ) → Agree (places ++ more) → Agree places
  agree_left [] more h = tt
  agree_left (a ∷ places) more h = (h.0, agree_left places more h.1)

  agree_right : (places more : List ℕ) → Agree (places ++ more) → Agree more
  agree_right [] more h = h
  agree_right (a ∷ places) more h = agree_right places more h.1

  module _ (same : length m ≡ length m') where
    -- a fetch: the same words are in RAM, and what follows is the same where the word that was read is
    fetched_same : {R : Type 0} (a : ℕ) (t : Bool) (abort : Walked R) (next next' : ℕ → Walked R)
        → ((d : ℕ) → Agree (next d).fetched → next d ≡ next' d)
        → Agree (fetched_at a (cond t (some (word_at m (a - b))) none) abort next).fetched
        → fetched_at a (cond t (some (word_at m (a - b))) none) abort next
        ≡ fetched_at a (cond t (some (word_at m' (a - b))) none) abort next'
    fetched_same a true abort next next' h ag =
        ap (having_fetched (a ∷ [])) (h (word_at m (a - b)) ag.1)
        ∙ ap (λ (d : ℕ). having_fetched (a ∷ []) (next' d)) ag.0
    fetched_same a false abort next next' h ag = refl

    read_same : (a : ℕ) → read_at m' b a ≡ cond (in_ram m b a) (some (word_at m' (a - b))) none
    unfolding read_at
    read_same a = ap (λ (len : ℕ). cond (leb b a && leb (a - b + 8) len) (some (word_at m' (a - b))) none) (sym same)

    fetch_same : {R : Type 0} (a : ℕ) (abort : Walked R) (next next' : ℕ → Walked R)
        → ((d : ℕ) → Agree (next d).fetched → next d ≡ next' d)
        → Agree (fetched_at a (read_at m b a) abort next).fetched
        → fetched_at a (read_at m b a) abort next ≡ fetched_at a (read_at m' b a) abort next'
    unfolding read_at
    fetch_same a abort next next' h ag =
        fetched_same a (in_ram m b a) abort next next' h ag
        ∙ ap (λ (o : Option ℕ). fetched_at a o abort next') (sym (read_same a))

    -- one walk on both images, for stages that differ in what they read only
    module _ {R : Type 0} (s s' : Stage (Walked R)) (ia : ℕ) (rights : s.allows ≡ s'.allows)
        (faults : (kind : FaultKind) (level : ℕ) → s.fault kind level ≡ s'.fault kind level)
        (outputs : (o : ℕ) → Agree (s.output o).fetched → s.output o ≡ s'.output o) where
      play_same : (level : ℕ) (below below' : ℕ → Walked R) (x : Step) (abort : Walked R)
          → ((t : ℕ) → Agree (below t).fetched → below t ≡ below' t)
          → Agree (meaning_of_step s ia level below (λ w. w) abort x).fetched
          → meaning_of_step s ia level below (λ w. w) abort x ≡ meaning_of_step s' ia level below' (λ w. w) abort x
      play_same level below below' Absent abort h ag = refl
      play_same level below below' (Down t) abort h ag = h t ag
      play_same level below below' (Output o) abort h ag = outputs o ag
      play_same level below below' (Fail kind) abort h ag = faults kind level

      meaning_same : (level d : ℕ) (below below' : ℕ → Walked R)
          → ((t : ℕ) → Agree (below t).fetched → below t ≡ below' t)
          → Agree (meaning s ia level d below).fetched → meaning s ia level d below ≡ meaning s' ia level d below'
      meaning_same level d below below' h ag =
          let w = meaning s ia level d below in
          let p = meaning_by_step s ia level below (λ w. w) w d in
          p ∙ play_same level below below' (step_of s.allows ia level d) w h (subst (λ (w : Walked R). Agree w.fetched) p ag)
          ∙ ap (λ (allows : ℕ → Bool). meaning_of_step s' ia level below' (λ w. w) w (step_of allows ia level d)) rights
          ∙ sym (meaning_by_step s' ia level below' (λ w. w) w d)

      module _ (fetch fetch' : ℕ → ℕ → (ℕ → Walked R) → Walked R)
          (fetches : (level a : ℕ) (next next' : ℕ → Walked R) → ((d : ℕ) → Agree (next d).fetched → next d ≡ next' d)
          → Agree (fetch level a next).fetched → fetch level a next ≡ fetch' level a next') where
        walk_same : (left table : ℕ) → Agree (walk_from s ia fetch left table).fetched
            → walk_from s ia fetch left table ≡ walk_from s' ia fetch' left table
        unfolding walk_from
        walk_same zero table ag =
            let p = one_level_last s ia fetch table s.output in
            p ∙ fetches 3 (slot 3 ia table) (λ d. meaning s ia 3 d s.output) (λ d. meaning s' ia 3 d s'.output)
            (λ d. meaning_same 3 d s.output s'.output outputs) (subst (λ (w : Walked R). Agree w.fetched) p ag)
            ∙ sym (one_level_last s' ia fetch' table s'.output)
        walk_same (suc left) table ag =
            fetches (last_level - suc left) (slot (last_level - suc left) ia table)
            (λ d. meaning s ia (last_level - suc left) d (walk_from s ia fetch left))
            (λ d. meaning s' ia (last_level - suc left) d (walk_from s' ia fetch' left))
            (λ d. meaning_same (last_level - suc left) d (walk_from s ia fetch left) (walk_from s' ia fetch' left) (walk_same left)) ag

    pub stage_2_local : (root access ipa : ℕ) → Agree (stage_2 m b root access ipa).fetched
        → stage_2 m b root access ipa ≡ stage_2 m' b root access ipa
    unfolding stage_2 rules_2 fetch_2
    stage_2_local root access ipa ag =
        walk_same (rules_2 access) (rules_2 access) ipa refl (λ kind level. refl) (λ o h. refl) (fetch_2 m b) (fetch_2 m' b)
        (λ level a next next' h. fetch_same a (ends (failed WalkAbort level)) next next' h) 3 root ag

    -- a way through stage 2 and what follows
    by_same : (r : Stage2Result) (fails : FaultKind → ℕ → BothResult) (next next' : ℕ → Walked BothResult)
        → ((a : ℕ) → Agree (next a).fetched → next a ≡ next' a)
        → Agree (by_result r fails next).fetched → by_result r fails next ≡ by_result r fails next'
    by_same (reached a) fails next next' h ag = h a ag
    by_same (failed kind level) fails next next' h ag = refl

    through_same : (root2 access ipa : ℕ) (fails : FaultKind → ℕ → BothResult) (next next' : ℕ → Walked BothResult)
        → ((a : ℕ) → Agree (next a).fetched → next a ≡ next' a)
        → Agree (through (stage_2 m b root2 access ipa) fails next).fetched
        → through (stage_2 m b root2 access ipa) fails next ≡ through (stage_2 m' b root2 access ipa) fails next'
    through_same root2 access ipa fails next next' h ag =
        let w = stage_2 m b root2 access ipa in
        let rest = by_result w.result fails next in
        ap (having_fetched w.fetched) (by_same w.result fails next next' h (agree_right w.fetched rest.fetched ag))
        ∙ ap (λ (w : Walked Stage2Result). through w fails next')
        (stage_2_local root2 access ipa (agree_left w.fetched rest.fetched ag))

    stage_1_local : (root1 root2 va access el : ℕ) → Agree (stage_1 m b root1 root2 va access el).fetched
        → stage_1 m b root1 root2 va access el ≡ stage_1 m' b root1 root2 va access el
    unfolding stage_1 rules_1 fetch_1
    stage_1_local root1 root2 va access el ag =
        walk_same (rules_1 m b root2 access el) (rules_1 m' b root2 access el) va refl (λ kind level. refl)
        (λ ipa. through_same root2 access ipa (λ kind level. fault kind 2 level) (λ a. ends (found a)) (λ a. ends (found a)) (λ a h. refl))
        (fetch_1 m b root2) (fetch_1 m' b root2)
        (λ level ipa next next' h. through_same root2 to_read ipa (λ kind level2. during kind level2 level)
        (λ a. fetched_at a (read_at m b a) (ends (fault WalkAbort 1 level)) next)
        (λ a. fetched_at a (read_at m' b a) (ends (fault WalkAbort 1 level)) next')
        (λ a. fetch_same a (ends (fault WalkAbort 1 level)) next next' h))
        3 root1 ag

    both_test : (t : Bool) (w w' : Walked BothResult) → (Agree w.fetched → w ≡ w')
        → Agree (cond t w (ends (fault Translation 1 0))).fetched
        → cond t w (ends (fault Translation 1 0)) ≡ cond t w' (ends (fault Translation 1 0))
    both_test true w w' h ag = h ag
    both_test false w w' h ag = refl

    pub both_local : (root1 root2 va access el : ℕ) → Agree (both m b root1 root2 va access el).fetched
        → both m b root1 root2 va access el ≡ both m' b root1 root2 va access el
    unfolding both
    both_local root1 root2 va access el ag =
        both_test (ltb va address_end) (stage_1 m b root1 root2 va access el) (stage_1 m' b root1 root2 va access el)
        (stage_1_local root1 root2 va access el) ag

    -- the public functions give the same answer on both images
    pub answer_2_same : (n root ipa access : ℕ) → Agree (stage_2 m b root access ipa).fetched
        → answer_2 m b n root ipa access ≡ answer_2 m' b n root ipa access
    unfolding answer_2
    answer_2_same n root ipa access ag =
        let answer_of : ℕ → Walked Stage2Result → Answer =
        λ len w. cond (stage2_fits len b n root ipa access) (as_answer_2 w.result (length w.fetched)) Refused in
        ap (λ (w : Walked Stage2Result). answer_of (length m) w) (stage_2_local root access ipa ag)
        ∙ ap (λ (len : ℕ). answer_of len (stage_2 m' b root access ipa)) same

    pub answer_same : (n root1 root2 va access el : ℕ) → Agree (both m b root1 root2 va access el).fetched
        → answer m b n root1 root2 va access el ≡ answer m' b n root1 root2 va access el
    unfolding answer
    answer_same n root1 root2 va access el ag =
        let answer_of : ℕ → Walked BothResult → Answer =
        λ len w. cond (both_fits len b n root1 root2 access el) (as_answer w.result (length w.fetched)) Refused in
        ap (λ (w : Walked BothResult). answer_of (length m) w) (both_local root1 root2 va access el ag)
        ∙ ap (λ (len : ℕ). answer_of len (both m' b root1 root2 va access el)) same
