-- The walks of stage 2 that stage 1 makes (document 01, section 5), for the sentence on how many descriptors a complete walk fetches.
-- The same walk of one stage, of which only these are told, in order.
use Rattle.std.specs.Prelude.{ℕ, ◌≡◌, List, [], ◌∷◌, length}
use Rattle.std.proofs.Math.Option.{Option, none, some}
use Rattle.walk_descriptor.specs.Descriptor.{last_level, to_read, allows_1}
use Rattle.walk_level.specs.Stage.{Stage, walk_from}
use Rattle.walk.specs.Memory.{read_at}
use Rattle.walk.specs.Both.{Walked, Stage2Result, reached, failed, stage_2}
use Rattle.walk.specs.Steps.{most_by_stage_2}

abbrev pub Walks : Type 0
Walks = List (Walked Stage2Result)

abbrev pub onward : Stage2Result → (next : ℕ → Walks) → Walks
onward (reached a) next = next a
onward (failed kind level) next = []

abbrev pub read_on : Option ℕ → (next : ℕ → Walks) → Walks
read_on none next = []
read_on (some d) next = next d

unfoldable pub rules_of_walks : (ram : List ℕ) (base root2 access el : ℕ) → Stage Walks
rules_of_walks ram base root2 access el = record {
  allows = allows_1 access el;
  fault = λ kind level. [];
  output = λ ipa. stage_2 ram base root2 access ipa ∷ [];
}

unfoldable pub fetch_of_walks : (ram : List ℕ) (base root2 level ipa : ℕ) → (ℕ → Walks) → Walks
fetch_of_walks ram base root2 level ipa next =
    let w = stage_2 ram base root2 to_read ipa in
    w ∷ onward w.result (λ a. read_on (read_at ram base a) next)

unfoldable pub walks : (ram : List ℕ) (base root1 root2 va access el : ℕ) → Walks
walks ram base root1 root2 va access el =
    walk_from (rules_of_walks ram base root2 access el) va (fetch_of_walks ram base root2) last_level root1

-- each of them went through four levels
abbrev pub EachFour : Walks → Type 0
EachFour [] = Unit {0}
EachFour (w ∷ more) = (length w.fetched ≡ most_by_stage_2) × EachFour more
