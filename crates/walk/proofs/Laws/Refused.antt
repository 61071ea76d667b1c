-- An answer is REFUSED where an argument does not fit, and nowhere else.
use Prim.Native.Nat.{ℕ}
use mathlib.Core.Path.{◌≡◌, refl, sym, ap}
use mathlib.Core.Bool.{Bool, true, false, cond}
use mathlib.Core.List.{List}
use lib.ListN.{length}
use mathlib.Core.Logic.{◌↔◌}
use native.Mathlib.Omega.{arith}
use Rattle.walk.specs.declared.Answer.TheVariants.{Refused}
use Rattle.walk.specs.Both.{BothResult, found, fault, during, stage_2_only, as_answer, stage_2, both, stage2_fits, both_fits, answer_2, answer}

answered : (r : BothResult) (n : ℕ) → as_answer r n ≡ Refused → ⊥
answered (found a) n e = let z : ◌≡◌ {A = ℕ} 0 1 = cc in omega arith
answered (fault kind stage level) n e = let z : ◌≡◌ {A = ℕ} 0 1 = cc in omega arith
answered (during kind level of) n e = let z : ◌≡◌ {A = ℕ} 0 1 = cc in omega arith

exactly : (fits : Bool) (r : BothResult) (n : ℕ) → (cond fits (as_answer r n) Refused ≡ Refused) ↔ (fits ≡ false)
exactly true r n =
    (λ e. absurd (answered r n e), λ e. absurd (let z : ◌≡◌ {A = ℕ} 0 1 = ap (λ (t : Bool). cond t 1 0) (sym e) in omega arith))
exactly false r n = (λ e. refl, λ e. refl)

pub refused_so_2 : (m : List ℕ) (b n root ipa access : ℕ)
    → (answer_2 m b n root ipa access ≡ Refused) ↔ (stage2_fits (length m) b n root ipa access ≡ false)
unfolding answer_2
refused_so_2 m b n root ipa access =
    let w = stage_2 m b root access ipa in
    exactly (stage2_fits (length m) b n root ipa access) (stage_2_only w.result) (length w.fetched)

pub refused_so : (m : List ℕ) (b n root1 root2 va access el : ℕ)
    → (answer m b n root1 root2 va access el ≡ Refused) ↔ (both_fits (length m) b n root1 root2 access el ≡ false)
unfolding answer
refused_so m b n root1 root2 va access el =
    let w = both m b root1 root2 va access el in
    exactly (both_fits (length m) b n root1 root2 access el) w.result (length w.fetched)
