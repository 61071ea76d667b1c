-- Addresses that a walk meets are below 2^48, and a table is found above level 3 only.
use Prim.Native.Nat.{ℕ, zero, suc, ◌+◌, ◌%◌, ◌≤◌, ◌<◌}
use mathlib.Core.Path.{◌≡◌, refl}
use mathlib.Core.Bool.{Bool, true, false, cond, ◌&&◌, false≢true}
use mathlib.Core.List.{List}
use mathlib.Core.Option.{Option, none, some}
use native.Mathlib.Omega.{arith}
use borrow.Author.Tests.{ltb-true, eqb-true}
use lib.Dec.{eqb, ltb}
use Rattle.memory.specs.Ram.{frame_bytes, address_end}
use Rattle.walk_descriptor.specs.declared.FaultKind.TheVariants.{Translation, NotModelled, AccessFlag, Permission}
use Rattle.walk_level.specs.declared.Step.{Step}
use Rattle.walk_level.specs.declared.Step.TheVariants.{Absent, Down, Output, Fail}
use Rattle.walk.specs.Memory.{image_fits, read_at}
use Rattle.walk_descriptor.specs.Descriptor.{span, bit, address, is_table, is_valid, is_modelled, last_level, kinds_of_access, exception_levels, bits_50_to_48, low_bits}
use Rattle.walk_level.specs.Stage.{valid, leaf, meaning}
use Rattle.walk.specs.Both.{root_fits, stage2_fits, both_fits}
use Rattle.walk_level.specs.Step.{step_of}
use Rattle.walk.specs.Steps.{step_read, step_at}

pub and_left : (a b : Bool) → (a && b) ≡ true → a ≡ true
and_left true b e = refl
and_left false b e = absurd (false≢true e)

pub and_right : (a b : Bool) → (a && b) ≡ true → b ≡ true
and_right true b e = e
and_right false b e = absurd (false≢true e)

-- what holds at the four levels holds at every level
pub at_levels : (P : ℕ → Type 0) → P 0 → P 1 → P 2 → P 3 → (level : ℕ) → level ≤ last_level → P level
at_levels P p q r s zero le = p
at_levels P p q r s (suc zero) le = q
at_levels P p q r s (suc (suc zero)) le = r
at_levels P p q r s (suc (suc (suc zero))) le = s
at_levels P p q r s (suc (suc (suc (suc n)))) le = absurd (omega arith)

-- an aligned block below 2^48 ends there too
block_low : (a x level : ℕ) → level ≤ last_level → a % span level ≡ 0 → a < address_end → a + x % span level < address_end
block_low a x =
    at_levels (λ level. a % span level ≡ 0 → a < address_end → a + x % span level < address_end)
    (λ e l. omega arith) (λ e l. omega arith) (λ e l. omega arith) (λ e l. omega arith)

abbrev pub InBounds : ℕ → Step → Type 0
InBounds level Absent = Unit {0}
InBounds level (Down t) = (level < last_level) × (t < address_end)
InBounds level (Output o) = o < address_end
InBounds level (Fail kind) = Unit {0}

module _ (ia level d : ℕ) (le : level ≤ last_level) where
  aligned : is_modelled level d ≡ true → is_table level d ≡ false → address d % span level ≡ 0
  aligned m t =
      eqb-true (address d % span level) 0
      (and_right (eqb (bits_50_to_48 d) 0) (eqb (address d % span level) 0) (simp t at m))

  by_tests : (v m t f r : Bool) → is_modelled level d ≡ m → is_table level d ≡ t
      → InBounds level
      (cond v
      (cond m
      (cond t (Down (address d)) (cond f (Fail AccessFlag) (cond r (Output (address d + ia % span level)) (Fail Permission))))
      (Fail NotModelled))
      (Fail Translation))
  by_tests false m t f r p q = tt
  by_tests true false t f r p q = tt
  by_tests true true true f r p q = (ltb-true level 3 (and_right (eqb (low_bits d) 3) (ltb level last_level) q), omega arith)
  by_tests true true false true r p q = tt
  by_tests true true false false true p q = block_low (address d) ia level le (aligned p q) (omega arith)
  by_tests true true false false false p q = tt

  pub step_of_in_bounds : (rights : ℕ → Bool) → InBounds level (step_of rights ia level d)
  unfolding step_of meaning valid leaf
  step_of_in_bounds rights =
      by_tests (is_valid level d) (is_modelled level d) (is_table level d) (eqb (bit 10 d) 0) (rights d) refl refl

step_read_in_bounds : (rights : ℕ → Bool) (ia level : ℕ) → level ≤ last_level → (o : Option ℕ)
    → InBounds level (step_read rights ia level o)
step_read_in_bounds rights ia level le none = tt
step_read_in_bounds rights ia level le (some d) = step_of_in_bounds ia level d le rights

pub step_in_bounds : (m : List ℕ) (b : ℕ) (rights : ℕ → Bool) (ia level a : ℕ) → level ≤ last_level
    → InBounds level (step_at m b rights ia level a)
unfolding step_at
step_in_bounds m b rights ia level a le = step_read_in_bounds rights ia level le (read_at m b a)

pub root_low : (root : ℕ) → root_fits root ≡ true → root < address_end
unfolding root_fits
root_low root e = ltb-true root address_end (and_right (eqb (root % frame_bytes) 0) (ltb root address_end) e)

-- the roots of a walk whose arguments fit
pub stage2_root : (len b n root ipa access : ℕ) → stage2_fits len b n root ipa access ≡ true → root < address_end
unfolding stage2_fits
stage2_root len b n root ipa access e =
    let roots = and_right (image_fits len b n) (root_fits root && (ltb access kinds_of_access && ltb ipa address_end)) e in
    root_low root (and_left (root_fits root) (ltb access kinds_of_access && ltb ipa address_end) roots)

pub both_roots : (len b n root1 root2 access el : ℕ) → both_fits len b n root1 root2 access el ≡ true
    → (root1 < address_end) × (root2 < address_end)
unfolding both_fits
both_roots len b n root1 root2 access el e =
    let rest = ltb access kinds_of_access && ltb el exception_levels in
    let roots = and_right (image_fits len b n) (root_fits root1 && (root_fits root2 && rest)) e in
    let second = and_right (root_fits root1) (root_fits root2 && rest) roots in
    (root_low root1 (and_left (root_fits root1) (root_fits root2 && rest) roots), root_low root2 (and_left (root_fits root2) rest second))
