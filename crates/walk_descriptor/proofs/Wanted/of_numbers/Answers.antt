-- The definition asks of a number only whether it is one of those that the enums stand for, but for the last: any other is as the last.
use Prim.Native.Nat.{ℕ, ◌≤◌}
use mathlib.Core.Path.{◌≡◌, sym, ◌∙◌}
use lib.Dec.{eqb}
use borrow.Author.Tests.{ne_eqb, eq-eqb}
use native.Mathlib.Omega.{arith}
use Rattle.std.specs.Prelude.{Result, Ok, Err}
use Rattle.std.specs.Result.{result_unwrap_or}
use Rattle.walk_descriptor.specs.declared.Access.{Access}
use Rattle.walk_descriptor.specs.declared.Access.TheVariants.{Execute}
use Rattle.walk_descriptor.specs.declared.ExceptionLevel.{ExceptionLevel}
use Rattle.walk_descriptor.specs.declared.ExceptionLevel.TheVariants.{El0}
use Rattle.walk_descriptor.specs.declared.NoSuch.{NoSuch}
use Rattle.walk_descriptor.specs.Descriptor.{allows, allows_1, allows_2, to_read, to_write, el1, kinds_of_access, exception_levels}
use Rattle.walk_descriptor.specs.Numbers.{access_number, el_number, Reads}
use Rattle.walk_descriptor.proofs.Wanted.of_numbers.Goals as goal

as_access : (n : ℕ) (r : Result Access NoSuch) → Reads access_number kinds_of_access n r → (k : ℕ) → k ≤ to_write
    → eqb (access_number (result_unwrap_or r Execute)) k ≡ eqb n k
as_access n (Ok access) is k low = rw is
as_access n (Err e) is k low = let past = is.1 in ne_eqb _ _ (omega arith) ∙ sym (ne_eqb _ _ (omega arith))

as_el : (n : ℕ) (r : Result ExceptionLevel NoSuch) → Reads el_number exception_levels n r
    → eqb (el_number (result_unwrap_or r El0)) el1 ≡ eqb n el1
as_el n (Ok el) is = rw is
as_el n (Err e) is = let past = is.1 in sym (ne_eqb _ _ (omega arith))

module _ (n m k d : ℕ) (a : Result Access NoSuch) (is_a : Reads access_number kinds_of_access m a) where
  at_stage_2 : n ≡ 2 → allows_2 (access_number (result_unwrap_or a Execute)) d ≡ allows n m k d
  unfolding allows allows_2
  at_stage_2 two = simp (eq-eqb _ _ two, as_access m a is_a to_read (omega arith), as_access m a is_a to_write (omega arith))

  at_stage_1 : (n ≡ 2 → ⊥) → (e : Result ExceptionLevel NoSuch) → Reads el_number exception_levels k e
      → allows_1 (access_number (result_unwrap_or a Execute)) (el_number (result_unwrap_or e El0)) d ≡ allows n m k d
  unfolding allows allows_1
  at_stage_1 one e is_e =
      simp (ne_eqb _ _ one, as_access m a is_a to_read (omega arith), as_access m a is_a to_write (omega arith), as_el k e is_e)

pub returns-then-stage : goal.returns-then-stage
returns-then-stage c = simp c.unwrap_or-access.ensures
    (λ i d. at_stage_2 c.args.stage c.args.access c.args.el d _ c.try_from.ensures c.if-stage.true i)

pub returns-else-stage : goal.returns-else-stage
returns-else-stage c = simp (c.unwrap_or-access.ensures, c.unwrap_or-el.ensures)
    (λ i d. at_stage_1 c.args.stage c.args.access c.args.el d _ c.try_from.ensures c.if-stage.false _ c.try_from-2.ensures i)
