-- What the two public functions test of their numbers: that they fit, and so that access and level are read.
use Prim.Native.Nat.{ℕ, ◌<◌}
use mathlib.Core.Path.{◌≡◌, refl, sym, subst}
use mathlib.Core.Bool.{Bool, true, false, ◌&&◌}
use mathlib.Core.List.{List}
use borrow.Author.Tests.{le-ltb}
use lib.Dec.{ltb}
use lib.ListN.{length}
use Rattle.std.specs.Prelude.{Result, Ok, Err, is_ok}
use Rattle.memory.specs.Ram.{address_end}
use Rattle.walk_descriptor.specs.declared.Access.{Access}
use Rattle.walk_descriptor.specs.declared.Access.TheVariants.{Read, Write, Execute}
use Rattle.walk_descriptor.specs.declared.ExceptionLevel.{ExceptionLevel}
use Rattle.walk_descriptor.specs.declared.ExceptionLevel.TheVariants.{El0, El1}
use Rattle.walk_descriptor.specs.declared.NoSuch.{NoSuch}
use Rattle.walk_descriptor.specs.Descriptor.{kinds_of_access, exception_levels}
use Rattle.walk_descriptor.specs.Numbers.{access_number, el_number, Reads}
use Rattle.walk.specs.declared.Answer.TheVariants.{Refused}
use Rattle.walk.specs.Memory.{image_fits}
use Rattle.walk.specs.Both.{as_answer_2, stage_2, both, root_fits, stage2_fits, both_fits, answer_2, answer}
use Rattle.walk.specs.Steps.{with_count, answered}
use Rattle.walk.proofs.Laws.Bounds.{stage2_root, both_roots}
use Rattle.walk.proofs.Laws.Counts.{count_whole}

and_false : (x : Bool) → (x && false) ≡ false
and_false true = refl
and_false false = refl

is_read : (k : ℕ) (access : Access) → k ≡ access_number access → ltb k kinds_of_access ≡ true
is_read k Read e = rw e
is_read k Write e = rw e
is_read k Execute e = rw e

is_level : (k : ℕ) (el : ExceptionLevel) → k ≡ el_number el → ltb k exception_levels ≡ true
is_level k El0 e = rw e
is_level k El1 e = rw e

not_read : {A : Type 0} (number_of : A → ℕ) (all k : ℕ) {r : Result A NoSuch} {e : NoSuch} → Reads number_of all k r → r ≡ Err e
    → ltb k all ≡ false
not_read number_of all k is e = le-ltb _ _ (subst (Reads number_of all k) e is).1

-- a number is read where it is below how many there are
known_so : {A : Type 0} (number_of : A → ℕ) (all : ℕ) → ((k : ℕ) (x : A) → k ≡ number_of x → ltb k all ≡ true)
    → (k : ℕ) (r : Result A NoSuch) → Reads number_of all k r → is_ok r ≡ ltb k all
known_so number_of all below k (Ok x) is = sym (below k x is)
known_so number_of all below k (Err e) is = sym (not_read number_of all k is refl)

pub access_known : (k : ℕ) (r : Result Access NoSuch) → Reads access_number kinds_of_access k r → is_ok r ≡ ltb k kinds_of_access
access_known = known_so _ _ is_read

pub level_known : (k : ℕ) (r : Result ExceptionLevel NoSuch) → Reads el_number exception_levels k r → is_ok r ≡ ltb k exception_levels
level_known = known_so _ _ is_level

module _ (m : List ℕ) (b n : ℕ) where
  module _ (root ipa access : ℕ) where
    pub low_2 : stage2_fits (length m) b n root ipa access ≡ true → root < address_end
    low_2 e = stage2_root (length m) b n root ipa access e

    pub unfit_2 : stage2_fits (length m) b n root ipa access ≡ false → Refused ≡ answer_2 m b n root ipa access
    unfolding answer_2
    unfit_2 e = simp e

    unread_is : (i r a p : Bool) → a ≡ false → (i && (r && (a && p))) ≡ false
    unread_is true true a p e = rw e
    unread_is true false a p e = refl
    unread_is false r a p e = refl

    pub unread_2 : {r : Result Access NoSuch} {e : NoSuch} → Reads access_number kinds_of_access access r → r ≡ Err e
        → Refused ≡ answer_2 m b n root ipa access
    unfolding stage2_fits
    unread_2 is e =
        unfit_2 (unread_is (image_fits (length m) b n) (root_fits root) (ltb access kinds_of_access) (ltb ipa address_end)
        (not_read access_number kinds_of_access access is e))

    pub asked_2 : (a : Access) → access ≡ access_number a → stage2_fits (length m) b n root ipa access ≡ true
        → with_count as_answer_2 0 (stage_2 m b root (access_number a) ipa) ≡ answer_2 m b n root ipa access
    unfolding answer_2
    asked_2 a is e = simp e (rw is (count_whole _ _))

  module _ (root1 root2 va access el : ℕ) where
    pub low : both_fits (length m) b n root1 root2 access el ≡ true → (root1 < address_end) × (root2 < address_end)
    low e = both_roots (length m) b n root1 root2 access el e

    pub unfit : both_fits (length m) b n root1 root2 access el ≡ false → Refused ≡ answer m b n root1 root2 va access el
    unfolding answer
    unfit e = simp e

    one_unread : (i r s a l : Bool) → (a && l) ≡ false → (i && (r && (s && (a && l)))) ≡ false
    one_unread true true true a l e = e
    one_unread true true false a l e = refl
    one_unread true false s a l e = refl
    one_unread false r s a l e = refl

    unread_so : (ltb access kinds_of_access && ltb el exception_levels) ≡ false → Refused ≡ answer m b n root1 root2 va access el
    unfolding both_fits
    unread_so e =
        unfit (one_unread (image_fits (length m) b n) (root_fits root1) (root_fits root2) (ltb access kinds_of_access)
        (ltb el exception_levels) e)

    pub unread : {r : Result Access NoSuch} {e : NoSuch} → Reads access_number kinds_of_access access r → r ≡ Err e
        → Refused ≡ answer m b n root1 root2 va access el
    unread is e = unread_so (rw (not_read access_number kinds_of_access access is e))

    pub no_level : {r : Result ExceptionLevel NoSuch} {e : NoSuch} → Reads el_number exception_levels el r → r ≡ Err e
        → Refused ≡ answer m b n root1 root2 va access el
    no_level is e = unread_so (simp (not_read el_number exception_levels el is e, and_false))

    pub asked : (a : Access) → access ≡ access_number a → (l : ExceptionLevel) → el ≡ el_number l
        → both_fits (length m) b n root1 root2 access el ≡ true
        → answered 0 (both m b root1 root2 va (access_number a) (el_number l)) ≡ answer m b n root1 root2 va access el
    unfolding answer
    asked a is l is_l e = simp e (rw (is, is_l) (count_whole _ _))
