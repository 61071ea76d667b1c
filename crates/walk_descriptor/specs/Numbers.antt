-- Document 01's numbers for a kind of access and an exception level, and what a number that is read comes to.
use Rattle.std.specs.Prelude.{ℕ, ◌≡◌, ◌≤◌, Bool, Result, MatchResult}
use Rattle.walk_descriptor.specs.declared.Access.{Access}
use Rattle.walk_descriptor.specs.declared.Access.TheVariants.{Read, Write, Execute}
use Rattle.walk_descriptor.specs.declared.ExceptionLevel.{ExceptionLevel}
use Rattle.walk_descriptor.specs.declared.ExceptionLevel.TheVariants.{El0, El1}
use Rattle.walk_descriptor.specs.declared.NoSuch.{NoSuch}
use Rattle.walk_descriptor.specs.declared.AtStage1.{AtStage1}
use Rattle.walk_descriptor.specs.declared.AtStage2.{AtStage2}
use Rattle.walk_descriptor.specs.declared.Wanted.{Wanted}
use Rattle.walk_descriptor.specs.declared.Wanted.TheVariants.{Stage1, Stage2}
use Rattle.walk_descriptor.specs.Descriptor.{to_read, to_write, to_execute, el0, el1, allows_1, allows_2}

abbrev pub access_number : Access → ℕ
access_number Read = to_read
access_number Write = to_write
access_number Execute = to_execute

abbrev pub el_number : ExceptionLevel → ℕ
el_number El0 = el0
el_number El1 = el1

-- whether the rights in a descriptor allow what is wanted
abbrev pub stage_1_rights : AtStage1 → (d : ℕ) → Bool
stage_1_rights at = allows_1 (access_number at.access) (el_number at.el)

abbrev pub stage_2_rights : AtStage2 → (d : ℕ) → Bool
stage_2_rights at = allows_2 (access_number at.access)

abbrev pub rights_of : Wanted → (d : ℕ) → Bool
rights_of (Stage1 at) = stage_1_rights at
rights_of (Stage2 at) = stage_2_rights at

-- A number that is read gives what it stands for, or comes back where it is not below `all`, as many as there are.
abbrev pub Reads : {A : Type 0} → (number_of : A → ℕ) (all n : ℕ) → Result A NoSuch → Type 0
Reads number_of all n r = MatchResult r (λ x. n ≡ number_of x) (λ e. (e.0 ≡ n) × (all ≤ n))
