-- An operation's deeds about tables, slots and reports are about one guest's space alone.
use mathlib.Core.Path.{◌≡◌, subst}
use mathlib.Core.Logic.{inl, inr}
use Prim.Native.Nat.{ℕ}
use Rattle.model.specs.State
use Rattle.model.specs.Machine.{Operation, Create, Give, Take, Map, Unmap, Share, Unshare, Destroy, Invalidated}
use Rattle.model_moves.specs.Path.{Deed}
use Rattle.model_paths.specs.Goes.{Builds, Does, About, guest}

builds_one : (g : ℕ) (d : Deed) (c : ℕ) → Builds g d → About d c → g ≡ c
builds_one g d c (inl e) a = absurd (subst (λ x. About x c) e.1 a)
builds_one g d c (inr e) a = elim e.2 [ inl b ↦ subst (λ x. About x c) b a | inr b ↦ subst (λ x. About x c) b a ]

pub about_one : (s : State.State) (o : Operation) (d : Deed) (c : ℕ) → Does s o d → About d c → guest o ≡ c
about_one s (Create g pick) d c (inl e) a = absurd (subst (λ x. About x c) e a)
about_one s (Create g pick) d c (inr e) a = subst (λ x. About x c) e a
about_one s (Give f g) d c (inl e) a = absurd (subst (λ x. About x c) e a)
about_one s (Give f g) d c (inr e) a = absurd (subst (λ x. About x c) e a)
about_one s (Take f g) d c (inl e) a = absurd (subst (λ x. About x c) e a)
about_one s (Take f g) d c (inr e) a = absurd (subst (λ x. About x c) e a)
about_one s (Map f g b r pick) d c (inl e) a = builds_one g d c e a
about_one s (Map f g b r pick) d c (inr e) a = subst (λ x. About x c) e a
about_one s (Unmap b g) d c e a = subst (λ x. About x c) e a
about_one s (Share g f h w) d c e a = absurd (subst (λ x. About x c) e a)
about_one s (Unshare g f h) d c e a = absurd (subst (λ x. About x c) e a)
about_one s (Destroy g) d c (inl e) a = subst (λ x. About x c) e a
about_one s (Destroy g) d c (inr e) a = absurd (subst (λ x. About x c) e a)
about_one s (Invalidated g) d c (inl e) a = subst (λ x. About x c) e a
about_one s (Invalidated g) d c (inr (inl e)) a = absurd (subst (λ x. About x c) e.1 a)
about_one s (Invalidated g) d c (inr (inr e)) a = subst (λ x. About x c) e a
