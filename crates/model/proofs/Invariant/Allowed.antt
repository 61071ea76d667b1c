-- From the invariant's words to the theorems'.
use mathlib.Core.Path.{◌≡◌, refl, sym, ◌∙◌}
use mathlib.Core.Bool.{true, false, ◌&&◌, ◌||◌}
use mathlib.Core.Logic.{◌⊎◌, inl, inr}
use Prim.Native.Nat.{ℕ, ◌+◌, ◌≤◌, ◌<◌, ◌/◌, ◌%◌}
use native.Mathlib.Omega.{arith}
use lib.Dec.{eqb, ltb, leb}
use borrow.Author.Tests.{eqb-true, ltb-true, le-leb, le-ltb}
use Rattle.model.proofs.Laws.Base.{and_true}
use Rattle.model.specs.State.{State, KindOfFrame, page, draining_page}
use Rattle.model.specs.Operations.{shares}
use Rattle.model.specs.Cache.{Access, reading, writing, executing, grants}
use Rattle.model.specs.Machine.{Machine, Reaches}
use Rattle.model.specs.Terms.{lends, Allowed}
use Rattle.model.specs.State.{kind_number, DRAINING_PAGE, PAGE}
use Rattle.model.proofs.Invariant.Kinds.{clash}
use Rattle.model.specs.Invariant.{May, Core}
use Rattle.model.proofs.Invariant.Core.{low}
use Rattle.model.proofs.Invariant.Holds.{Holds, reached}

lends_is : (how r : ℕ) (w : Access) → shares how r ≡ true → grants r w ≡ true → lends how w ≡ true
unfolding shares
lends_is how r reading e q = let a = ltb-true 0 how (and_true (ltb 0 how) (ltb r 4)
    (and_true (ltb 0 how && ltb r 4) (ltb r 2 || leb 2 how) e).0).0 in le-leb 1 how (omega arith)
lends_is how r writing e q =
    let a = eqb-true (r / 2 % 2) 1 q in
    let b : 2 ≤ r = omega arith in
    rw (le-ltb r 2 b) at (and_true (ltb 0 how && ltb r 4) (ltb r 2 || leb 2 how) e).1
lends_is how r executing e q =
    let a = eqb-true (r / 4 % 2) 1 q in
    let b = ltb-true r 4 (and_true (ltb 0 how) (ltb r 4) (and_true (ltb 0 how && ltb r 4) (ltb r 2 || leb 2 how) e).0).1 in
    absurd (omega arith)

pub may_allowed : (s : State) (g f r : ℕ) (w : Access) → grants r w ≡ true → May s g f r ⊎ (s.kind f ≡ draining_page g) → Allowed s g f w
may_allowed s g f r w q (inl (inl a)) = inl a
may_allowed s g f r w q (inl (inr a)) = inr (inl (a.0, a.1, lends_is (s.shared f g) r w a.2 q))
may_allowed s g f r w q (inr a) = inr (inr a)

allowed_low : (s : State) → Core s → (g f : ℕ) (w : Access) → Allowed s g f w → f < s.size
allowed_low s c g f w (inl a) = low s c f (page g) a refl
allowed_low s c g f w (inr (inl a)) = low s c f (page a.0) a.1 refl
allowed_low s c g f w (inr (inr a)) = low s c f (draining_page g) a refl

pub reach_allowed : {z : Machine} → Holds z → (g : ℕ) (w : Access) (a : ℕ) → Reaches z g w a →
    (f : ℕ) × (a / 4096 ≡ z.state.first + f) × (f < z.state.size) × Allowed z.state g f w
reach_allowed {z} h g w a x =
    let b = reached z.state z.caches h.core h.kept g w a x in
    let m = may_allowed z.state g b.0 b.1 w b.3 b.4 in
    (b.0, b.2, allowed_low z.state h.core g b.0 w m, m)

-- where the frame is known
pub frame_allowed : {z : Machine} → Holds z → (g : ℕ) (w : Access) (a f : ℕ) → a / 4096 ≡ z.state.first + f → Reaches z g w a →
    Allowed z.state g f w
frame_allowed {z} h g w a f e x =
    let b = reach_allowed h g w a x in
    let b1 = b.1 in
    let f= : b.0 ≡ f = omega arith in
    rw f= at b.3

-- two guests
pub both_allowed : (s : State) (g h f : ℕ) (w w' : Access) → (g ≡ h → ⊥) → Allowed s g f w → Allowed s h f w' →
    (o : ℕ) × (s.kind f ≡ page o) × ((o ≡ g) ⊎ (lends (s.shared f g) w ≡ true)) × ((o ≡ h) ⊎ (lends (s.shared f h) w' ≡ true))
both_allowed s g h f w w' ne (inl a) (inl b) = absurd (ne (cc))
both_allowed s g h f w w' ne (inl a) (inr (inl b)) = (g, a, inl refl, inr b.2)
both_allowed s g h f w w' ne (inl a) (inr (inr b)) = absurd (clash {x = page g} {y = draining_page h} (sym a ∙ b) refl)
both_allowed s g h f w w' ne (inr (inl a)) (inl b) = (h, b, inr a.2, inl refl)
both_allowed s g h f w w' ne (inr (inl a)) (inr (inl b)) = (a.0, a.1, inr a.2, inr b.2)
both_allowed s g h f w w' ne (inr (inl a)) (inr (inr b)) = absurd (clash {x = page a.0} {y = draining_page h} (sym a.1 ∙ b) refl)
both_allowed s g h f w w' ne (inr (inr a)) (inl b) = absurd (clash {x = draining_page g} {y = page h} (sym a ∙ b) refl)
both_allowed s g h f w w' ne (inr (inr a)) (inr (inl b)) = absurd (clash {x = draining_page g} {y = page b.0} (sym a ∙ b.1) refl)
both_allowed s g h f w w' ne (inr (inr a)) (inr (inr b)) = absurd (ne (cc))

-- a page of o that g accesses
pub of_owner : (s : State) (g f o : ℕ) (w : Access) → s.kind f ≡ page o → Allowed s g f w → (o ≡ g) ⊎ (lends (s.shared f g) w ≡ true)
of_owner s g f o w e (inl a) = inl (cc)
of_owner s g f o w e (inr (inl a)) = inr a.2
of_owner s g f o w e (inr (inr a)) = absurd (clash {x = page o} {y = draining_page g} (sym e ∙ a) refl)

-- frames that are neither pages nor drain as pages
pub not_allowed : (s : State) (g f : ℕ) (w : Access) (x : KindOfFrame) → s.kind f ≡ x → eqb PAGE (kind_number x) ≡ false →
    eqb DRAINING_PAGE (kind_number x) ≡ false → Allowed s g f w → ⊥
not_allowed s g f w x e a b (inl h) = clash {x = page g} {y = x} (sym h ∙ e) a
not_allowed s g f w x e a b (inr (inl h)) = clash {x = page h.0} {y = x} (sym h.1 ∙ e) a
not_allowed s g f w x e a b (inr (inr h)) = clash {x = draining_page g} {y = x} (sym h ∙ e) b
