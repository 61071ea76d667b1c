-- A frame that an operation makes a page: the operation is give, and nobody reaches the frame after it, though the processor looked all
-- the way.
use mathlib.Core.Path.{◌≡◌, refl, sym, ap, ◌∙◌, subst}
use mathlib.Core.Logic.{◌⊎◌, inl, inr}
use Prim.Native.Nat.{ℕ, ◌+◌}
use Rattle.model.specs.Base.{upd}
use Rattle.model.proofs.Laws.Base.{upd_at}
use Rattle.model.specs.State
use Rattle.model.specs.Machine.{Operation, Create, Give, Take, Map, Unmap, Share, Unshare, Destroy, Invalidated}
use Rattle.model_moves.specs.Spaces.{Spaces, free, page}
use Rattle.model_moves.specs.Cache.{Caches, Translation, Looks}
use Rattle.model_moves.specs.Moves.{Move, put, claim, link, enter, clear, unhook, hand, lend, retire, release, open_space, end, dissolve}
use Rattle.model_moves.specs.Path.{Path, here, move, report, Watched, at_end, at_move, at_report, Deed, puts, claims, links, clears, unhooks, enters, hands, lends, retires, releases, opens, ends, dissolves, tells, deed, Along}
use Rattle.model_moves.proofs.Invariant.Core.{clash}
use Rattle.model_moves.proofs.Invariant.Found.{looks_kept, looks_back}
use Rattle.model_moves.proofs.Invariant.Ledger.{Holds}
use Rattle.model_moves.proofs.Invariant.Holds.{move_holds}
use Rattle.model_moves.proofs.Invariant.Hands.{NewPage, becomes_page, unled_after}
use Rattle.model_paths.specs.Goes.{Builds, Does}

-- the two deeds of give
abbrev Gives : Deed → Type 0
Gives (puts f u) = Unit {0}
Gives (claims c h q) = ⊥
Gives (links c h q) = ⊥
Gives (clears c h q) = ⊥
Gives (unhooks c h q) = ⊥
Gives (enters c h q y r) = ⊥
Gives (hands f g) = Unit {0}
Gives (lends f c how) = ⊥
Gives (retires g P) = ⊥
Gives (releases P) = ⊥
Gives (opens c) = ⊥
Gives (ends c) = ⊥
Gives (dissolves c) = ⊥
Gives (tells c) = ⊥

abbrev Hands : Deed → Type 0
Hands (puts f u) = ⊥
Hands (claims c h q) = ⊥
Hands (links c h q) = ⊥
Hands (clears c h q) = ⊥
Hands (unhooks c h q) = ⊥
Hands (enters c h q y r) = ⊥
Hands (hands f g) = Unit {0}
Hands (lends f c how) = ⊥
Hands (retires g P) = ⊥
Hands (releases P) = ⊥
Hands (opens c) = ⊥
Hands (ends c) = ⊥
Hands (dissolves c) = ⊥
Hands (tells c) = ⊥

-- no translation leads to frame f
abbrev pub Unled : (s : Spaces) (k : Caches) (f : ℕ) → Type 0
Unled s k f = (c v x r : ℕ) → Translation s k c v x r → x ≡ s.first + f → ⊥

module _ (f g : ℕ) where
  abbrev Deeds : Deed → Type 0
  Deeds d = (d ≡ puts f free) ⊎ (d ≡ hands f g)

  gives : (d : Deed) → Deeds d → Gives d
  gives d (inl e) = subst Gives (sym e) tt
  gives d (inr e) = subst Gives (sym e) tt

  -- free still, or a page that nobody is led to
  abbrev So : (s : Spaces) (k : Caches) → Type 0
  So s k = (s.kind f ≡ free) ⊎ ((s.kind f ≡ page g) × Unled s k f)

  so_looks : (s : Spaces) (k k' : Caches) → Looks s k k' → So s k → So s k'
  so_looks s k k' l (inl e) = inl e
  so_looks s k k' l (inr e) = inr (e.0, λ c v x r t. e.1 c v x r (looks_back s k k' l t))

  same_put : (a : ℕ) (s : Spaces) → puts a (s.kind a) ≡ puts f free → s.kind f ≡ free
  same_put a s e = let a= : a ≡ f = cc in let u : s.kind a ≡ free = cc in ap s.kind (sym a=) ∙ u

  put_not_hand : (a : ℕ) (s : Spaces) → puts a (s.kind a) ≡ hands f g → ⊥
  put_not_hand a s e = subst (λ d. Hands d → ⊥) e (λ z. z) tt

  after : (s s' : Spaces) (k : Caches) (m : Move s s') → Holds s k → Deeds (deed m) → So s k → So s' k
  after s s' k (put a i x u) y (inl e) o = inl (same_put a s e)
  after s s' k (put a i x u) y (inr e) o = absurd (put_not_hand a s e)
  after s s' k (claim t c h p m) y d o = absurd (gives (claims c h p) d)
  after s s' k (link t t' c h q x m) y d o = absurd (gives (links c h q) d)
  after s s' k (enter t c h q x b r m) y d o = absurd (gives (enters c h q b r) d)
  after s s' k (clear t c h q x b r S j m) y d o = absurd (gives (clears c h q) d)
  after s s' k (unhook t t' c h q x S j W m) y d o = absurd (gives (unhooks c h q) d)
  after s s' k (hand a b e z) y d o = go (becomes_page (hand a b e z) f g there)
    where
      it : hands a b ≡ hands f g
      it = elim d [ inl q ↦ absurd (subst Hands q tt) | inr q ↦ q ]

      was : s.kind f ≡ free
      was = let q : hands a b ≡ hands f g = it in let a= : a ≡ f = cc in ap s.kind (sym a=) ∙ e

      there : upd s.kind a (page b) f ≡ page g
      there =
          let q : hands a b ≡ hands f g = it in let a= : a ≡ f = cc in let b= : b ≡ g = cc in
          upd_at s.kind a (page b) f (sym a=) ∙ ap page b=

      go : (s.kind f ≡ page g) ⊎ NewPage s s' (hand a b e z) f g → So s' k
      go (inl q) = absurd (clash {x = free} {y = page g} (sym was ∙ q) refl)
      go (inr n) = inr (there, λ c v x r t i. unled_after s s' k (hand a b e z) y f g n t i)
  after s s' k (lend a c how m) y d o = absurd (gives (lends a c how) d)
  after s s' k (retire P b W m) y d o = absurd (gives (retires b P) d)
  after s s' k (release P m) y d o = absurd (gives (releases P) d)
  after s s' k (open_space c n m) y d o = absurd (gives (opens c) d)
  after s s' k (end c S j l w e) y d o = absurd (gives (ends c) d)
  after s s' k (dissolve c l e) y d o = absurd (gives (dissolves c) d)

  along : (s z : Spaces) (p : Path s z) (k k'' : Caches) → Watched s z p k k'' → Along Deeds p → Holds s k → So s k → So z k''
  along s z p k k'' (at_end l) d y o = so_looks s k k'' l o
  along s z p k k'' (at_move {s' = s'} {k' = k'} {p = q} m l w) d y o =
      let y' : Holds s k' = record { core = y.core; kept = looks_kept s k y.core y.kept k' l } in
      along s' z q k' k'' w d.1 (move_holds k' m y') (after s s' k' m y' d.0 (so_looks s k k' l o))
  along s z p k k'' (at_report c R D r l w) d y o = absurd (gives (tells c) d.0)

  -- after give, nobody is led to the page
  pub given_unled : (s z : Spaces) (p : Path s z) (k k'' : Caches) → Watched s z p k k'' → Along Deeds p → Holds s k → s.kind f ≡ free →
      z.kind f ≡ page g → Unled z k'' f
  given_unled s z p k k'' w d y e q = elim (along s z p k k'' w d y (inl e)) [
    | inl b ↦ absurd (clash {x = free} {y = page g} (sym b ∙ q) refl)
    | inr b ↦ b.1
  ]

-- what is a page at the end of a path was one, or is handed out on it
pub page_from : (D : Deed → Type 0) {s z : Spaces} (p : Path s z) → Along D p → (f g : ℕ) → z.kind f ≡ page g →
    (s.kind f ≡ page g) ⊎ D (hands f g)
page_from D here d f g e = inl e
page_from D (move m p) d f g e = elim (page_from D p d.1 f g e) [
  | inr a ↦ inr a
  | inl a ↦ elim (becomes_page m f g a) [ inl b ↦ inl b | inr b ↦ inr (subst D b.handed d.0) ]
]
page_from D (report c R E r p) d f g e = page_from D p d.1 f g e

builds_not : (c f g : ℕ) → Builds c (hands f g) → ⊥
builds_not c f g (inl e) = subst Hands e.1 tt
builds_not c f g (inr e) = elim e.2 [ inl b ↦ subst Hands b tt | inr b ↦ subst Hands b tt ]

-- only give hands out
pub only_give : (s : State.State) (o : Operation) (f g : ℕ) → Does s o (hands f g) → o ≡ Give f g
only_give s (Create h pick) f g (inl e) = absurd (subst Hands e tt)
only_give s (Create h pick) f g (inr e) = absurd (subst Hands e tt)
only_give s (Give a h) f g (inl e) = absurd (subst Hands e tt)
only_give s (Give a h) f g (inr e) = cc
only_give s (Take a h) f g (inl e) = absurd (subst Hands e tt)
only_give s (Take a h) f g (inr e) = absurd (subst Hands e tt)
only_give s (Map a h b r pick) f g (inl e) = absurd (builds_not h f g e)
only_give s (Map a h b r pick) f g (inr e) = absurd (subst Hands e tt)
only_give s (Unmap a h) f g e = absurd (subst Hands e tt)
only_give s (Share h a c w) f g e = absurd (subst Hands e tt)
only_give s (Unshare h a c) f g e = absurd (subst Hands e tt)
only_give s (Destroy h) f g (inl e) = absurd (subst Hands e tt)
only_give s (Destroy h) f g (inr e) = absurd (subst Hands e tt)
only_give s (Invalidated h) f g (inl e) = absurd (subst Hands e tt)
only_give s (Invalidated h) f g (inr (inl e)) = absurd (subst Hands e.1 tt)
only_give s (Invalidated h) f g (inr (inr e)) = absurd (subst Hands e tt)
