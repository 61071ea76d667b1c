-- A frame becomes a page by hand alone, and nobody is led to it then.
use mathlib.Core.Path.{◌≡◌, refl, sym, ap, ◌∙◌}
use mathlib.Core.Bool.{Bool, true, false, cond}
use mathlib.Core.Logic.{◌⊎◌, inl, inr}
use Prim.Native.Nat.{ℕ, ◌+◌, ◌-◌}
use Rattle.model.proofs.Laws.Base.{upd_at, eq?, upd_other}
use Rattle.model_moves.specs.Spaces.{Spaces, free, claimed, table, emptied, page, draining, exists}
use Rattle.model_moves.specs.Cache.{Caches, Translation, kept, Reach}
use Rattle.model_moves.specs.Moves.{rooted, of_space, Move, put, claim, link, enter, clear, unhook, hand, lend, retire, release, open_space, end, dissolve}
use Rattle.model_moves.specs.Machine.{Machine, Step, moves, reports, looks, stores}
use Rattle.model_moves.proofs.Invariant.Core.{clash}
use Rattle.model_moves.proofs.Invariant.Found.{traced, page_found_gone}
use Rattle.model_moves.proofs.Invariant.Ledger.{Holds, kind_from}
use Rattle.model_moves.proofs.Invariant.Draining.{set_from}
use Rattle.model_moves.proofs.Invariant.Entries.{same_frame}
use Rattle.model_moves.proofs.Invariant.Holds.{belongs_at, led_belongs, Good, move_holds}
use Rattle.model_moves.proofs.Invariant.Led.{Added, led_before}
use Rattle.model_moves.specs.Terms.{Handed}
use Rattle.model_moves.specs.Path.{deed, hands}
use Rattle.model_moves.proofs.Invariant.Allowed.{reach_allowed, not_belongs, not_allowed}

-- f was free, is all zero, and nothing else has changed that the processor can see
pub record NewPage (s s' : Spaces) (m : Move s s') (f g : ℕ) : Type 0 where
  pub handed : deed m ≡ hands f g
  pub was : s.kind f ≡ free
  pub zeros : (i : ℕ) → s'.word f i ≡ 0
  pub first : s'.first ≡ s.first
  pub there : (c : ℕ) → exists s' c ≡ exists s c
  pub stale : (c j v : ℕ) → s'.stale c j v ≡ s.stale c j v
  pub nothing_added : (c v r : ℕ) → Added m c v f r → ⊥

-- only hand makes a page
pub becomes_page : {s s' : Spaces} (m : Move s s') (f g : ℕ) → s'.kind f ≡ page g → (s.kind f ≡ page g) ⊎ NewPage s s' m f g
becomes_page (put f i x u) a g e = inl e
becomes_page {s} (claim t c h p m) a g e = inl (kind_from s.kind t (claimed c h p) a (page g) e refl)
becomes_page {s} (link t t' c h q x m) a g e = inl (kind_from s.kind t' (table c h q) a (page g) e refl)
becomes_page (enter t c h q x y r m) a g e = inl e
becomes_page (clear t c h q x y r S j m) a g e = inl e
becomes_page {s} (unhook t t' c h q x S j W m) a g e = inl (kind_from s.kind t' (emptied c h q) a (page g) e refl)
becomes_page {s} (hand f o e z) a g k = elim
    (eq? a f) [
      | inl p ↦ inr (record {
        handed = ap (λ (n : ℕ). hands n o) (sym p) ∙ ap (hands a) (same_owner (sym (upd_at s.kind f (page o) a p) ∙ k));
        was = ap s.kind p ∙ e;
        zeros = λ i. ap (λ (n : ℕ). s.word n i) p ∙ z i;
        first = refl;
        there = λ c. refl;
        stale = λ c j v. refl;
        nothing_added = λ c v r x. x;
      })
      | inr p ↦ inl (sym (upd_other s.kind f (page o) a p) ∙ k)
    ]
  where
    same_owner : {g h : ℕ} → page g ≡ page h → g ≡ h
    same_owner {g} {h} e = cc
becomes_page (lend f c how m) a g e = inl e
becomes_page {s} (retire P o W m) a g e = inl (set_from P s.kind (draining o) a (page g) e refl)
becomes_page {s} (release P m) a g e = inl (set_from P s.kind free a (page g) e refl)
becomes_page {s} (open_space c n m) a g e = inl (go (rooted n a) e)
  where
    go : (b : Bool) → cond b (table c n.height (a - n.root)) (s.kind a) ≡ page g → s.kind a ≡ page g
    go true e = absurd (clash {x = table c n.height (a - n.root)} {y = page g} e refl)
    go false e = e
becomes_page (end c S j l w z) a g e = inl e
becomes_page {s} (dissolve c l w) a g e = inl (go (of_space c (s.kind a)) e)
  where
    go : (b : Bool) → cond b free (s.kind a) ≡ page g → s.kind a ≡ page g
    go true e = absurd (clash {x = free} {y = page g} e refl)
    go false e = e

-- a frame that a move hands out is not reached after it either
pub unled_after : (s s' : Spaces) (k : Caches) (m : Move s s') → Holds s k → (f g : ℕ) → NewPage s s' m f g → {c v x r : ℕ} →
    Translation s' k c v x r → x ≡ s'.first + f → ⊥
unled_after s s' k m y f g n {c} {v} {x} {r} t i =
    let y' = move_holds k m y in
    elim (traced s' k y'.core y'.kept t) [
      | inl a ↦ not_belongs s c f r free n.was refl refl (belongs_at s k y (kept a) f (i ∙ ap (λ (z : ℕ). z + f) n.first))
      | inr a ↦
          let g= = same_frame s'.first a.0 f x a.1 i in
          elim (led_before m c v f r (rw g= at a.2)) [
            | inr z ↦ n.nothing_added c v r z
            | inl z ↦ not_belongs s c f r free n.was refl refl (led_belongs s k y c v f r z (λ l.
                let w = page_found_gone s' k y'.core y'.kept t (n.there c ∙ l) in (w.0, λ v. sym (n.stale c w.0 v) ∙ w.1 v)))
          ]
    ]

pub handed : {z z' : Machine} → Good z → Step z z' → (f g : ℕ) → (z.spaces.kind f ≡ page g → ⊥) → z'.spaces.kind f ≡ page g →
    Handed z z' f
unfolding Reach
handed {z} y (moves s a) f g ny e = elim (becomes_page a f g e) [
  | inl b ↦ absurd (ny b)
  | inr b ↦ record {
    was_free = b.was;
    unreached_before = λ c w x i u. not_allowed z.spaces c f w free b.was refl refl (reach_allowed y c w x f i (unfold Reach in u));
    unreached_after = λ c w x i u. unled_after z.spaces s z.caches a y f g b u.2 i;
    all_zero = b.zeros;
  }
]
handed y (reports c R D p) f g ny e = absurd (ny e)
handed y (looks k l) f g ny e = absurd (ny e)
handed y (stores c i o b l a) f g ny e = absurd (ny e)
