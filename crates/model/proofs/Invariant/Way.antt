-- The way of an address through tables that say what they serve: it stands at each height in the table that serves it.
use mathlib.Core.Path.{◌≡◌, refl, ap}
use mathlib.Core.Bool.{true}
use mathlib.Core.Logic.{inl, inr}
use mathlib.Core.Option.{Option, none, some}
use Prim.Native.Nat.{ℕ, zero, suc, ◌+◌, ◌*◌, ◌<◌, ◌/◌, ◌%◌}
use native.Mathlib.Omega.{arith}
use native.Mathlib.Nat.{div-add-mod'}
use Rattle.model.proofs.Laws.Base.{bool?}
use Rattle.model.specs.State.{State, KindOfFrame, table, page_count}
use Rattle.model.specs.Entry.{Entry, empty, to_table, to_page, other}
use Rattle.model.specs.Translate.{upper, index, entry_at, into, descend, Page, page_in, page_at, leaf, translate}
use Rattle.model.specs.Invariant.{Core}

-- a page of the 2^36: the root serves it
pub root_serves : (x : KindOfFrame) (g v : ℕ) → x ≡ table g 3 0 → v < page_count → x ≡ table g 3 (upper 4 v)
unfolding upper
root_serves x g v h l = let z : v / 512 / 512 / 512 / 512 ≡ 0 = omega arith in rw z h

module _ (s : State) (c : Core s) where
  -- one step down
  pub step_kind : (g h t v t' : ℕ) → s.kind t ≡ table g (suc h) (upper (suc (suc h)) v) → entry_at s t (index (suc h) v) ≡ to_table t' →
      s.kind t' ≡ table g h (upper (suc h) v)
  unfolding upper
  step_kind g h t v t' a q =
      let b = rw q at (c.tables t g (suc h) (upper (suc (suc h)) v) a (index (suc h) v) (omega arith)) in
      rw (div-add-mod' (upper h v / 512) 512) at b

  -- where the way ends
  pub descend_kind : (g h t v : ℕ) → s.kind t ≡ table g h (upper (suc h) v) → (u : ℕ) → descend s h t v ≡ some u →
      s.kind u ≡ table g 0 (v / 512)
  unfolding descend upper
  descend_kind g zero t v a u e = cc
  descend_kind g (suc h) t v a u e = go (descend_kind g h) (entry_at s t (index (suc h) v)) refl
    where
      go : ((t v : ℕ) → s.kind t ≡ table g h (upper (suc h) v) → (u : ℕ) → descend s h t v ≡ some u → s.kind u ≡ table g 0 (v / 512)) →
          (x : Entry) → entry_at s t (index (suc h) v) ≡ x →
          s.kind u ≡ table g 0 (v / 512)
      go ih empty q = cc
      go ih (to_table t') q = ih t' v (step_kind g h t v t' a q) u (cc)
      go ih (to_page f r) q = cc
      go ih (other x) q = cc

  -- a change that leaves every table above height 0 as it was leads every way to the same table
  pub descend_same : (s' : State) → ((t g h p : ℕ) → s.kind t ≡ table g (suc h) p → (i : ℕ) → entry_at s' t i ≡ entry_at s t i) →
      (g h t v : ℕ) → s.kind t ≡ table g h (upper (suc h) v) → descend s' h t v ≡ descend s h t v
  unfolding descend
  descend_same s' same g zero t v a = refl
  descend_same s' same g (suc h) t v a = rw (same t g h (upper (suc (suc h)) v) a (index (suc h) v))
      (go (descend_same s' same g h) (entry_at s t (index (suc h) v)) refl)
    where
      go : ((t v : ℕ) → s.kind t ≡ table g h (upper (suc h) v) → descend s' h t v ≡ descend s h t v) → (x : Entry) →
          entry_at s t (index (suc h) v) ≡ x →
          into (entry_at s t (index (suc h) v)) none (λ t'. descend s' h t' v) ≡
          into (entry_at s t (index (suc h) v)) none (λ t'. descend s h t' v)
      go ih empty q = rw q
      go ih (to_table t') q = rw q (ih t' v (step_kind g h t v t' a q))
      go ih (to_page f r) q = rw q
      go ih (other x) q = rw q

  pub leaf_from : (g v t : ℕ) → leaf s g v ≡ some t → (s.exists g ≡ true) × (descend s 3 (s.root g) v ≡ some t)
  unfolding leaf
  leaf_from g v t e = elim (bool? (s.exists g)) [
    | inl a ↦ (a, rw a at e)
    | inr a ↦ let z : ◌≡◌ {A = ℕ} 0 1 = absent (rw a at e) in absurd (omega arith)
  ]
    where
      absent : ◌≡◌ {A = Option ℕ} none (some t) → ◌≡◌ {A = ℕ} 0 1
      absent e = cc

  -- the table at which the way to g's page v ends
  pub leaf_kind : (g v t : ℕ) → v < page_count → leaf s g v ≡ some t → s.kind t ≡ table g 0 (v / 512)
  leaf_kind g v t l e =
      let a = leaf_from g v t e in
      descend_kind g 3 (s.root g) v (root_serves (s.kind (s.root g)) g v (c.roots g a.0) l) t a.1

  pub leaf_there : (g v : ℕ) → s.exists g ≡ true → leaf s g v ≡ descend s 3 (s.root g) v
  unfolding leaf
  leaf_there g v e = rw e

-- what translates does so in a last table
pub translate_from : (s : State) (g v f r : ℕ) → translate s g v ≡ some (f, r) →
    (t : ℕ) × (leaf s g v ≡ some t) × (entry_at s t (v % 512) ≡ to_page f r)
unfolding translate
translate_from s g v f r e = go (leaf s g v) refl e
  where
    in_page : (t : ℕ) (x : Entry) → page_in x ≡ some (f, r) → x ≡ to_page f r
    in_page t empty e = cc
    in_page t (to_table u) e = cc
    in_page t (to_page f' r') e = let q : ◌≡◌ {A = Page} (f', r') (f, r) = cc in ap (λ (x : Page). to_page x.0 x.1) q
    in_page t (other y) e = cc

    go : (o : Option ℕ) → leaf s g v ≡ o → page_at s v o ≡ some (f, r) →
        (t : ℕ) × (leaf s g v ≡ some t) × (entry_at s t (v % 512) ≡ to_page f r)
    go none q e = (0, cc, cc)
    go (some t) q e = (t, q, in_page t (entry_at s t (v % 512)) e)

pub translate_at : (s : State) (g v t f r : ℕ) → leaf s g v ≡ some t → entry_at s t (v % 512) ≡ to_page f r → translate s g v ≡ some (f, r)
unfolding translate
translate_at s g v t f r a b = rw (a, b)

pub translate_empty : (s : State) (g v t : ℕ) → leaf s g v ≡ some t → entry_at s t (v % 512) ≡ empty → translate s g v ≡ none
unfolding translate
translate_empty s g v t a b = rw (a, b)

-- one entry of one last table is changed: everything else translates as before
module _ (s : State) (c : Core s) (s' : State) (t g p i : ℕ) (ht : s.kind t ≡ table g 0 p) (hi : i < 512)
    (es : (h : ℕ) → s'.exists h ≡ s.exists h) (rs : (h : ℕ) → s'.root h ≡ s.root h)
    (others : (t' j : ℕ) → (t' ≡ t → j ≡ i → ⊥) → entry_at s' t' j ≡ entry_at s t' j) where
  above : (t' g' h p' : ℕ) → s.kind t' ≡ table g' (suc h) p' → (j : ℕ) → entry_at s' t' j ≡ entry_at s t' j
  above t' g' h p' a j = others t' j (λ (e : t' ≡ t) b. let z : suc h ≡ 0 = cc in omega arith)

  pub same_leaf : (h v : ℕ) → v < page_count → leaf s' h v ≡ leaf s h v
  unfolding leaf
  same_leaf h v l = rw (es h, rs h) (elim (bool? (s.exists h)) [
    | inl e ↦ rw e (descend_same s c s' above h 3 (s.root h) v (root_serves (s.kind (s.root h)) h v (c.roots h e) l))
    | inr e ↦ rw e
  ])

  pub same_elsewhere : (h v : ℕ) → v < page_count → (h ≡ g → v ≡ p * 512 + i → ⊥) → translate s' h v ≡ translate s h v
  unfolding translate
  same_elsewhere h v l ne = rw (same_leaf h v l) (go (leaf s h v) refl)
    where
      go : (o : Option ℕ) → leaf s h v ≡ o → page_at s' v o ≡ page_at s v o
      go none q = refl
      go (some u) q = ap page_in (others u (v % 512) (λ (a : u ≡ t) (b : v % 512 ≡ i).
          let d = leaf_kind s c h v u l q in
          let gh : h ≡ g = cc in
          let ph : v / 512 ≡ p = cc in
          ne gh (omega arith)))
