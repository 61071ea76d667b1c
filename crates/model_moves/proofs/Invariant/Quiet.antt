-- Moves after which every table is where it was, and says what it said.
use mathlib.Core.Path.{◌≡◌, sym, ap, ◌∙◌}
use mathlib.Core.Bool.{Bool, true}
use mathlib.Core.Logic.{◌⊎◌, inl, inr}
use Prim.Native.Nat.{ℕ, suc, ◌+◌, ◌/◌, ◌%◌}
use Rattle.model.specs.Translate.{upper}
use Rattle.model.specs.Cache.{next, output, descriptor, inside}
use Rattle.model_moves.specs.Spaces.{Spaces, FrameUse, claimed, table, emptied, Leads, Laid, Has}
use Rattle.model_moves.specs.Cache.{Caches}
use Rattle.model_moves.proofs.Invariant.Core.{Old, Core, Kept, Bears, Held, Hangs, TableIs}

-- s with another ledger and other words, but the same spaces
module _ (s : Spaces) (kind' : ℕ → FrameUse) (shared' : ℕ → ℕ → ℕ) (waits' : ℕ → ℕ → ℕ → Bool) (stale' : ℕ → ℕ → ℕ → Bool)
    (word' : ℕ → ℕ → ℕ) where
  abbrev pub other : Spaces
  other = record {
    size = s.size;
    first = s.first;
    kind = kind';
    shared = shared';
    waits = waits';
    space = s.space;
    stale = stale';
    word = word';
  }

  pub record TablesSame : Type 0 where
    pub from : (t c h p : ℕ) → kind' t ≡ table c h p → s.kind t ≡ table c h p
    pub to : (t c h p : ℕ) → s.kind t ≡ table c h p → kind' t ≡ table c h p
    pub words : (t c h p i : ℕ) → s.kind t ≡ table c h p → word' t i ≡ s.word t i

  pub record RestSame : Type 0 where
    pub claims : (t c h p : ℕ) → kind' t ≡ claimed c h p → (i : ℕ) → (s.kind t ≡ claimed c h p) × (word' t i ≡ s.word t i)
    pub empties : (t c h p : ℕ) → kind' t ≡ emptied c h p → (i : ℕ) → (s.kind t ≡ emptied c h p) × (word' t i ≡ s.word t i)
    -- what is in a table may stay there
    pub bears : (c f r : ℕ) → Has s c f r → Bears s c f r → Bears other c f r

  module _ (e : TablesSame) where
    pub leads_from : (c v f r : ℕ) → Leads other c v f r → Leads s c v f r
    leads_from c v f r (a) =
        let h = a.0 in let t = a.1 in let y = a.3 in let k = e.from t c h (upper h v / 512) a.2 in
        (h, t, k, (y.0, ap (descriptor h) (sym (e.words t c h (upper h v / 512) (upper h v % 512) k)) ∙ y.1, y.2))

    pub leads_to : (c v f r : ℕ) → Leads s c v f r → Leads other c v f r
    leads_to c v f r (a) =
        let h = a.0 in let t = a.1 in let y = a.3 in let k = a.2 in (
          h,
          t,
          e.to t c h (upper h v / 512) k,
          (
            y.0,
            ap (descriptor h) (e.words t c h (upper h v / 512) (upper h v % 512) k) ∙ y.1,
            y.2,
          ),
        )

    module _ (k : Core s) where
      quiet_nexts : (c h q t y : ℕ) → kind' t ≡ table c (suc h) (q / 512) → descriptor (suc h) (word' t (q % 512)) ≡ next y →
          (t' : ℕ) × (y ≡ s.first + t') × (kind' t' ≡ table c h q)
      quiet_nexts c h q t y a d =
          let b = e.from t c (suc h) (q / 512) a in
          let n = k.nexts c h q t y b (ap (descriptor (suc h)) (sym (e.words t c (suc h) (q / 512) (q % 512) b)) ∙ d) in
          (n.0, n.1, e.to n.0 c h q n.2)

      quiet_hangs : (c h p t : ℕ) → kind' t ≡ table c h p → Hangs other c h p t
      quiet_hangs c h p t a = elim (k.hangs c h p t (e.from t c h p a)) [
        | inl x ↦ inl x
        | inr x ↦ inr (
          x.0,
          e.to x.0 c (suc h) (p / 512) x.1,
          ap (descriptor (suc h)) (e.words x.0 c (suc h) (p / 512) (p % 512) x.1) ∙ x.2,
          x.3,
        )
      ]

      -- a claimed table may be new: L and N are what is to be known of it
      pub quiet_core_with : ((c v h t y r : ℕ) → Laid other c h (upper h v / 512) t →
          descriptor h (word' t (upper h v % 512)) ≡ output y r → (f : ℕ) × (inside h y v ≡ s.first + f) × Bears other c f r) →
          ((t c h p i y : ℕ) → kind' t ≡ claimed c h p → descriptor h (word' t (i % 512)) ≡ next y → ⊥) →
          ((t c h p : ℕ) → kind' t ≡ emptied c h p → (i : ℕ) → (s.kind t ≡ emptied c h p) × (word' t i ≡ s.word t i)) → Core other
      quiet_core_with L N E = record {
        leaves = L;
        nexts = quiet_nexts;
        alone = N;
        bare = λ t c h p i a. let x = E t c h p a (i % 512) in ap (descriptor h) x.1 ∙ k.bare t c h p i x.0;
        roots = λ c p a l. e.to ((s.space c).root + p) c (s.space c).height p (k.roots c p a l);
        hangs = quiet_hangs;
      }

      pub quiet_core : RestSame → Core other
      quiet_core r = quiet_core_with leaf none r.empties
        where
          leaf : (c v h t y n : ℕ) → Laid other c h (upper h v / 512) t → descriptor h (word' t (upper h v % 512)) ≡ output y n →
              (f : ℕ) × (inside h y v ≡ s.first + f) × Bears other c f n
          leaf c v h t y n (inl a) d =
              let b = e.from t c h (upper h v / 512) a in
              let d' = ap (descriptor h) (sym (e.words t c h (upper h v / 512) (upper h v % 512) b)) ∙ d in
              let x = k.leaves c v h t y n (inl b) d' in
              (x.0, x.1, r.bears c x.0 n (v, h, t, inl b, (y, d', x.1)) x.2)
          leaf c v h t y n (inr a) d =
              let b = r.claims t c h (upper h v / 512) a (upper h v % 512) in
              let d' = ap (descriptor h) (sym b.1) ∙ d in
              let x = k.leaves c v h t y n (inr b.0) d' in
              (x.0, x.1, r.bears c x.0 n (v, h, t, inr b.0, (y, d', x.1)) x.2)

          none : (t c h p i y : ℕ) → kind' t ≡ claimed c h p → descriptor h (word' t (i % 512)) ≡ next y → ⊥
          none t c h p i y a d = let x = r.claims t c h p a (i % 512) in k.alone t c h p i y x.0 (ap (descriptor h) (sym x.1) ∙ d)

-- and nothing of what is stale is cleared
module _ (s : Spaces) (kind' : ℕ → FrameUse) (shared' : ℕ → ℕ → ℕ) (waits' : ℕ → ℕ → ℕ → Bool) (word' : ℕ → ℕ → ℕ) where
  abbrev s' : Spaces
  s' = other s kind' shared' waits' s.stale word'

  pub quiet_kept : TablesSame s kind' shared' waits' s.stale word' →
      ((t c h p j : ℕ) → s.kind t ≡ emptied c h p → s.waits t c j ≡ true → (kind' t ≡ emptied c h p) × (waits' t c j ≡ true)) →
      ((c v f r j : ℕ) → s.stale c j v ≡ true → Held s c f r j → Held s' c f r j) → (k : Caches) → Kept s k → Kept s' k
  quiet_kept e w held k q = record {
    table_ok = λ c h p x a. let b = q.table_ok c h p x a in (b.0, b.1, table_same c h p b.0 b.2);
    page_ok = λ c v x r a. let b = q.page_ok c v x r a in (b.0, b.1, page_same c v b.0 r b.2);
    one = q.one;
    one_table = q.one_table;
    table_gone = q.table_gone;
    page_gone = q.page_gone;
  }
    where
      table_same : (c h p t : ℕ) → TableIs s c h p t → TableIs s' c h p t
      table_same c h p t (inl a) = inl (e.to t c h p a)
      table_same c h p t (inr a) =
          let j = a.1 in let b = w t c h p j.0 a.0 j.1 in inr (b.0, (j.0, b.1, j.2), λ u k. a.2 u (e.from u c h p k))

      page_same : (c v f r : ℕ) → (Leads s c v f r ⊎ Old s c v f r) → (Leads s' c v f r ⊎ Old s' c v f r)
      page_same c v f r (inl a) = inl (leads_to s kind' shared' waits' s.stale word' e c v f r a)
      page_same c v f r (inr a) = let j = a.1 in
          inr (
            λ f' r' b. a.0 f' r' (leads_from s kind' shared' waits' s.stale word' e c v f' r' b),
            (j.0, j.1, held c v f r j.0 j.1 j.2),
          )
