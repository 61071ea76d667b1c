-- An entry of a table becomes another word; and what is stale grows.
use mathlib.Core.Path.{◌≡◌, refl, sym, ap, ◌∙◌}
use mathlib.Core.Bool.{Bool, true}
use mathlib.Core.Logic.{◌⊎◌, inl, inr}
use Prim.Native.Nat.{ℕ, suc, ◌+◌, ◌/◌, ◌%◌}
use native.Mathlib.Omega.{arith}
use Rattle.model.proofs.Laws.Base.{eq?, upd_at, upd_other, upd2_at, upd2_other}
use Rattle.model.specs.Base.{upd, upd2}
use Rattle.model.specs.Translate.{upper}
use Rattle.model.specs.Cache.{next, output, descriptor, inside}
use Rattle.model_moves.specs.Spaces.{Spaces, claimed, table, emptied, with_stale, store, Says, Leads, Laid, Everything}
use Rattle.model_moves.specs.Moves.{Grows}
use Rattle.model_moves.proofs.Invariant.Core.{clash, Core, Bears, Hangs, same_place}

pub same_frame : (first f f' x : ℕ) → x ≡ first + f → x ≡ first + f' → f ≡ f'
same_frame first f f' x a b = omega arith

-- what is stale grows
module _ (s : Spaces) (c : ℕ) (S : ℕ → ℕ → Bool) (g : Grows s c S) where
  pub grown : (c' j v : ℕ) → s.stale c' j v ≡ true → upd s.stale c S c' j v ≡ true
  grown c' j v e = elim (eq? c' c) [
    | inl p ↦ ap (λ (z : ℕ → ℕ → Bool). z j v) (upd_at s.stale c S c' p) ∙ g j v (ap (λ (n : ℕ). s.stale n j v) (sym p) ∙ e)
    | inr p ↦ ap (λ (z : ℕ → ℕ → Bool). z j v) (upd_other s.stale c S c' p) ∙ e
  ]

  pub grown_back : (c' j : ℕ) → (c' ≡ c → ⊥) → ((v : ℕ) → upd s.stale c S c' j v ≡ true) → Everything s c' j
  grown_back c' j n e v = ap (λ (z : ℕ → ℕ → Bool). z j v) (sym (upd_other s.stale c S c' n)) ∙ e v

-- the entry of height h for range q, in table t, becomes x
module _ (s : Spaces) (t c h q x : ℕ) (place : s.kind t ≡ table c h (q / 512)) where
  abbrev pub set : ℕ → ℕ → ℕ
  set = upd2 s.word t (q % 512) x

  -- another frame than t keeps its words
  pub set_beside : (t' i : ℕ) → (t' ≡ t → ⊥) → set t' i ≡ s.word t' i
  set_beside t' i n = upd2_other s.word t (q % 512) x t' i (λ p w. n p)

  pub set_here : (t' i : ℕ) → t' ≡ t → i ≡ q % 512 → set t' i ≡ x
  set_here t' i p e = upd2_at s.word t (q % 512) x t' i p e

  -- an entry of a table is this one, or is as before
  abbrev pub Here : (t' c' h' q' : ℕ) → Type 0
  Here t' c' h' q' =
      ((t' ≡ t) × (c' ≡ c) × (h' ≡ h) × (q' ≡ q) × (set t' (q' % 512) ≡ x)) ⊎
      ((t' ≡ t → q' ≡ q → ⊥) × (set t' (q' % 512) ≡ s.word t' (q' % 512)))

  pub here? : (t' c' h' q' : ℕ) → s.kind t' ≡ table c' h' (q' / 512) → Here t' c' h' q'
  here? t' c' h' q' e = elim (eq? t' t) [
    | inr n ↦ inr (λ a b. n a, upd2_other s.word t (q % 512) x t' (q' % 512) (λ a b. n a))
    | inl p ↦ elim (eq? (q' % 512) (q % 512)) [
      | inr n ↦ inr (λ a (b : q' ≡ q). n (ap (λ (z : ℕ). z % 512) b), upd2_other s.word t (q % 512) x t' (q' % 512) (λ a b. n b))
      | inl i ↦ let z = same_place {q = q} {q' = q'} place (ap s.kind (sym p) ∙ e) i in
          inl (p, z.0, z.1, z.2, upd2_at s.word t (q % 512) x t' (q' % 512) p i)
    ]
  ]

  -- a claimed or an emptied table is not t
  pub not_claimed : (t' c' h' p' : ℕ) → s.kind t' ≡ claimed c' h' p' → t' ≡ t → ⊥
  not_claimed t' c' h' p' e p = clash {x = table c h (q / 512)} {y = claimed c' h' p'} (sym place ∙ ap s.kind (sym p) ∙ e) refl

  pub not_emptied : (t' c' h' p' : ℕ) → s.kind t' ≡ emptied c' h' p' → t' ≡ t → ⊥
  not_emptied t' c' h' p' e p = clash {x = table c h (q / 512)} {y = emptied c' h' p'} (sym place ∙ ap s.kind (sym p) ∙ e) refl

  -- neither the old entry nor the new one leads to a table
  module _ (stale' : ℕ → ℕ → ℕ → Bool) (k : Core s)
      (bears : (c f r : ℕ) → Bears s c f r → Bears (with_stale (store s t (q % 512) x) stale') c f r)
      (before : (y : ℕ) → descriptor h (s.word t (q % 512)) ≡ next y → ⊥) (now : (y : ℕ) → descriptor h x ≡ next y → ⊥)
      (leaf : (v y r : ℕ) → upper h v ≡ q → descriptor h x ≡ output y r → (f : ℕ) × (inside h y v ≡ s.first + f) × Bears s c f r) where
    abbrev s' : Spaces
    s' = with_stale (store s t (q % 512) x) stale'

    set_leaves : (c' v h' t' y r : ℕ) → Laid s' c' h' (upper h' v / 512) t' → descriptor h' (set t' (upper h' v % 512)) ≡ output y r →
        (f : ℕ) × (inside h' y v ≡ s.first + f) × Bears s' c' f r
    set_leaves c' v h' t' y r (inr a) d =
        let n = k.leaves c' v h' t' y r (inr a) (ap (descriptor h')
        (sym (set_beside t' (upper h' v % 512) (not_claimed t' c' h' (upper h' v / 512) a))) ∙ d) in
        (n.0, n.1, bears c' n.0 r n.2)
    set_leaves c' v h' t' y r (inl a) d = elim (here? t' c' h' (upper h' v) a) [
      | inr z ↦ let n = k.leaves c' v h' t' y r (inl a) (ap (descriptor h') (sym z.1) ∙ d) in (n.0, n.1, bears c' n.0 r n.2)
      | inl z ↦
          let h= = z.2 in
          let n = leaf v y r (ap (λ (m : ℕ). upper m v) (sym h=) ∙ z.3)
          (ap (λ (m : ℕ). descriptor m x) (sym h=) ∙ ap (descriptor h') (sym z.4) ∙ d) in
          (n.0, ap (λ (m : ℕ). inside m y v) h= ∙ n.1, bears c' n.0 r (rw z.1 n.2))
    ]

    set_nexts : (c' h' q' t' y : ℕ) → s.kind t' ≡ table c' (suc h') (q' / 512) → descriptor (suc h') (set t' (q' % 512)) ≡ next y →
        (u : ℕ) × (y ≡ s.first + u) × (s.kind u ≡ table c' h' q')
    set_nexts c' h' q' t' y a d = elim (here? t' c' (suc h') q' a) [
      | inr z ↦ k.nexts c' h' q' t' y a (ap (descriptor (suc h')) (sym z.1) ∙ d)
      | inl z ↦ absurd (now y (ap (λ (m : ℕ). descriptor m x) (sym z.2) ∙ ap (descriptor (suc h')) (sym z.4) ∙ d))
    ]

    set_hangs : (c' h' p t' : ℕ) → s.kind t' ≡ table c' h' p → Hangs s' c' h' p t'
    set_hangs c' h' p t' a = elim (k.hangs c' h' p t' a) [
      | inl y ↦ inl y
      | inr y ↦ elim (here? y.0 c' (suc h') p y.1) [
        | inr z ↦ inr (y.0, y.1, ap (descriptor (suc h')) z.1 ∙ y.2, y.3)
        | inl z ↦ absurd (before (s.first + t')
            (ap (λ (m : ℕ). descriptor m (s.word t (q % 512))) (sym z.2)
            ∙ ap (λ (m : ℕ). descriptor (suc h') (s.word t (m % 512))) (sym z.3)
            ∙ ap (λ (m : ℕ). descriptor (suc h') (s.word m (p % 512))) (sym z.0) ∙ y.2))
      ]
    ]

    pub set_core : Core s'
    set_core = record {
      leaves = set_leaves;
      nexts = set_nexts;
      alone = λ t' c' h' p i y a d. k.alone t' c' h' p i y a
          (ap (descriptor h') (sym (set_beside t' (i % 512) (not_claimed t' c' h' p a))) ∙ d);
      bare = λ t' c' h' p i a. ap (descriptor h') (set_beside t' (i % 512) (not_emptied t' c' h' p a)) ∙ k.bare t' c' h' p i a;
      roots = k.roots;
      hangs = set_hangs;
    }

  -- a leaf elsewhere is as before
  pub set_leads : (c' v h' t' f r : ℕ) → s.kind t' ≡ table c' h' (upper h' v / 512) →
      set t' (upper h' v % 512) ≡ s.word t' (upper h' v % 512) →
      Says s t' h' v f r → Leads (store s t (q % 512) x) c' v f r
  set_leads c' v h' t' f r a e y = (h', t', a, (y.0, ap (descriptor h') e ∙ y.1, y.2))

  pub set_led : (c' v h' t' f r : ℕ) → s.kind t' ≡ table c' h' (upper h' v / 512) →
      set t' (upper h' v % 512) ≡ s.word t' (upper h' v % 512) →
      Says (store s t (q % 512) x) t' h' v f r → Leads s c' v f r
  set_led c' v h' t' f r a e y = (h', t', a, (y.0, ap (descriptor h') (sym e) ∙ y.1, y.2))

  -- the old entry was no leaf: what led somewhere still does
  pub still_leads : ((y r : ℕ) → descriptor h (s.word t (q % 512)) ≡ output y r → ⊥) → (c' v f r : ℕ) → Leads s c' v f r →
      Leads (store s t (q % 512) x) c' v f r
  still_leads n c' v f r a = let y = a.3 in elim (here? a.1 c' a.0 (upper a.0 v) a.2) [
    | inr z ↦ set_leads c' v a.0 a.1 f r a.2 z.1 y
    | inl z ↦ absurd (n y.0 r (ap (λ (m : ℕ). descriptor m (s.word t (q % 512))) (sym z.2)
        ∙ ap (λ (m : ℕ). descriptor a.0 (s.word t (m % 512))) (sym z.3)
        ∙ ap (λ (m : ℕ). descriptor a.0 (s.word m (upper a.0 v % 512))) (sym z.0) ∙ y.1))
  ]

  -- what leads now did before, or is the new entry
  pub leads_new : (c' v f r : ℕ) → Leads (store s t (q % 512) x) c' v f r →
      Leads s c' v f r ⊎ ((c' ≡ c) × (upper h v ≡ q) × ((y : ℕ) × (descriptor h x ≡ output y r) × (inside h y v ≡ s.first + f)))
  leads_new c' v f r a = let y = a.3 in elim (here? a.1 c' a.0 (upper a.0 v) a.2) [
    | inr z ↦ inl (set_led c' v a.0 a.1 f r a.2 z.1 y)
    | inl z ↦ inr (
      z.1,
      ap (λ (m : ℕ). upper m v) (sym z.2) ∙ z.3,
      (
        y.0,
        ap (λ (m : ℕ). descriptor m x) (sym z.2) ∙ ap (descriptor a.0) (sym z.4) ∙ y.1,
        ap (λ (m : ℕ). inside m y.0 v) (sym z.2) ∙ y.2,
      ),
    )
  ]
