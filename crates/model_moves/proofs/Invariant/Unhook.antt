-- unhook: an empty table is taken out, and waits.
use mathlib.Core.Path.{◌≡◌, refl, sym, ap, ◌∙◌}
use mathlib.Core.Bool.{Bool, true, false, true≢false}
use mathlib.Core.Logic.{inl, inr}
use Prim.Native.Nat.{ℕ, suc, ◌+◌, ◌<◌, ◌/◌, ◌%◌}
use native.Mathlib.Omega.{arith}
use lib.Dec.{eqb}
use Rattle.model.proofs.Laws.Base.{eq?, upd_at, upd_other}
use Rattle.model.specs.Base.{upd}
use Rattle.model.specs.Translate.{upper}
use Rattle.model.specs.Cache.{invalid, next, output, descriptor, inside}
use Rattle.model_moves.specs.Spaces.{Spaces, FrameUse, claimed, table, emptied, page, draining, exists, with_kind, with_waits, with_stale, store, Leads, Laid}
use Rattle.model_moves.specs.Cache.{Caches}
use Rattle.model_moves.specs.Moves.{Unhook}
use Rattle.model_moves.proofs.Invariant.Core.{use_number, clash, Core, Bears, Hangs, TableIs, next_not, no_next, no_output, next_same, height_low, sole}
use Rattle.model_moves.proofs.Invariant.Ledger.{may_keep, Holds, PagesSame, kind_keep, kind_from, held_keep, bears_keep}
use Rattle.model_moves.proofs.Invariant.Entries.{set_beside, Here, here?, not_claimed, not_emptied, grown, grown_back}

module _ (s : Spaces) (t t' c h q x : ℕ) (S : ℕ → ℕ → Bool) (j : ℕ) (W : ℕ → ℕ → Bool) (m : Unhook s t t' c h q x S j W) where
  abbrev kind'' : ℕ → FrameUse
  kind'' = upd s.kind t' (emptied c h q)

  abbrev waits'' : ℕ → ℕ → ℕ → Bool
  waits'' = upd s.waits t' W

  abbrev unhooked : Spaces
  unhooked = with_waits (with_kind (with_stale (store s t (q % 512) x) (upd s.stale c S)) kind'') waits''

  here : (u d n p : ℕ) → s.kind u ≡ table d n (p / 512) → Here s t c (suc h) q x m.place u d n p
  here u d n p e = here? s t c (suc h) q x m.place u d n p e

  keep' : (u : ℕ) (y : FrameUse) → s.kind u ≡ y → eqb 3 (use_number y) ≡ false → kind'' u ≡ y
  keep' u y e n = kind_keep s.kind t' (table c h q) (emptied c h q) m.was u y e n

  apart' : t' ≡ t → ⊥
  apart' e =
      let a : table c h q ≡ table c (suc h) (q / 512) = sym m.was ∙ ap s.kind e ∙ m.place in let z : h ≡ suc h = cc in omega arith

  not_it : (u d n p : ℕ) → kind'' u ≡ table d n p → u ≡ t' → ⊥
  not_it u d n p e a = clash {x = emptied c h q} {y = table d n p} (sym (upd_at s.kind t' (emptied c h q) u a) ∙ e) refl

  pub was_table : (u d n p : ℕ) → kind'' u ≡ table d n p → s.kind u ≡ table d n p
  was_table u d n p e = kind_from s.kind t' (emptied c h q) u (table d n p) e refl

  unhook_pages : PagesSame s unhooked
  unhook_pages = record {
    pages = λ f g e. keep' f (page g) e refl;
    drains = λ f g e. keep' f (draining g) e refl;
    shares_same = λ f g d e. refl;
    waits_more = λ f g d i e w. ap (λ (z : ℕ → ℕ → Bool). z d i)
        (upd_other s.waits t' W f (λ (a : f ≡ t'). clash {x = table c h q} {y = draining g}
        (sym m.was ∙ ap s.kind (sym a) ∙ e) refl)) ∙ w;
  }

  unhook_bears : (d f r : ℕ) → Bears s d f r → Bears unhooked d f r
  unhook_bears d f r b = elim (eq? d c) [
    | inl p ↦ record {
      may = λ l. may_keep s unhooked unhook_pages d refl f r (b.may l);
      held = λ l i w. absurd (true≢false (sym m.live ∙ ap (exists s) (sym p) ∙ l));
    }
    | inr p ↦ bears_keep s unhooked unhook_pages d refl refl (λ i w. grown_back s c S m.grows d i p w) f r b
  ]

  beside : (u i : ℕ) → (u ≡ t → ⊥) → unhooked.word u i ≡ s.word u i
  beside u i n = set_beside s t c (suc h) q x m.place u i n

  module _ (k : Core s) where
    unhook_leaves : (d v n u y r : ℕ) → Laid unhooked d n (upper n v / 512) u →
        descriptor n (unhooked.word u (upper n v % 512)) ≡ output y r → (f : ℕ) × (inside n y v ≡ s.first + f) × Bears unhooked d f r
    unhook_leaves d v n u y r l e = go l
      where
        old : Laid s d n (upper n v / 512) u → unhooked.word u (upper n v % 512) ≡ s.word u (upper n v % 512) →
            (f : ℕ) × (inside n y v ≡ s.first + f) × Bears unhooked d f r
        old a w = let z = k.leaves d v n u y r a (ap (descriptor n) (sym w) ∙ e) in (z.0, z.1, unhook_bears d z.0 r z.2)

        go : Laid unhooked d n (upper n v / 512) u → (f : ℕ) × (inside n y v ≡ s.first + f) × Bears unhooked d f r
        go (inl a) = let b = was_table u d n (upper n v / 512) a in elim (here u d n (upper n v) b) [
          | inr z ↦ old (inl b) z.1
          | inl z ↦ absurd (no_output m.reads (ap (λ (i : ℕ). descriptor i x) (sym z.2) ∙ ap (descriptor n) (sym z.4) ∙ e))
        ]
        go (inr a) =
            let b = kind_from s.kind t' (emptied c h q) u (claimed d n (upper n v / 512)) a refl in
            old (inr b) (beside u (upper n v % 512) (not_claimed s t c (suc h) q x m.place u d n (upper n v / 512) b))

    unhook_nexts : (d n p u y : ℕ) → kind'' u ≡ table d (suc n) (p / 512) → descriptor (suc n) (unhooked.word u (p % 512)) ≡ next y →
        (w : ℕ) × (y ≡ s.first + w) × (kind'' w ≡ table d n p)
    unhook_nexts d n p u y a e = let b = was_table u d (suc n) (p / 512) a in elim (here u d (suc n) p b) [
      | inl z ↦ absurd (no_next m.reads (ap (λ (i : ℕ). descriptor i x) (sym z.2) ∙ ap (descriptor (suc n)) (sym z.4) ∙ e))
      | inr z ↦
          let w = k.nexts d n p u y b (ap (descriptor (suc n)) (sym z.1) ∙ e) in
          (w.0, w.1, upd_other s.kind t' (emptied c h q) w.0 (λ (i : w.0 ≡ t'). other u d n p w.0 b w.2 z.0 i) ∙ w.2)
    ]
      where
        -- no other entry leads to t'
        other : (u d n p w : ℕ) → s.kind u ≡ table d (suc n) (p / 512) → s.kind w ≡ table d n p → (u ≡ t → p ≡ q → ⊥) → w ≡ t' → ⊥
        other u d n p w b a ne i =
            let o : table d n p ≡ table c h q = sym a ∙ ap s.kind i ∙ m.was in
            let d= : d ≡ c = cc in let n= : n ≡ h = cc in let p= : p ≡ q = cc in
            ne (sole s k c (suc h) (q / 512) u t (rw (d=, n=, p=) at b) m.place) p=

    unhook_bare : (u d n p i : ℕ) → kind'' u ≡ emptied d n p → descriptor n (unhooked.word u (i % 512)) ≡ invalid
    unhook_bare u d n p i a = elim (eq? u t') [
      | inl e ↦
          let b : emptied c h q ≡ emptied d n p = sym (upd_at s.kind t' (emptied c h q) u e) ∙ a in
          let n= : n ≡ h = cc in
          ap (descriptor n) (beside u (i % 512) (λ z. apart' (sym e ∙ z))) ∙ ap (λ (y : ℕ). descriptor n (s.word y (i % 512))) e
          ∙ ap (λ (y : ℕ). descriptor y (s.word t' (i % 512))) n= ∙ m.bare i
      | inr e ↦ let b = sym (upd_other s.kind t' (emptied c h q) u e) ∙ a in
          ap (descriptor n) (beside u (i % 512) (not_emptied s t c (suc h) q x m.place u d n p b)) ∙ k.bare u d n p i b
    ]

    unhook_hangs : (d n p u : ℕ) → kind'' u ≡ table d n p → Hangs unhooked d n p u
    unhook_hangs d n p u a = elim (k.hangs d n p u (was_table u d n p a)) [
      | inl y ↦ inl y
      | inr y ↦
          let ne : y.0 ≡ t' → ⊥ = λ (e : y.0 ≡ t').
          let o : table d (suc n) (p / 512) ≡ table c h q = sym y.1 ∙ ap s.kind e ∙ m.was in
          let n= : suc n ≡ h = cc in
          no_next (m.bare p) (ap (λ (i : ℕ). descriptor i (s.word t' (p % 512))) (sym n=)
          ∙ ap (λ (i : ℕ). descriptor (suc n) (s.word i (p % 512))) (sym e) ∙ y.2) in
          elim (here y.0 d (suc n) p y.1) [
            | inr z ↦ inr (y.0, upd_other s.kind t' (emptied c h q) y.0 ne ∙ y.1, ap (descriptor (suc n)) z.1 ∙ y.2, y.3)
            | inl z ↦
                let w = next_same (ap (λ (i : ℕ). descriptor i (s.word t (q % 512))) (sym z.2)
                ∙ ap (λ (i : ℕ). descriptor (suc n) (s.word t (i % 512))) (sym z.3)
                ∙ ap (λ (i : ℕ). descriptor (suc n) (s.word i (p % 512))) (sym z.0) ∙ y.2) m.leads in
                absurd (not_it u d n p a (omega arith))
          ]
    ]

    unhook_roots : (d p : ℕ) → exists s d ≡ true → p < (s.space d).wide → kind'' ((s.space d).root + p) ≡ table d (s.space d).height p
    unhook_roots d p l e =
        let b = k.roots d p l e in
        upd_other s.kind t' (emptied c h q) ((s.space d).root + p) (λ (i : (s.space d).root + p ≡ t').
        let o : table d (s.space d).height p ≡ table c h q = sym b ∙ ap s.kind i ∙ m.was in
        let d= : d ≡ c = cc in
        let h= : (s.space d).height ≡ h = cc in
        let h2 : (s.space c).height ≡ h = ap (λ (i : ℕ). (s.space i).height) (sym d=) ∙ h= in
        let z = height_low s k c (suc h) (q / 512) t m.place in omega arith) ∙ b

    pub unhook_core : Core unhooked
    unhook_core = record {
      leaves = unhook_leaves;
      nexts = unhook_nexts;
      alone = λ u d n p i y a e. let b = kind_from s.kind t' (emptied c h q) u (claimed d n p) a refl in
          k.alone u d n p i y b (ap (descriptor n) (sym (beside u (i % 512) (not_claimed s t c (suc h) q x m.place u d n p b))) ∙ e);
      bare = unhook_bare;
      roots = unhook_roots;
      hangs = unhook_hangs;
    }

  -- the table that is taken out said nothing
  pub unhook_leads : (d v f r : ℕ) → Leads s d v f r → Leads unhooked d v f r
  unhook_leads d v f r a = let y = a.3 in elim (here a.1 d a.0 (upper a.0 v) a.2) [
    | inr z ↦ (
      a.0,
      a.1,
      upd_other s.kind t' (emptied c h q) a.1 (λ (e : a.1 ≡ t').
          let o : table d a.0 (upper a.0 v / 512) ≡ table c h q = sym a.2 ∙ ap s.kind e ∙ m.was in
          let n= : a.0 ≡ h = cc in
          no_output (m.bare (upper a.0 v)) (ap (λ (i : ℕ). descriptor i (s.word t' (upper a.0 v % 512))) (sym n=)
          ∙ ap (λ (i : ℕ). descriptor a.0 (s.word i (upper a.0 v % 512))) (sym e) ∙ y.1)) ∙ a.2,
      (y.0, ap (descriptor a.0) z.1 ∙ y.1, y.2),
    )
    | inl z ↦ absurd (next_not m.leads
        (ap (λ (i : ℕ). descriptor i (s.word t (q % 512))) (sym z.2)
        ∙ ap (λ (i : ℕ). descriptor a.0 (s.word t (i % 512))) (sym z.3)
        ∙ ap (λ (i : ℕ). descriptor a.0 (s.word i (upper a.0 v % 512))) (sym z.0) ∙ y.1))
  ]

  pub unhooked_led : (d v f r : ℕ) → Leads unhooked d v f r → Leads s d v f r
  unhooked_led d v f r a =
      let y = a.3 in let b = was_table a.1 d a.0 (upper a.0 v / 512) a.2 in elim (here a.1 d a.0 (upper a.0 v) b) [
        | inr z ↦ (a.0, a.1, b, (y.0, ap (descriptor a.0) (sym z.1) ∙ y.1, y.2))
        | inl z ↦ absurd (no_output m.reads (ap (λ (i : ℕ). descriptor i x) (sym z.2) ∙ ap (descriptor a.0) (sym z.4) ∙ y.1))
      ]

  unhook_table : Core s → (d n p u : ℕ) → TableIs s d n p u → TableIs unhooked d n p u
  unfolding upper
  unhook_table k d n p u (inl a) = elim (eq? u t') [
    | inr e ↦ inl (upd_other s.kind t' (emptied c h q) u e ∙ a)
    | inl e ↦
        let o : table d n p ≡ table c h q = sym a ∙ ap s.kind e ∙ m.was in
        let d= : d ≡ c = cc in let n= : n ≡ h = cc in let p= : p ≡ q = cc in
        inr (
          upd_at s.kind t' (emptied c h q) u e ∙ (cc),
          (
            j,
            ap (λ (z : ℕ → ℕ → Bool). z d j) (upd_at s.waits t' W u e) ∙ ap (λ (i : ℕ). W i j) d= ∙ m.for,
            λ v w. ap (λ (z : ℕ → ℕ → Bool). z j v) (upd_at s.stale c S d d=)
                ∙ m.marks v (ap (λ (i : ℕ). upper i v / 512) (sym n=) ∙ w ∙ p=),
          ),
          λ x i. not_it x d n p i (sole s k d n p x u (was_table x d n p i) a ∙ e),
        )
  ]
  unhook_table k d n p u (inr a) = let i = a.1 in inr (
    keep' u (emptied d n p) a.0 refl,
    (
      i.0,
      ap (λ (z : ℕ → ℕ → Bool). z d i.0) (upd_other s.waits t' W u
          (λ (e : u ≡ t'). clash {x = table c h q} {y = emptied d n p} (sym m.was ∙ ap s.kind (sym e) ∙ a.0) refl)) ∙ i.1,
      λ v w. grown s c S m.grows d i.0 v (i.2 v w),
    ),
    λ x i. a.2 x (was_table x d n p i),
  )

  pub unhook_holds : (k : Caches) → Holds s k → Holds unhooked k
  unhook_holds k z = record {
    core = unhook_core z.core;
    kept = record {
      table_ok = λ d n p a b. let w = z.kept.table_ok d n p a b in (w.0, w.1, unhook_table z.core d n p w.0 w.2);
      page_ok = λ d v a r b. let w = z.kept.page_ok d v a r b in (
        w.0,
        w.1,
        elim w.2 [
          | inl e ↦ inl (unhook_leads d v w.0 r e)
          | inr e ↦ let i = e.1 in inr (
            (λ f'' r'' l. e.0 f'' r'' (unhooked_led d v f'' r'' l)),
            (i.0, grown s c S m.grows d i.0 v i.1, held_keep s unhooked unhook_pages d refl w.0 r i.0 i.2),
          )
        ],
      );
      one = z.kept.one;
      one_table = z.kept.one_table;
      table_gone = λ d n p a b l. let w = z.kept.table_gone d n p a b l in (w.0, λ v. grown s c S m.grows d w.0 v (w.1 v));
      page_gone = λ d v a r b l. let w = z.kept.page_gone d v a r b l in (w.0, λ v. grown s c S m.grows d w.0 v (w.1 v));
    };
  }
