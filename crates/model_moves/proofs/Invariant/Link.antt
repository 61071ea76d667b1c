-- link: a claimed table is hung below another.
use mathlib.Core.Path.{◌≡◌, refl, sym, ap, ◌∙◌}
use mathlib.Core.Bool.{true, false, true≢false}
use mathlib.Core.Logic.{◌⊎◌, inl, inr}
use Prim.Native.Nat.{ℕ, zero, suc, ◌+◌, ◌*◌, ◌/◌, ◌%◌}
use native.Mathlib.Omega.{arith}
use lib.Dec.{eqb}
use Rattle.model.proofs.Laws.Base.{eq?, upd_same, upd_at, upd_other}
use Rattle.model.specs.Base.{upd}
use Rattle.model.specs.Translate.{upper}
use Rattle.model.specs.Cache.{next, output, descriptor, inside}
use Rattle.model_moves.specs.Spaces.{Spaces, FrameUse, claimed, table, emptied, page, draining, with_kind, store, Says, Leads, Laid}
use Rattle.model_moves.specs.Cache.{Caches, Inside}
use Rattle.model_moves.specs.Moves.{Link}
use Rattle.model_moves.proofs.Invariant.Core.{use_number, Core, Bears, Hangs, next_not, no_next, no_output, next_same, height_low}
use Rattle.model_moves.proofs.Invariant.Ledger.{Holds, PagesSame, kind_keep, kind_from, held_keep, bears_keep}
use Rattle.model_moves.proofs.Invariant.Entries.{set, set_beside, set_here, here?, not_claimed, not_emptied}

-- every range has a page
pub some_page : (h q : ℕ) → (v : ℕ) × (upper h v ≡ q)
unfolding upper
some_page zero q = (q, refl)
some_page (suc h) q = let v = some_page h (q * 512) in let e = v.1 in (v.0, ap (λ (i : ℕ). i / 512) e ∙ back q)
  where
    back : (q : ℕ) → q * 512 / 512 ≡ q
    back q = omega arith

module _ (s : Spaces) (t t' c h q x : ℕ) (m : Link s t t' c h q x) where
  abbrev pub kind' : ℕ → FrameUse
  kind' = upd s.kind t' (table c h q)

  abbrev pub linked : Spaces
  linked = with_kind (store s t (q % 512) x) kind'

  word' : ℕ → ℕ → ℕ
  word' = set s t c (suc h) q x m.place

  keep : (u : ℕ) (y : FrameUse) → s.kind u ≡ y → eqb 2 (use_number y) ≡ false → kind' u ≡ y
  keep u y e n = kind_keep s.kind t' (claimed c h q) (table c h q) m.was u y e n

  apart : t' ≡ t → ⊥
  apart e = not_claimed s t c (suc h) q x m.place t' c h q m.was e

  link_pages : PagesSame s linked
  link_pages = record {
    pages = λ f g e. keep f (page g) e refl;
    drains = λ f g e. keep f (draining g) e refl;
    shares_same = λ f g d e. refl;
    waits_more = λ f g d j e w. w;
  }

  link_bears : (d f r : ℕ) → Bears s d f r → Bears linked d f r
  link_bears d f r b = bears_keep s linked link_pages d refl refl (λ j w. w) f r b

  -- a table is the new one, or was one
  pub new? : (u d n p : ℕ) → kind' u ≡ table d n p → ((u ≡ t') × (d ≡ c) × (n ≡ h) × (p ≡ q)) ⊎ ((u ≡ t' → ⊥) × (s.kind u ≡ table d n p))
  new? u d n p e = elim (eq? u t') [
    | inl a ↦ let b : table c h q ≡ table d n p = sym (upd_at s.kind t' (table c h q) u a) ∙ e in inl (a, cc, cc, cc)
    | inr a ↦ inr (a, sym (upd_other s.kind t' (table c h q) u a) ∙ e)
  ]

  module _ (k : Core s) where
    link_leaves : (d v n u y r : ℕ) → Laid linked d n (upper n v / 512) u → descriptor n (linked.word u (upper n v % 512)) ≡ output y r →
        (f : ℕ) × (inside n y v ≡ s.first + f) × Bears linked d f r
    link_leaves d v n u y r l e = go l
      where
        old : Laid s d n (upper n v / 512) u → linked.word u (upper n v % 512) ≡ s.word u (upper n v % 512) →
            (f : ℕ) × (inside n y v ≡ s.first + f) × Bears linked d f r
        old a w = let z = k.leaves d v n u y r a (ap (descriptor n) (sym w) ∙ e) in (z.0, z.1, link_bears d z.0 r z.2)

        go : Laid linked d n (upper n v / 512) u → (f : ℕ) × (inside n y v ≡ s.first + f) × Bears linked d f r
        go (inl a) = elim (new? u d n (upper n v / 512) a) [
          | inl b ↦ old (inr (rw (b.0, b.1, b.2, ap (λ (i : ℕ). upper i v / 512) (sym b.2) ∙ b.3) m.was))
              (set_beside s t c (suc h) q x m.place u (upper n v % 512) (λ z. apart (sym b.0 ∙ z)))
          | inr b ↦ elim (here? s t c (suc h) q x m.place u d n (upper n v) b.1) [
            | inr z ↦ old (inl b.1) z.1
            | inl z ↦ absurd (next_not m.reads (ap (λ (i : ℕ). descriptor i x) (sym z.2) ∙ ap (descriptor n) (sym z.4) ∙ e))
          ]
        ]
        go (inr a) =
            let b = kind_from s.kind t' (table c h q) u (claimed d n (upper n v / 512)) a refl in
            old (inr b) (set_beside s t c (suc h) q x m.place u (upper n v % 512)
            (not_claimed s t c (suc h) q x m.place u d n (upper n v / 512) b))

    link_nexts : (d n p u y : ℕ) → kind' u ≡ table d (suc n) (p / 512) → descriptor (suc n) (linked.word u (p % 512)) ≡ next y →
        (w : ℕ) × (y ≡ s.first + w) × (kind' w ≡ table d n p)
    link_nexts d n p u y a e = elim (new? u d (suc n) (p / 512) a) [
      | inl b ↦ absurd (k.alone t' c h q p y m.was
          (ap (λ (i : ℕ). descriptor i (s.word t' (p % 512))) (sym b.2)
          ∙ ap (λ (i : ℕ). descriptor (suc n) (s.word i (p % 512))) (sym b.0)
          ∙ ap (descriptor (suc n)) (sym (set_beside s t c (suc h) q x m.place u (p % 512) (λ z. apart (sym b.0 ∙ z)))) ∙ e))
      | inr b ↦ elim (here? s t c (suc h) q x m.place u d (suc n) p b.1) [
        | inr z ↦ let w = k.nexts d n p u y b.1 (ap (descriptor (suc n)) (sym z.1) ∙ e) in
            (w.0, w.1, keep w.0 (table d n p) w.2 refl)
        | inl z ↦
            let z2 = z.2 in
            let n= : n ≡ h = omega arith in (
              t',
              next_same (ap (λ (i : ℕ). descriptor i x) (sym z2) ∙ ap (descriptor (suc n)) (sym z.4) ∙ e) m.reads,
              rw (z.1, n=, z.3) (upd_same s.kind t' (table c h q)),
            )
      ]
    ]

    link_hangs : (d n p u : ℕ) → kind' u ≡ table d n p → Hangs linked d n p u
    link_hangs d n p u a = elim (new? u d n p a) [
      | inl b ↦
          let l = height_low s k c (suc h) (q / 512) t m.place in
          rw (b.0, b.1, b.2, b.3) (inr (
            t,
            keep t (table c (suc h) (q / 512)) m.place refl,
            ap (descriptor (suc h)) (set_here s t c (suc h) q x m.place t (q % 512) refl refl) ∙ m.reads,
            l,
          ))
      | inr b ↦ elim (k.hangs d n p u b.1) [
        | inl y ↦ inl y
        | inr y ↦ elim (here? s t c (suc h) q x m.place y.0 d (suc n) p y.1) [
          | inr z ↦ inr (y.0, keep y.0 (table d (suc n) (p / 512)) y.1 refl, ap (descriptor (suc n)) z.1 ∙ y.2, y.3)
          | inl z ↦ absurd (no_next m.empty
              (ap (λ (i : ℕ). descriptor i (s.word t (q % 512))) (sym z.2)
              ∙ ap (λ (i : ℕ). descriptor (suc n) (s.word t (i % 512))) (sym z.3)
              ∙ ap (λ (i : ℕ). descriptor (suc n) (s.word i (p % 512))) (sym z.0) ∙ y.2))
        ]
      ]
    ]

    pub link_core : Core linked
    link_core = record {
      leaves = link_leaves;
      nexts = link_nexts;
      alone = λ u d n p i y a e. let b = kind_from s.kind t' (table c h q) u (claimed d n p) a refl in
          k.alone u d n p i y b (ap (descriptor n)
          (sym (set_beside s t c (suc h) q x m.place u (i % 512) (not_claimed s t c (suc h) q x m.place u d n p b))) ∙ e);
      bare = λ u d n p i a. let b = kind_from s.kind t' (table c h q) u (emptied d n p) a refl in
          ap (descriptor n) (set_beside s t c (suc h) q x m.place u (i % 512) (not_emptied s t c (suc h) q x m.place u d n p b))
          ∙ k.bare u d n p i b;
      roots = λ d p l e. keep ((s.space d).root + p) (table d (s.space d).height p) (k.roots d p l e) refl;
      hangs = link_hangs;
    }

  pub link_leads : (d v f r : ℕ) → Leads s d v f r → Leads linked d v f r
  link_leads d v f r a = let y = a.3 in elim (here? s t c (suc h) q x m.place a.1 d a.0 (upper a.0 v) a.2) [
    | inr z ↦ (
      a.0,
      a.1,
      keep a.1 (table d a.0 (upper a.0 v / 512)) a.2 refl,
      (y.0, ap (descriptor a.0) z.1 ∙ y.1, y.2),
    )
    | inl z ↦ absurd (no_output m.empty
        (ap (λ (i : ℕ). descriptor i (s.word t (q % 512))) (sym z.2)
        ∙ ap (λ (i : ℕ). descriptor a.0 (s.word t (i % 512))) (sym z.3)
        ∙ ap (λ (i : ℕ). descriptor a.0 (s.word i (upper a.0 v % 512))) (sym z.0) ∙ y.1))
  ]

  -- what leads now did before, or lies in the range of the new table, which says it
  pub linked_new : (d v f r : ℕ) → Leads linked d v f r →
      Leads s d v f r ⊎ ((d ≡ c) × (upper (suc h) v ≡ q) × (upper h v / 512 ≡ q) × Says s t' h v f r)
  unfolding upper
  linked_new d v f r a = let y = a.3 in elim (new? a.1 d a.0 (upper a.0 v / 512) a.2) [
    | inl b ↦ let e = ap (λ (i : ℕ). upper i v / 512) (sym b.2) ∙ b.3 in
        inr (
          b.1,
          e,
          e,
          (
            y.0,
            ap (λ (i : ℕ). descriptor i (s.word t' (upper i v % 512))) (sym b.2)
                ∙ ap (λ (i : ℕ). descriptor a.0 (s.word i (upper a.0 v % 512))) (sym b.0)
                ∙ ap (descriptor a.0) (sym (set_beside s t c (suc h) q x m.place a.1 (upper a.0 v % 512)
                (λ z. apart (sym b.0 ∙ z)))) ∙ y.1,
            ap (λ (i : ℕ). inside i y.0 v) (sym b.2) ∙ y.2,
          ),
        )
    | inr b ↦ elim (here? s t c (suc h) q x m.place a.1 d a.0 (upper a.0 v) b.1) [
      | inr z ↦ inl (a.0, a.1, b.1, (y.0, ap (descriptor a.0) (sym z.1) ∙ y.1, y.2))
      | inl z ↦ absurd (next_not m.reads (ap (λ (i : ℕ). descriptor i x) (sym z.2) ∙ ap (descriptor a.0) (sym z.4) ∙ y.1))
    ]
  ]

  -- the range of the new table is not stale
  not_fresh : (d n p t : ℕ) → ((j : ℕ) × (s.waits t d j ≡ true) × Inside (s.stale d j) n p) → d ≡ c → n ≡ h → p ≡ q → ⊥
  unfolding upper
  not_fresh d n p t i d= n= p= =
      m.whole i.0 (λ v e. ap (λ (a : ℕ). s.stale a i.0 v) (sym d=) ∙ i.2 v (ap (λ (a : ℕ). upper a v / 512) n= ∙ e ∙ sym p=))

  pub link_holds : (k : Caches) → Holds s k → Holds linked k
  link_holds k z = record {
    core = link_core z.core;
    kept = record {
      table_ok = λ d n p a b. let w = z.kept.table_ok d n p a b in (
        w.0,
        w.1,
        elim w.2 [
          | inl e ↦ inl (keep w.0 (table d n p) e refl)
          | inr e ↦ inr (
            keep w.0 (emptied d n p) e.0 refl,
            e.1,
            λ u k. elim (new? u d n p k) [ inl o ↦ absurd (not_fresh d n p w.0 e.1 o.1 o.2 o.3) | inr o ↦ e.2 u o.1 ],
          )
        ],
      );
      page_ok = λ d v a r b. let w = z.kept.page_ok d v a r b in (
        w.0,
        w.1,
        elim w.2 [
          | inl e ↦ inl (link_leads d v w.0 r e)
          | inr e ↦ let j = e.1 in inr (
            (λ f'' r'' l. elim (linked_new d v f'' r'' l) [
              | inl o ↦ e.0 f'' r'' o
              | inr o ↦ let y = o.3 in true≢false (sym j.1 ∙ ap (λ (i : ℕ). s.stale i j.0 v) o.0
                  ∙ m.fresh j.0 v y.0 r'' o.1 y.1)
            ]),
            (j.0, j.1, held_keep s linked link_pages d refl w.0 r j.0 j.2),
          )
        ],
      );
      one = z.kept.one;
      one_table = z.kept.one_table;
      table_gone = z.kept.table_gone;
      page_gone = z.kept.page_gone;
    };
  }
