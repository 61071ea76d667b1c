-- open_space: a space begins.
use mathlib.Core.Path.{◌≡◌, refl, sym, ap, ◌∙◌}
use mathlib.Core.Bool.{Bool, true, false, true≢false, cond}
use mathlib.Core.Logic.{◌⊎◌, inl, inr}
use Prim.Native.Nat.{ℕ, suc, ◌+◌, ◌-◌, ◌<◌, ◌/◌, ◌%◌}
use native.Mathlib.Omega.{arith}
use lib.Dec.{eqb, ltb, leb}
use borrow.Author.Tests.{leb-true, le-leb, ltb-true, lt-ltb}
use Rattle.model.proofs.Laws.Base.{bool?, eq?, and_true, upd_at, upd_other}
use Rattle.model.specs.Base.{upd}
use Rattle.model.specs.Translate.{upper}
use Rattle.model.specs.Cache.{invalid, descriptor}
use Rattle.model_moves.specs.Spaces.{Spaces, Space, FrameUse, free, claimed, table, emptied, page, draining, exists, with_kind, with_space, Leads, Clean}
use Rattle.model_moves.specs.Cache.{Caches}
use Rattle.model_moves.specs.Moves.{Open, rooted}
use Rattle.model_moves.proofs.Invariant.Core.{use_number, clash, Core, Bears, Gone, no_next, no_output}
use Rattle.model_moves.proofs.Invariant.Ledger.{Holds, PagesSame, held_keep, bears_keep}

-- nothing is kept of a space that is no longer and of which nothing is stale
pub nothing : (s : Spaces) (c d : ℕ) → exists s c ≡ false → Clean s c → d ≡ c → Gone s d → ⊥
nothing s c d n w e g = let a = g (ap (exists s) e ∙ n) in true≢false (sym (a.1 0) ∙ ap (λ (i : ℕ). s.stale i a.0 0) e ∙ w a.0 0)

module _ (s : Spaces) (c : ℕ) (n : Space) (m : Open s c n) where
  abbrev kind' : ℕ → FrameUse
  kind' t = cond (rooted n t) (table c n.height (t - n.root)) (s.kind t)

  abbrev opened : Spaces
  opened = with_kind (with_space s (upd s.space c n)) kind'

  is_rooted : (t : ℕ) → rooted n t ≡ true → (t - n.root < n.wide) × (n.root + (t - n.root) ≡ t)
  is_rooted t e =
      let a = and_true (leb n.root t) (ltb t (n.root + n.wide)) e in
      let b = leb-true n.root t a.0 in
      let d = ltb-true t (n.root + n.wide) a.1 in
      (omega arith, omega arith)

  was_free : (t : ℕ) → rooted n t ≡ true → s.kind t ≡ free
  was_free t e = let a = is_rooted t e in ap s.kind (sym a.1) ∙ (m.spare (t - n.root) a.0).0

  pub keep : (t : ℕ) (y : FrameUse) → s.kind t ≡ y → eqb 1 (use_number y) ≡ false → kind' t ≡ y
  keep t y e q = elim (bool? (rooted n t)) [
    | inl r ↦ absurd (clash {x = free} {y = y} (sym (was_free t r) ∙ e) q)
    | inr r ↦ ap (λ (b : Bool). cond b (table c n.height (t - n.root)) (s.kind t)) r ∙ e
  ]

  from : (t : ℕ) (y : FrameUse) → kind' t ≡ y → eqb 3 (use_number y) ≡ false → s.kind t ≡ y
  from t y e q = go (rooted n t) e
    where
      go : (b : Bool) → cond b (table c n.height (t - n.root)) (s.kind t) ≡ y → s.kind t ≡ y
      go true e = absurd (clash {x = table c n.height (t - n.root)} {y = y} e q)
      go false e = e

  -- a table is a root of the new space, or was one of another
  pub new? : (t d h p : ℕ) → kind' t ≡ table d h p →
      ((rooted n t ≡ true) × (d ≡ c) × (h ≡ n.height) × (p ≡ t - n.root)) ⊎ ((d ≡ c → ⊥) × (s.kind t ≡ table d h p))
  new? t d h p e = elim (bool? (rooted n t)) [
    | inl r ↦ let b : table c n.height (t - n.root) ≡
        table d h p = ap (λ (b : Bool). cond b (table c n.height (t - n.root)) (s.kind t)) (sym r) ∙ e in inl (r, cc, cc, cc)
    | inr r ↦ let b : s.kind t ≡ table d h p = ap (λ (b : Bool). cond b (table c n.height (t - n.root)) (s.kind t)) (sym r) ∙ e in
        inr (λ (i : d ≡ c). (m.none t h p).0 (rw i at b), b)
  ]

  pub bare_root : (t i : ℕ) → rooted n t ≡ true → descriptor n.height (s.word t (i % 512)) ≡ invalid
  bare_root t i r =
      let a = is_rooted t r in ap (λ (u : ℕ). descriptor n.height (s.word u (i % 512))) (sym a.1)
      ∙ (m.spare (t - n.root) a.0).1 i

  pub same : (d : ℕ) → (d ≡ c → ⊥) → opened.space d ≡ s.space d
  same d e = upd_other s.space c n d e

  open_pages : PagesSame s opened
  open_pages = record {
    pages = λ f g e. keep f (page g) e refl;
    drains = λ f g e. keep f (draining g) e refl;
    shares_same = λ f g d e. refl;
    waits_more = λ f g d j e w. w;
  }

  open_bears : (d f r : ℕ) → (d ≡ c → ⊥) → Bears s d f r → Bears opened d f r
  open_bears d f r e b =
      bears_keep s opened open_pages d (ap (λ (z : Space). z.serves) (same d e)) (ap (λ (z : Space). z.exists) (same d e))
      (λ j w. w) f r b

  open_core : Core s → Core opened
  open_core k = record {
    leaves = λ d v h t y r l e. elim l [
      | inl a ↦ elim (new? t d h (upper h v / 512) a) [
        | inl b ↦ absurd (no_output (bare_root t (upper h v) b.0)
            (ap (λ (i : ℕ). descriptor i (s.word t (upper h v % 512))) (sym b.2) ∙ e))
        | inr b ↦ let z = k.leaves d v h t y r (inl b.1) e in (z.0, z.1, open_bears d z.0 r b.0 z.2)
      ]
      | inr a ↦
          let b = from t (claimed d h (upper h v / 512)) a refl in
          let z = k.leaves d v h t y r (inr b) e in
          (z.0, z.1, open_bears d z.0 r (λ (i : d ≡ c). (m.none t h (upper h v / 512)).1 (rw i at b)) z.2)
    ];
    nexts = λ d h q t y a e. elim (new? t d (suc h) (q / 512) a) [
      | inl b ↦ absurd (no_next (bare_root t q b.0) (ap (λ (i : ℕ). descriptor i (s.word t (q % 512))) (sym b.2) ∙ e))
      | inr b ↦ let z = k.nexts d h q t y b.1 e in (z.0, z.1, keep z.0 (table d h q) z.2 refl)
    ];
    alone = λ t d h p i y a e. k.alone t d h p i y (from t (claimed d h p) a refl) e;
    bare = λ t d h p i a. k.bare t d h p i (from t (emptied d h p) a refl);
    roots = λ d p l e. elim (eq? d c) [
      | inl i ↦ let sp : opened.space d ≡ n = upd_at s.space c n d i in rw (sp, i) (root p (rw sp at e))
      | inr i ↦ rw (same d i) (keep ((s.space d).root + p) (table d (s.space d).height p)
          (k.roots d p (ap (λ (z : Space). z.exists) (sym (same d i)) ∙ l) (rw (same d i) at e)) refl)
    ];
    hangs = λ d h p t a. elim (new? t d h p a) [
      | inl b ↦
          let z = is_rooted t b.0 in
          let sp : opened.space d ≡ n = upd_at s.space c n d b.1 in
          inl (b.2 ∙ ap (λ (z : Space). z.height) (sym sp), rw (sp, b.3) z.0, rw (sp, b.3) (sym z.1))
      | inr b ↦ elim (k.hangs d h p t b.1) [
        | inl y ↦ inl (rw (same d b.0) y)
        | inr y ↦ inr (y.0, keep y.0 (table d (suc h) (p / 512)) y.1 refl, y.2, rw (same d b.0) y.3)
      ]
    ];
  }
    where
      root : (p : ℕ) → p < n.wide → kind' (n.root + p) ≡ table c n.height p
      root p l =
          let t1 : leb n.root (n.root + p) ≡ true = le-leb n.root (n.root + p) (omega arith) in
          let t2 : ltb (n.root + p) (n.root + n.wide) ≡ true = lt-ltb (n.root + p) (n.root + n.wide) (omega arith) in
          let d : n.root + p - n.root ≡ p = omega arith in
          rw (t1, t2, d)

  pub open_leads : (d v f r : ℕ) → Leads s d v f r → Leads opened d v f r
  open_leads d v f r a = (a.0, a.1, keep a.1 (table d a.0 (upper a.0 v / 512)) a.2 refl, a.3)

  pub opened_led : (d v f r : ℕ) → Leads opened d v f r → Leads s d v f r
  opened_led d v f r a = elim (new? a.1 d a.0 (upper a.0 v / 512) a.2) [
    | inl b ↦ let y = a.3 in absurd (no_output (bare_root a.1 (upper a.0 v) b.0)
        (ap (λ (i : ℕ). descriptor i (s.word a.1 (upper a.0 v % 512))) (sym b.2) ∙ y.1))
    | inr b ↦ (a.0, a.1, b.1, a.3)
  ]

  pub open_holds : (k : Caches) → Holds s k → Holds opened k
  open_holds k z = record {
    core = open_core z.core;
    kept = record {
      table_ok = λ d h p x a. let w = z.kept.table_ok d h p x a in (
        w.0,
        w.1,
        elim w.2 [
          | inl e ↦ inl (keep w.0 (table d h p) e refl)
          | inr e ↦ inr (
            keep w.0 (emptied d h p) e.0 refl,
            e.1,
            λ u k. elim (new? u d h p k) [
              | inl b ↦ nothing s c d m.new m.clean b.1
                  (z.kept.table_gone d h p x a)
              | inr b ↦ e.2 u b.1
            ],
          )
        ],
      );
      page_ok = λ d v x r a. let w = z.kept.page_ok d v x r a in (
        w.0,
        w.1,
        elim w.2 [
          | inl e ↦ inl (open_leads d v w.0 r e)
          | inr e ↦ let j = e.1 in
              let ne : d ≡ c → ⊥ = λ (i : d ≡ c). nothing s c d m.new m.clean i (z.kept.page_gone d v x r a) in
              inr (
                (λ f r l. e.0 f r (opened_led d v f r l)),
                (j.0, j.1, held_keep s opened open_pages d (ap (λ (z : Space). z.serves) (same d ne)) w.0 r j.0 j.2),
              )
        ],
      );
      one = z.kept.one;
      one_table = z.kept.one_table;
      table_gone = λ d h p x a l. gone d (z.kept.table_gone d h p x a) l;
      page_gone = λ d v x r a l. gone d (z.kept.page_gone d v x r a) l;
    };
  }
    where
      gone : (d : ℕ) → Gone s d → Gone opened d
      gone d g l = elim (eq? d c) [
        | inl i ↦ absurd (nothing s c d m.new m.clean i g)
        | inr i ↦ g (ap (λ (z : Space). z.exists) (sym (same d i)) ∙ l)
      ]
