-- dissolve: a space that ended, and of which nothing is stale, has no tables any more.
use mathlib.Core.Path.{◌≡◌, refl, sym, ap, ◌∙◌}
use mathlib.Core.Bool.{Bool, false, true≢false, cond}
use mathlib.Core.Logic.{inl, inr}
use Prim.Native.Nat.{ℕ, suc, ◌+◌, ◌/◌}
use lib.Dec.{eqb}
use borrow.Author.Tests.{ne_eqb}
use Rattle.model.proofs.Laws.Base.{bool?}
use Rattle.model.specs.Translate.{upper}
use Rattle.model_moves.specs.Spaces.{Spaces, FrameUse, free, claimed, table, emptied, page, draining, exists, with_kind, Leads, Clean}
use Rattle.model_moves.specs.Cache.{Caches}
use Rattle.model_moves.specs.Moves.{of_space}
use Rattle.model_moves.proofs.Invariant.Core.{use_number, clash, Bears, Gone}
use Rattle.model_moves.proofs.Invariant.Ledger.{Holds, PagesSame, held_keep, bears_keep}
use Rattle.model_moves.proofs.Invariant.Open.{nothing}

module _ (s : Spaces) (c : ℕ) (no : exists s c ≡ false) (clean : Clean s c) where
  abbrev kind'' : ℕ → FrameUse
  kind'' t = cond (of_space c (s.kind t)) free (s.kind t)

  abbrev pub dissolved : Spaces
  dissolved = with_kind s kind''

  pub keep' : (t : ℕ) (y : FrameUse) → s.kind t ≡ y → of_space c y ≡ false → kind'' t ≡ y
  keep' t y e n = ap (λ (b : Bool). cond b free (s.kind t)) (ap (of_space c) e ∙ n) ∙ e

  pub from' : (t : ℕ) (y : FrameUse) → kind'' t ≡ y → eqb 1 (use_number y) ≡ false → (s.kind t ≡ y) × (of_space c y ≡ false)
  from' t y e q = elim (bool? (of_space c (s.kind t))) [
    | inl b ↦ absurd (clash {x = free} {y = y} (ap (λ (b : Bool). cond b free (s.kind t)) (sym b) ∙ e) q)
    | inr b ↦ let a = ap (λ (b : Bool). cond b free (s.kind t)) (sym b) ∙ e in (a, ap (of_space c) (sym a) ∙ b)
  ]

  dissolve_pages : PagesSame s dissolved
  dissolve_pages = record {
    pages = λ f g e. keep' f (page g) e refl;
    drains = λ f g e. keep' f (draining g) e refl;
    shares_same = λ f g d e. refl;
    waits_more = λ f g d j e w. w;
  }

  dissolve_bears : (d f r : ℕ) → Bears s d f r → Bears dissolved d f r
  dissolve_bears d f r b = bears_keep s dissolved dissolve_pages d refl refl (λ j w. w) f r b

  else : (d : ℕ) → Gone s d → eqb d c ≡ false
  else d g = ne_eqb d c (λ e. nothing s c d no clean e g)

  pub dissolved_led : (d v f r : ℕ) → Leads dissolved d v f r → Leads s d v f r
  dissolved_led d v f r a = (a.0, a.1, (from' a.1 (table d a.0 (upper a.0 v / 512)) a.2 refl).0, a.3)

  pub dissolve_holds : (k : Caches) → Holds s k → Holds dissolved k
  dissolve_holds k z = record {
    core = record {
      leaves = λ d v h t y r l e. elim l [
        | inl a ↦ let w = z.core.leaves d v h t y r (inl (from' t (table d h (upper h v / 512)) a refl).0) e in
            (w.0, w.1, dissolve_bears d w.0 r w.2)
        | inr a ↦ let w = z.core.leaves d v h t y r (inr (from' t (claimed d h (upper h v / 512)) a refl).0) e in
            (w.0, w.1, dissolve_bears d w.0 r w.2)
      ];
      nexts = λ d h q t y a e. let b = from' t (table d (suc h) (q / 512)) a refl in let w = z.core.nexts d h q t y b.0 e in
          (w.0, w.1, keep' w.0 (table d h q) w.2 b.1);
      alone = λ t d h p i y a e. z.core.alone t d h p i y (from' t (claimed d h p) a refl).0 e;
      bare = λ t d h p i a. z.core.bare t d h p i (from' t (emptied d h p) a refl).0;
      roots = λ d p l e. keep' ((s.space d).root + p) (table d (s.space d).height p) (z.core.roots d p l e)
          (ne_eqb d c (λ (i : d ≡ c). true≢false (sym l ∙ ap (exists s) i ∙ no)));
      hangs = λ d h p t a. let b = from' t (table d h p) a refl in elim (z.core.hangs d h p t b.0) [
        | inl y ↦ inl y
        | inr y ↦ inr (y.0, keep' y.0 (table d (suc h) (p / 512)) y.1 b.1, y.2, y.3)
      ];
    };
    kept = record {
      table_ok = λ d h p x a. let w = z.kept.table_ok d h p x a in (
        w.0,
        w.1,
        elim w.2 [
          | inl e ↦ inl (keep' w.0 (table d h p) e (else d (z.kept.table_gone d h p x a)))
          | inr e ↦ inr (keep' w.0 (emptied d h p) e.0 refl, e.1, λ u k. e.2 u (from' u (table d h p) k refl).0)
        ],
      );
      page_ok = λ d v x r a. let w = z.kept.page_ok d v x r a in (
        w.0,
        w.1,
        elim w.2 [
          | inl e ↦ inl (
            e.0,
            e.1,
            keep' e.1 (table d e.0 (upper e.0 v / 512)) e.2 (else d (z.kept.page_gone d v x r a)),
            e.3,
          )
          | inr e ↦ let i = e.1 in inr (
            (λ f r l. e.0 f r (dissolved_led d v f r l)),
            (i.0, i.1, held_keep s dissolved dissolve_pages d refl w.0 r i.0 i.2),
          )
        ],
      );
      one = z.kept.one;
      one_table = z.kept.one_table;
      table_gone = z.kept.table_gone;
      page_gone = z.kept.page_gone;
    };
  }
