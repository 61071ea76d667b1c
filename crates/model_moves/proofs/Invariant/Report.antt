-- The report of an invalidation.
use mathlib.Core.Path.{◌≡◌, refl, sym, ap, ◌∙◌}
use mathlib.Core.Bool.{Bool, true, false, true≢false, not, ◌&&◌}
use mathlib.Core.Logic.{◌⊎◌, inl, inr}
use Prim.Native.Nat.{ℕ}
use lib.Dec.{eqb}
use borrow.Author.Tests.{eqb-true}
use Rattle.model.proofs.Laws.Base.{bool?, eq?, and_true, not_true, upd_at, upd_other}
use Rattle.model_moves.specs.Spaces.{Spaces}
use Rattle.model_moves.specs.Cache.{Caches, forget}
use Rattle.model_moves.specs.Moves.{Report, reported}
use Rattle.model_moves.proofs.Invariant.Core.{Core, Kept, Held}
use Rattle.model_moves.proofs.Invariant.Quiet.{TablesSame, quiet_core}
use Rattle.model_moves.proofs.Invariant.Ledger.{Holds}

both : (a b : Bool) → a ≡ true → b ≡ false → (a && not b) ≡ true
both true true e q = absurd (true≢false q)
both true false e q = refl
both false b e q = absurd (true≢false (sym e))

off : (a b : Bool) → (a ≡ true → b ≡ false) → (a && b) ≡ false
off true b e = e refl
off false b e = refl

module _ (s : Spaces) (c : ℕ) (R D : ℕ → Bool) (m : Report s c R D) where
  abbrev s' : Spaces
  s' = reported s c D

  -- slot j of space d is not cleared
  abbrev Stays : (d j : ℕ) → Type 0
  Stays d j = d ≡ c → D j ≡ false

  pub stays? : (d j : ℕ) → ((d ≡ c) × (D j ≡ true)) ⊎ Stays d j
  stays? d j = elim (bool? (D j)) [
    | inr e ↦ inr (λ p. e)
    | inl e ↦ elim (eq? d c) [ inl p ↦ inl (p, e) | inr p ↦ inr (λ q. absurd (p q)) ]
  ]

  pub stale_stays : (d j v : ℕ) → s.stale d j v ≡ true → Stays d j → s'.stale d j v ≡ true
  stale_stays d j v e w = elim (eq? d c) [
    | inl p ↦ ap (λ (z : ℕ → ℕ → Bool). z j v) (upd_at s.stale c (λ j v. s.stale c j v && not (D j)) d p)
        ∙ both (s.stale c j v) (D j) (ap (λ (i : ℕ). s.stale i j v) (sym p) ∙ e) (w p)
    | inr p ↦ ap (λ (z : ℕ → ℕ → Bool). z j v) (upd_other s.stale c (λ j v. s.stale c j v && not (D j)) d p) ∙ e
  ]

  stale_was : (d j v : ℕ) → s'.stale d j v ≡ true → (s.stale d j v ≡ true) × Stays d j
  stale_was d j v e = elim (eq? d c) [
    | inl p ↦
        let a = and_true (s.stale c j v) (not (D j))
        (ap (λ (z : ℕ → ℕ → Bool). z j v) (sym (upd_at s.stale c (λ j v. s.stale c j v && not (D j)) d p)) ∙ e) in
        (ap (λ (i : ℕ). s.stale i j v) p ∙ a.0, λ q. not_true (D j) a.1)
    | inr p ↦ (
      ap (λ (z : ℕ → ℕ → Bool). z j v) (sym (upd_other s.stale c (λ j v. s.stale c j v && not (D j)) d p)) ∙ e,
      λ q. absurd (p q),
    )
  ]

  waits_stays : (f d j : ℕ) → s.waits f d j ≡ true → Stays d j → s'.waits f d j ≡ true
  waits_stays f d j e w = both (s.waits f d j) (eqb d c && D j) e (off (eqb d c) (D j) (λ a. w (eqb-true d c a)))

  held_stays : (d f r j : ℕ) → Stays d j → Held s d f r j → Held s' d f r j
  held_stays d f r j w (inl a) = inl a
  held_stays d f r j w (inr a) = inr (a.0, waits_stays f d j a.1 w)

  tables : TablesSame s s.kind s.shared s'.waits s'.stale s.word
  tables = record { from = λ t c h p e. e; to = λ t c h p e. e; words = λ t c h p i e. refl }

  pub report_core : Core s → Core s'
  report_core k = quiet_core s s.kind s.shared s'.waits s'.stale s.word tables k (record {
    claims = λ t c h p e i. (e, refl);
    empties = λ t c h p e i. (e, refl);
    bears = λ d f r w b. record {
      may = b.may;
      held = λ l j z. held_stays d f r j (stale_was d j 0 (z 0)).1 (b.held l j (λ v. (stale_was d j v (z v)).0));
    };
  })

  -- a slot that has a page that is not forgotten is not cleared
  pub report_kept : (k : Caches) → Kept s k → Kept s' (forget k c R)
  unfolding forget
  report_kept k q = record {
    table_ok = λ d h p x a. let w = q.table_ok d h p x a.0 in (
      w.0,
      w.1,
      elim w.2 [
        | inl e ↦ inl e
        | inr e ↦ let j = e.1 in
            let st : Stays d j.0 = elim (stays? d j.0) [
              | inl z ↦ absurd
                  (a.1 z.0 (λ v u. m.covered j.0 v z.1
                  (ap (λ (i : ℕ). s.stale i j.0 v) (sym z.0) ∙ j.2 v u)))
              | inr z ↦ z
            ] in
            inr (e.0, (j.0, waits_stays w.0 d j.0 j.1 st, λ v u. stale_stays d j.0 v (j.2 v u) st), e.2)
      ],
    );
    page_ok = λ d v x r a. let w = q.page_ok d v x r a.0 in (
      w.0,
      w.1,
      elim w.2 [
        | inl e ↦ inl e
        | inr e ↦ let j = e.1 in
            let st : Stays d j.0 = elim (stays? d j.0) [
              | inl z ↦ absurd
                  (a.1 z.0 (m.covered j.0 v z.1 (ap (λ (i : ℕ). s.stale i j.0 v) (sym z.0) ∙ j.1)))
              | inr z ↦ z
            ] in
            inr (e.0, (j.0, stale_stays d j.0 v j.1 st, held_stays d w.0 r j.0 st j.2))
      ],
    );
    one_table = λ d h p x x' a b. q.one_table d h p x x' a.0 b.0;
    one = λ d v x r x' r' a b. q.one d v x r x' r' a.0 b.0;
    table_gone = λ d h p x a l. let w = q.table_gone d h p x a.0 l in
        let st : Stays d w.0 = elim (stays? d w.0) [
          | inl z ↦ absurd
              (a.1 z.0 (λ v u. m.covered w.0 v z.1 (ap (λ (i : ℕ). s.stale i w.0 v) (sym z.0) ∙ w.1 v)))
          | inr z ↦ z
        ] in
        (w.0, λ v. stale_stays d w.0 v (w.1 v) st);
    page_gone = λ d v x r a l. let w = q.page_gone d v x r a.0 l in
        let st : Stays d w.0 = elim (stays? d w.0) [
          | inl z ↦ absurd
              (a.1 z.0 (m.covered w.0 v z.1 (ap (λ (i : ℕ). s.stale i w.0 v) (sym z.0) ∙ w.1 v)))
          | inr z ↦ z
        ] in
        (w.0, λ u. stale_stays d w.0 u (w.1 u) st);
  }

  pub report_holds : (k : Caches) → Holds s k → Holds s' (forget k c R)
  report_holds k y = record { core = report_core y.core; kept = report_kept k y.kept }
