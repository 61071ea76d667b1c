-- lend, retire, release.
use mathlib.Core.Path.{◌≡◌, refl, sym, ap, ◌∙◌}
use mathlib.Core.Bool.{Bool, true, false, true≢false, cond}
use mathlib.Core.Logic.{inl, inr}
use Prim.Native.Nat.{ℕ}
use lib.Dec.{eqb}
use Rattle.model.proofs.Laws.Base.{bool?, eq?, upd2_at, upd2_other}
use Rattle.model.specs.Base.{upd2}
use Rattle.model.specs.Operations.{shares}
use Rattle.model_moves.specs.Spaces.{Spaces, FrameUse, free, claimed, table, emptied, page, draining, with_shared, with_waits, May, Has}
use Rattle.model_moves.specs.Cache.{Caches}
use Rattle.model_moves.specs.Moves.{Lend, Retire, Released, turned}
use Rattle.model_moves.proofs.Invariant.Core.{use_number, clash, Held}
use Rattle.model_moves.proofs.Invariant.Quiet.{TablesSame, quiet_core, quiet_kept}
use Rattle.model_moves.proofs.Invariant.Ledger.{Holds, shares_none}

module _ (s : Spaces) (f c how : ℕ) (m : Lend s f c how) where
  abbrev lent : Spaces
  lent = with_shared s (upd2 s.shared f c how)

  lend_may : (c' f' r : ℕ) → (f' ≡ f → c' ≡ c → shares (s.shared f c) r ≡ true → shares how r ≡ true) → May s c' f' r → May lent c' f' r
  lend_may c' f' r more (inl a) = inl a
  lend_may c' f' r more (inr a) = inr (
    a.0,
    a.1,
    elim (eq? f' f) [
      | inr n ↦ ap (λ (x : ℕ). shares x r) (upd2_other s.shared f c how f' c' (λ x y. n x)) ∙ a.2
      | inl p ↦ elim (eq? c' c) [
        | inr n ↦ ap (λ (x : ℕ). shares x r) (upd2_other s.shared f c how f' c' (λ x y. n y)) ∙ a.2
        | inl q ↦ ap (λ (x : ℕ). shares x r) (upd2_at s.shared f c how f' c' p q)
            ∙ more p q (ap (λ (x : ℕ). shares (s.shared x c) r) (sym p) ∙ ap (λ (x : ℕ). shares (s.shared f' x) r) (sym q) ∙ a.2)
      ]
    ],
  )

  -- where c has f, or may still have it, it is shared for no less
  more_has : (c' f' r : ℕ) → Has s c' f' r → f' ≡ f → c' ≡ c → shares (s.shared f c) r ≡ true → shares how r ≡ true
  more_has c' f' r w p q e = elim m.allowed [ inl a ↦ a r e | inr a ↦ absurd (a.0 r (rw (p, q) at w)) ]

  more_stale : (c' r j v : ℕ) → s.stale c' j v ≡ true → c' ≡ c → shares (s.shared f c) r ≡ true → shares how r ≡ true
  more_stale c' r j v w q e = elim m.allowed [
    | inl a ↦ a r e
    | inr a ↦ absurd
        (true≢false (sym w ∙ ap (λ (x : ℕ). s.stale x j v) q ∙ a.1 j v))
  ]

  lend_held : (c' v f' r j : ℕ) → s.stale c' j v ≡ true → Held s c' f' r j → Held lent c' f' r j
  lend_held c' v f' r j w (inl a) = inl (lend_may c' f' r (λ p q. more_stale c' r j v w q) a)
  lend_held c' v f' r j w (inr a) = inr a

  pub lend_tables : TablesSame s s.kind (upd2 s.shared f c how) s.waits s.stale s.word
  lend_tables = record { from = λ t c h p e. e; to = λ t c h p e. e; words = λ t c h p i e. refl }

  pub lend_holds : (k : Caches) → Holds s k → Holds lent k
  lend_holds k y = record {
    core = quiet_core s s.kind (upd2 s.shared f c how) s.waits s.stale s.word lend_tables y.core (record {
      claims = λ t c h p e i. (e, refl);
      empties = λ t c h p e i. (e, refl);
      bears = λ c' f' r w b. record {
        may = λ l. lend_may c' f' r (more_has c' f' r w) (b.may l);
        held = λ l j z. lend_held c' 0 f' r j (z 0) (b.held l j z);
      };
    });
    kept =
        quiet_kept s s.kind (upd2 s.shared f c how) s.waits s.word lend_tables (λ t c h p j a b. (a, b)) lend_held k y.kept;
  }

-- a set of frames becomes x
module _ (P : ℕ → Bool) (kind : ℕ → FrameUse) (x : FrameUse) where
  pub set_from : (t : ℕ) (z : FrameUse) → cond (P t) x (kind t) ≡ z → eqb (use_number x) (use_number z) ≡ false → kind t ≡ z
  set_from t z e n = go (P t) e
    where
      go : (b : Bool) → cond b x (kind t) ≡ z → kind t ≡ z
      go true e = absurd (clash {x = x} {y = z} e n)
      go false e = e

  pub set_keep : (t : ℕ) (z : FrameUse) → kind t ≡ z → (P t ≡ true → ⊥) → cond (P t) x (kind t) ≡ z
  set_keep t z e n = elim (bool? (P t)) [ inl p ↦ absurd (n p) | inr p ↦ ap (λ (b : Bool). cond b x (kind t)) p ∙ e ]

module _ (s : Spaces) (P : ℕ → Bool) (g : ℕ) (W : ℕ → ℕ → Bool) (m : (f : ℕ) → P f ≡ true → Retire s g f W) where
  abbrev waits' : ℕ → ℕ → ℕ → Bool
  waits' f = cond (P f) W (s.waits f)

  abbrev retired : Spaces
  retired = with_waits (turned s P (draining g)) waits'

  -- only pages of g
  out : (t : ℕ) (z : FrameUse) → s.kind t ≡ z → eqb 5 (use_number z) ≡ false → P t ≡ true → ⊥
  out t z e n p = clash {x = page g} {y = z} (sym (m t p).was ∙ e) n

  as_before : (t : ℕ) (z : FrameUse) → s.kind t ≡ z → eqb 5 (use_number z) ≡ false →
      (cond (P t) (draining g) (s.kind t) ≡ z) × ((c j : ℕ) → waits' t c j ≡ s.waits t c j)
  as_before t z e n = elim (bool? (P t)) [
    | inl p ↦ absurd (out t z e n p)
    | inr p ↦
        (ap (λ (b : Bool). cond b (draining g) (s.kind t)) p ∙ e, λ c j. ap (λ (b : Bool). cond b W (s.waits t) c j) p)
  ]

  pub retire_tables : TablesSame s retired.kind s.shared waits' s.stale s.word
  retire_tables = record {
    from = λ t c h p e. set_from P s.kind (draining g) t (table c h p) e refl;
    to = λ t c h p e. (as_before t (table c h p) e refl).0;
    words = λ t c h p i e. refl;
  }

  stays_may : (c f r : ℕ) → P f ≡ false → May s c f r → May retired c f r
  stays_may c f r n (inl a) = inl (ap (λ (b : Bool). cond b (draining g) (s.kind f)) n ∙ a)
  stays_may c f r n (inr a) = inr (a.0, ap (λ (b : Bool). cond b (draining g) (s.kind f)) n ∙ a.1, a.2)

  -- a page that drains is stale for the spaces of its guest only
  waiting : (c f r j v : ℕ) → s.stale c j v ≡ true → P f ≡ true → May s c f r → Held retired c f r j
  waiting c f r j v w p (inl a) =
      let b : page g ≡ page (s.space c).serves = sym (m f p).was ∙ a in
      let e : (s.space c).serves ≡ g = cc in
      inr (
        ap (λ (b : Bool). cond b (draining g) (s.kind f)) p ∙ ap draining (sym e),
        ap (λ (b : Bool). cond b W (s.waits f) c j) p
            ∙ (m f p).for c j v e w,
      )
  waiting c f r j v w p (inr a) = absurd (shares_none r (ap (λ (x : ℕ). shares x r) (sym ((m f p).unshared c)) ∙ a.2))

  retire_held : (c v f r j : ℕ) → s.stale c j v ≡ true → Held s c f r j → Held retired c f r j
  retire_held c v f r j w (inl a) = elim (bool? (P f)) [ inl p ↦ waiting c f r j v w p a | inr p ↦ inl (stays_may c f r p a) ]
  retire_held c v f r j w (inr a) = let b = as_before f (draining (s.space c).serves) a.0 refl in inr (b.0, b.1 c j ∙ a.1)

  pub retire_holds : (k : Caches) → Holds s k → Holds retired k
  retire_holds k y = record {
    core = quiet_core s retired.kind s.shared waits' s.stale s.word retire_tables y.core (record {
      claims = λ t c h p e i. (set_from P s.kind (draining g) t (claimed c h p) e refl, refl);
      empties = λ t c h p e i. (set_from P s.kind (draining g) t (emptied c h p) e refl, refl);
      bears = λ c f r w b. record {
        may = λ l. elim (bool? (P f)) [ inl p ↦ absurd ((m f p).nowhere c r l w) | inr p ↦ stays_may c f r p (b.may l) ];
        held = λ l j z. retire_held c 0 f r j (z 0) (b.held l j z);
      };
    });
    kept = quiet_kept s retired.kind s.shared waits' s.word retire_tables
        (λ t c h p j a b. let d = as_before t (emptied c h p) a refl in (d.0, d.1 c j ∙ b)) retire_held k y.kept;
  }

module _ (s : Spaces) (P : ℕ → Bool) (m : (f : ℕ) → P f ≡ true → Released s f) where
  abbrev freed : Spaces
  freed = turned s P free

  not_released : (t : ℕ) (z : FrameUse) → s.kind t ≡ z → eqb 6 (use_number z) ≡ false → eqb 4 (use_number z) ≡ false → P t ≡ true → ⊥
  not_released t z e a b p = elim (m t p).0 [
    | inl x ↦ clash {x = draining x.0} {y = z}
        (sym x.1 ∙ e) a
    | inr x ↦ clash {x = emptied x.0 x.1 x.2} {y = z} (sym x.3 ∙ e) b
  ]

  -- what waits is not released
  not_waiting : (t c j : ℕ) → s.waits t c j ≡ true → P t ≡ true → ⊥
  not_waiting t c j w p = true≢false (sym w ∙ (m t p).1 c j)

  pub release_tables : TablesSame s freed.kind s.shared s.waits s.stale s.word
  release_tables = record {
    from = λ t c h p e. set_from P s.kind free t (table c h p) e refl;
    to = λ t c h p e. set_keep P s.kind free t (table c h p) e (not_released t (table c h p) e refl refl);
    words = λ t c h p i e. refl;
  }

  release_may : (c f r : ℕ) → May s c f r → May freed c f r
  release_may c f r (inl a) =
      inl (set_keep P s.kind free f (page (s.space c).serves) a (not_released f (page (s.space c).serves) a refl refl))
  release_may c f r (inr a) =
      inr (a.0, set_keep P s.kind free f (page a.0) a.1 (not_released f (page a.0) a.1 refl refl), a.2)

  release_held : (c f r j : ℕ) → Held s c f r j → Held freed c f r j
  release_held c f r j (inl a) = inl (release_may c f r a)
  release_held c f r j (inr a) = inr (set_keep P s.kind free f (draining (s.space c).serves) a.0 (not_waiting f c j a.1), a.1)

  pub release_holds : (k : Caches) → Holds s k → Holds freed k
  release_holds k y = record {
    core = quiet_core s freed.kind s.shared s.waits s.stale s.word release_tables y.core (record {
      claims = λ t c h p e i. (set_from P s.kind free t (claimed c h p) e refl, refl);
      empties = λ t c h p e i. (set_from P s.kind free t (emptied c h p) e refl, refl);
      bears = λ c f r w b. record { may = λ l. release_may c f r (b.may l); held = λ l j z. release_held c f r j (b.held l j z) };
    });
    kept = quiet_kept s freed.kind s.shared s.waits s.word release_tables
        (λ t c h p j a b. (set_keep P s.kind free t (emptied c h p) a (not_waiting t c j b), b))
        (λ c v f r j w. release_held c f r j) k y.kept;
  }
