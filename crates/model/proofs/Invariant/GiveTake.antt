-- give and take keep the invariant.
use mathlib.Core.Path.{◌≡◌, refl, sym, ap, ◌∙◌}
use mathlib.Core.Bool.{Bool, true, false, cond}
use mathlib.Core.Logic.{◌⊎◌, inl, inr}
use Prim.Native.Nat.{ℕ, zero, suc, ◌+◌, ◌≤◌, ◌<◌, ◌/◌, ◌%◌}
use native.Mathlib.Omega.{arith}
use lib.Dec.{eqb, ltb, leb}
use borrow.Author.Tests.{eqb-true, ltb-true, leb-true}
use Rattle.model.proofs.Laws.Base.{eq?, bool?, and_true, sum_zero}
use Rattle.model.specs.Base.{upd}
use Rattle.model.proofs.Laws.Base.{upd_at, upd_other}
use Rattle.model.specs.State.{State, KindOfFrame, free, table, page, draining_page, guests, is_guest, is_free, total}
use Rattle.model.specs.Entry.{to_page}
use Rattle.model.specs.Translate.{entry_at}
use Rattle.model.specs.Changes.{becomes, zeros}
use Rattle.model.specs.Operations.{done, shares, give, take}
use Rattle.model.specs.Cache.{Caches}
use Rattle.model.specs.State.{kind_number, DRAINING_TABLE, PAGE, TABLE}
use Rattle.model.proofs.Invariant.Kinds.{clash, kind_keep, kind_from, free_is, page_of_is}
use Rattle.model.specs.Invariant.{May, Core, Kept}
use Rattle.model.proofs.Invariant.Core.{low}
use Rattle.model.proofs.Invariant.Counts.{places_zero}
use Rattle.model.proofs.Invariant.Becomes.{becomes_core, becomes_kept}
use Rattle.model.proofs.Invariant.Answer.{Good, then_done, checked}

-- a guest's part of a sum over guests
pub total_zero : (c : ℕ → ℕ) → total c ≡ 0 → (h : ℕ) → is_guest h ≡ true → c h ≡ 0
unfolding total
total_zero c z h e = go h (ltb-true 0 h (and_true (ltb 0 h) (leb h guests) e).0)
    (leb-true h guests (and_true (ltb 0 h) (leb h guests) e).1)
  where
    go : (h : ℕ) → 0 < h → h ≤ guests → c h ≡ 0
    go zero l m = absurd (omega arith)
    go (suc h) l m = sum_zero guests (λ h. c (suc h)) z h (omega arith)

-- what is not shared allows nothing
pub shares_0 : (how r : ℕ) → how ≡ 0 → shares how r ≡ true → ⊥
unfolding shares
shares_0 how r z e = let a : ◌≡◌ {A = ℕ} 0 1 = no_bool (rw z at e) in omega arith
  where
    no_bool : false ≡ true → ◌≡◌ {A = ℕ} 0 1
    no_bool e = cc

module _ (s : State) (c : Core s) where
  -- a page that is mapped nowhere; one that is shared with nobody
  pub unmapped : (f : ℕ) → total (s.count f) ≡ 0 → (g t p i r : ℕ) → s.kind t ≡ table g 0 p → i < 512 → entry_at s t i ≡ to_page f r → ⊥
  unmapped f z g t p i r a l b =
      places_zero s f g (sym (c.counts f g) ∙ total_zero (s.count f) z g (c.guests_only g (c.table_exists t g 0 p a)))
      t p i r (low s c t (table g 0 p) a refl) l a b

  pub with_nobody : (f o : ℕ) → s.kind f ≡ page o → total (s.shared f) ≡ 0 → (h : ℕ) → s.shared f h ≡ 0
  with_nobody f o a z h = elim (bool? (s.exists h)) [
    | inl e ↦ total_zero (s.shared f) z h (c.guests_only h e)
    | inr e ↦ c.strangers f o h a e
  ]

module _ (s : State) (c : Core s) (k : Caches) (q : Kept s k) where
  -- somebody's page stays so when a frame that is no page changes
  may_else : (f : ℕ) (x y : KindOfFrame) (w : ℕ → ℕ → ℕ) (sh : ℕ → ℕ) → s.kind f ≡ x → eqb (kind_number x) PAGE ≡ false → (g f' r : ℕ) →
      May s g f' r →
      May (becomes s f y w (upd s.shared f sh)) g f' r
  unfolding becomes
  may_else f x y w sh hf n g f' r (inl h) = inl (kind_keep s.kind f x y hf f' (page g) h n)
  may_else f x y w sh hf n g f' r (inr h) =
      inr (
        h.0,
        kind_keep s.kind f x y hf f' (page h.0) h.1 n,
        rw (upd_other s.shared f sh f' (λ (e : f' ≡ f). clash {x = x} {y = page h.0} (sym hf ∙ ap s.kind (sym e) ∙ h.1) n))
            h.2,
      )

  pub give_good : (f g : ℕ) → Good k (give s f g)
  unfolding give zeros
  give_good f g =
      checked 5 λ e1. checked 4 λ e2. checked 6 λ e3. then_done (record {
        core = becomes_core s c f free (page g) w sh (hf e3) (refl, refl, refl, refl) refl refl hw
            (λ g' t p i f' r a b d m. may_else f free (page g) w zeros (hf e3) refl g' f' r m)
            (λ g' e. cc)
            dead;
        kept = becomes_kept s c f free (page g) w sh (hf e3) (refl, refl, refl, refl) refl refl hw k q (λ g' v f' r a.
            elim [
              | inl m ↦ inl (may_else f free (page g) w zeros (hf e3) refl g' f' r m)
              | inr m ↦ inr (kind_keep s.kind f free (page g) (hf e3) f' (draining_page g') m refl)
            ]);
      })
    where
      w : ℕ → ℕ → ℕ
      w = upd s.word f zeros

      sh : ℕ → ℕ → ℕ
      sh = upd s.shared f zeros

      hf : is_free (s.kind f) ≡ true → s.kind f ≡ free
      hf e = free_is (s.kind f) e

      hw : (t : ℕ) → (t ≡ f → ⊥) → (i : ℕ) → w t i ≡ s.word t i
      hw t ne i = rw (upd_other s.word f zeros t ne)

      dead : (f' o h : ℕ) → upd s.kind f (page g) f' ≡ page o → s.exists h ≡ false → sh f' h ≡ 0
      dead f' o h a l = elim (eq? f' f) [
        | inl e ↦ rw (upd_at s.shared f zeros f' e)
        | inr e ↦ rw (upd_other s.shared f zeros f' e) (c.strangers f' o h (sym (upd_other s.kind f (page g) f' e) ∙ a) l)
      ]

  -- a page to which nothing leads, and which nobody may use but its owner
  module _ (f g : ℕ) (hf : s.kind f ≡ page g) (zm : total (s.count f) ≡ 0) (zs : total (s.shared f) ≡ 0) (y : KindOfFrame) where
    may_other : (g' f' r : ℕ) → (f' ≡ f → ⊥) → May s g' f' r → May (becomes s f y s.word s.shared) g' f' r
    unfolding becomes
    may_other g' f' r ne (inl h) = inl (upd_other s.kind f y f' ne ∙ h)
    may_other g' f' r ne (inr h) = inr (h.0, upd_other s.kind f y f' ne ∙ h.1, h.2)

    take_core : eqb (kind_number y) TABLE ≡ false → eqb (kind_number y) DRAINING_TABLE ≡ false → eqb (kind_number y) PAGE ≡ false →
        Core (becomes s f y s.word s.shared)
    take_core y2 y3 y4 = becomes_core s c f (page g) y s.word s.shared hf (refl, refl, refl, refl) y2 y3 (λ t ne i. refl)
        (λ g' t p i f' r a b d m. may_other g' f' r (λ (e : f' ≡ f). unmapped s c f zm g' t p i r a b (d ∙ ap (λ (z : ℕ). to_page z r) e))
        m)
        (λ g' e. absurd (clash {x = y} {y = page g'} e y4))
        (λ f' o h a l. c.strangers f' o h (kind_from s.kind f y f' (page o) a y4) l)

    take_kept : eqb (kind_number y) TABLE ≡ false → eqb (kind_number y) DRAINING_TABLE ≡ false →
        (s.dirty g ≡ true → y ≡ draining_page g) → Kept (becomes s f y s.word s.shared) k
    take_kept y2 y3 yd = becomes_kept s c f (page g) y s.word s.shared hf (refl, refl, refl, refl) y2 y3 (λ t ne i. refl) k q
        (λ g' v f' r a b.
        elim (eq? f' f) [
          | inr e ↦ elim b [ inl m ↦ inl (may_other g' f' r e m) | inr m ↦ inr (upd_other s.kind f y f' e ∙ m) ]
          | inl e ↦ inr (here g' v f' r a e b)
        ])
      where
        mine : (g' v f' r : ℕ) → k.page_kept g' v (s.first + f') r → f' ≡ f → g' ≡ g → upd s.kind f y f' ≡ draining_page g'
        mine g' v f' r a e o = elim (bool? (s.dirty g)) [
          | inl d ↦ upd_at s.kind f y f' e ∙ yd d ∙ ap draining_page (sym o)
          | inr d ↦
              let b = q.page_now g' v (s.first + f') r (ap s.dirty o ∙ d) a in
              let m = b.2 in
              let b1 = b.1 in
              let same : b.0 ≡ f = omega arith in
              absurd (unmapped s c f zm g' m.0 (v / 512) (v % 512) r m.1 (omega arith) (m.2 ∙ ap (λ (z : ℕ). to_page z r) same))
        ]

        here : (g' v f' r : ℕ) → k.page_kept g' v (s.first + f') r → f' ≡ f → May s g' f' r ⊎ (s.kind f' ≡ draining_page g') →
            upd s.kind f y f' ≡ draining_page g'
        here g' v f' r a e (inl (inl h)) = mine g' v f' r a e (cc)
        here g' v f' r a e (inl (inr h)) = absurd (shares_0 (s.shared f g') r (with_nobody s c f g hf zs g') (rw e at h.2))
        here g' v f' r a e (inr h) = cc

  pub take_good : (f g : ℕ) → Good k (take s f g)
  unfolding take
  take_good f g =
      checked 5 λ e1. checked 4 λ e2. checked 9 λ e3. checked 13 λ e4.
      let hf = page_of_is (s.kind f) g e3 in
      let z = and_true (eqb (total (s.count f)) 0) (eqb (total (s.shared f)) 0) e4 in
      go hf (eqb-true _ _ z.0) (eqb-true _ _ z.1) (s.dirty g) refl
    where
      go : s.kind f ≡ page g → total (s.count f) ≡ 0 → total (s.shared f) ≡ 0 → (b : Bool) → s.dirty g ≡ b →
          Good k (done (becomes s f (cond b (draining_page g) free) s.word s.shared))
      go hf z1 z2 true d = then_done (record {
        core = take_core f g hf z1 z2 (draining_page g) refl refl refl;
        kept = take_kept f g hf z1 z2 (draining_page g) refl refl (λ e. refl);
      })
      go hf z1 z2 false d = then_done (record {
        core = take_core f g hf z1 z2 free refl refl refl;
        kept = take_kept f g hf z1 z2 free refl refl (λ e. cc);
      })
