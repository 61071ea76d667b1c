-- destroy keeps the invariant: g's tables and pages drain for g.
use mathlib.Core.Path.{◌≡◌, refl, sym, ap, ◌∙◌}
use mathlib.Core.Bool.{true≢false, true, false, not, ◌&&◌, ◌||◌}
use mathlib.Core.Logic.{◌⊎◌, inl, inr}
use Prim.Native.Nat.{ℕ, zero, suc, ◌+◌, ◌*◌}
use lib.Dec.{eqb}
use borrow.Author.Tests.{eqb-true, eq-eqb, ne_eqb}
use Rattle.model.proofs.Laws.Base.{eq?, and_true, or_right, sum_none, all_true}
use Rattle.model.specs.Base.{upd, sum, all}
use Rattle.model.proofs.Laws.Base.{upd_other, upd_not}
use Rattle.model.specs.State.{State, KindOfFrame, monitor, free, table, draining_table, page, draining_page, is_page, is_page_of, total}
use Rattle.model.specs.Entry.{Entry, empty, to_table, to_page, other}
use Rattle.model.specs.Translate.{entry_at}
use Rattle.model.specs.Changes.{drained, without_guest}
use Rattle.model.specs.Operations.{unshared, destroy}
use Rattle.model.specs.Cache.{Caches}
use Rattle.model.proofs.Invariant.Kinds.{clash}
use Rattle.model.specs.Invariant.{May, Fits, Stale, hit, places, Core, Kept}
use Rattle.model.proofs.Invariant.Core.{fits_keep, stale_keep, low}
use Rattle.model.proofs.Invariant.Counts.{places_cong, hit_other}
use Rattle.model.proofs.Invariant.GiveTake.{shares_0, with_nobody}
use Rattle.model.proofs.Invariant.Answer.{Good, then_done, checked}

module _ (g : ℕ) where
  -- what a frame was that is drained
  pub data Was (x : KindOfFrame) : Type 0 where
    stays : drained g x ≡ x → ((h n p : ℕ) → x ≡ table h n p → h ≡ g → ⊥) → ((h : ℕ) → x ≡ page h → h ≡ g → ⊥) → Was x
    was_table : (n p : ℕ) → x ≡ table g n p → drained g x ≡ draining_table g n p → Was x
    was_page : x ≡ page g → drained g x ≡ draining_page g → Was x

  pub was : (x : KindOfFrame) → Was x
  unfolding drained
  was monitor = stays refl (λ h n p e. absurd (clash {x = monitor} {y = table h n p} e refl))
      (λ h e. absurd (clash {x = monitor} {y = page h} e refl))
  was free = stays refl (λ h n p e. absurd (clash {x = free} {y = table h n p} e refl))
      (λ h e. absurd (clash {x = free} {y = page h} e refl))
  was (draining_table a b c) = stays refl (λ h n p e. absurd (clash {x = draining_table a b c} {y = table h n p} e refl))
      (λ h e. absurd (clash {x = draining_table a b c} {y = page h} e refl))
  was (draining_page a) = stays refl (λ h n p e. absurd (clash {x = draining_page a} {y = table h n p} e refl))
      (λ h e. absurd (clash {x = draining_page a} {y = page h} e refl))
  was (table a b c) = elim (eq? a g) [
    | inl q ↦ was_table b c (rw q) (rw (eq-eqb a g q, q))
    | inr q ↦ stays (rw (ne_eqb a g q)) (λ h n p e z. q (cc)) (λ h e. absurd (clash {x = table a b c} {y = page h} e refl))
  ]
  was (page a) = elim (eq? a g) [
    | inl q ↦ was_page (rw q) (rw (eq-eqb a g q, q))
    | inr q ↦ stays (rw (ne_eqb a g q)) (λ h n p e. absurd (clash {x = page a} {y = table h n p} e refl)) (λ h e z. q (cc))
  ]

  pub from_table : (x : KindOfFrame) (h n p : ℕ) → drained g x ≡ table h n p → (x ≡ table h n p) × (h ≡ g → ⊥)
  from_table x h n p e = go (was x)
    where
      go : Was x → (x ≡ table h n p) × (h ≡ g → ⊥)
      go (stays a b c) = let d = sym a ∙ e in (d, b h n p d)
      go (was_table m q a b) = absurd (clash {x = draining_table g m q} {y = table h n p} (sym b ∙ e) refl)
      go (was_page a b) = absurd (clash {x = draining_page g} {y = table h n p} (sym b ∙ e) refl)

  pub from_page : (x : KindOfFrame) (h : ℕ) → drained g x ≡ page h → (x ≡ page h) × (h ≡ g → ⊥)
  from_page x h e = go (was x)
    where
      go : Was x → (x ≡ page h) × (h ≡ g → ⊥)
      go (stays a b c) = let d = sym a ∙ e in (d, c h d)
      go (was_table m q a b) = absurd (clash {x = draining_table g m q} {y = page h} (sym b ∙ e) refl)
      go (was_page a b) = absurd (clash {x = draining_page g} {y = page h} (sym b ∙ e) refl)

  from_draining : (x : KindOfFrame) (h n p : ℕ) → drained g x ≡ draining_table h n p →
      (x ≡ draining_table h n p) ⊎ ((x ≡ table h n p) × (h ≡ g))
  from_draining x h n p e = go (was x)
    where
      go : Was x → (x ≡ draining_table h n p) ⊎ ((x ≡ table h n p) × (h ≡ g))
      go (stays a b c) = inl (sym a ∙ e)
      go (was_table m q a b) = inr (cc, cc)
      go (was_page a b) = absurd (clash {x = draining_page g} {y = draining_table h n p} (sym b ∙ e) refl)

  -- the places of the others are as they were, and g has none
  hit_drained : (x : KindOfFrame) (e : Entry) (f h : ℕ) → (h ≡ g → ⊥) → hit x e f h ≡ hit (drained g x) e f h
  hit_drained x e f h ne = go (was x)
    where
      go : Was x → hit x e f h ≡ hit (drained g x) e f h
      go (stays a b c) = rw a
      go (was_table m q a b) = rw (b, a, hit_other g m q e f h (λ (z : g ≡ h). ne (sym z))) (unfold hit in refl)
      go (was_page a b) = rw (b, a) (unfold hit in refl)

  hit_gone : (x : KindOfFrame) (e : Entry) (f : ℕ) → hit (drained g x) e f g ≡ 0
  unfolding hit
  hit_gone x e f = go (was x)
    where
      go : Was x → hit (drained g x) e f g ≡ 0
      go (stays a b c) = rw a (none x b)
        where
          none : (x : KindOfFrame) → ((h n p : ℕ) → x ≡ table h n p → h ≡ g → ⊥) → hit x e f g ≡ 0
          none monitor b = refl
          none free b = refl
          none (table h n p) b = hit_other h n p e f g (λ z. b h n p refl z)
          none (draining_table h n p) b = refl
          none (page h) b = refl
          none (draining_page h) b = refl
      go (was_table m q a b) = rw b
      go (was_page a b) = rw b

  module _ (s : State) (c : Core s) (alone : all s.size (λ f. unshared s f g) ≡ true) where
    -- nothing is shared with g
    not_with : (f o : ℕ) → s.kind f ≡ page o → s.shared f g ≡ 0
    unfolding unshared
    not_with f o a = eqb-true (s.shared f g) 0 (and_true (eqb (s.shared f g) 0)
        (not (is_page_of (s.kind f) g) || eqb (total (s.shared f)) 0)
        (or_right (is_page (s.kind f)) (eqb (s.shared f g) 0 && (not (is_page_of (s.kind f) g) || eqb (total (s.shared f)) 0))
        (all_true s.size (λ f. unshared s f g) alone f (low s c f (page o) a refl)) (rw a))).0

    -- and nothing of g's with anybody
    pub not_of : (f h : ℕ) → s.kind f ≡ page g → s.shared f h ≡ 0
    unfolding unshared
    not_of f h a = with_nobody s c f g a (eqb-true (total (s.shared f)) 0
        (or_right (is_page_of (s.kind f) g) (eqb (total (s.shared f)) 0)
        (and_true (eqb (s.shared f g) 0) (not (is_page_of (s.kind f) g) || eqb (total (s.shared f)) 0)
        (or_right (is_page (s.kind f)) (eqb (s.shared f g) 0 && (not (is_page_of (s.kind f) g) || eqb (total (s.shared f)) 0))
        (all_true s.size (λ f. unshared s f g) alone f (low s c f (page g) a refl)) (rw a))).1 (rw a (eq-eqb g g refl)))) h

    may_keep : (h f r : ℕ) → (h ≡ g → ⊥) → May s h f r → May (without_guest s g) h f r
    unfolding without_guest drained
    may_keep h f r ne (inl a) = inl (rw (a, ne_eqb h g ne))
    may_keep h f r ne (inr a) = inr (
      a.0,
      rw (a.1, ne_eqb a.0 g (λ (z : a.0 ≡ g). shares_0 (s.shared f h) r (not_of f h (a.1 ∙ ap page z)) a.2)),
      a.2,
    )

    may_drain : (f r : ℕ) → May s g f r → drained g (s.kind f) ≡ draining_page g
    unfolding drained
    may_drain f r (inl a) = rw (a, eq-eqb g g refl)
    may_drain f r (inr a) = absurd (shares_0 (s.shared f g) r (not_with f a.0 a.1) a.2)

    may_drains : (h f r : ℕ) → h ≡ g → May s h f r → drained g (s.kind f) ≡ draining_page h
    may_drains h f r e m = may_drain f r (rw e at m) ∙ ap draining_page (sym e)

    fits_stale : (n p : ℕ) (e : Entry) → Fits s.kind (May s) g n p e → Stale (λ f. drained g (s.kind f)) g n p e
    unfolding drained
    fits_stale n p empty h = tt
    fits_stale zero p (to_table t) h = h
    fits_stale (suc n) p (to_table t) h = rw (h, eq-eqb g g refl)
    fits_stale zero p (to_page f r) h = may_drain f r h
    fits_stale (suc n) p (to_page f r) h = h
    fits_stale n p (other x) h = h

    alive : (h : ℕ) → upd s.exists g false h ≡ true → (h ≡ g → ⊥) × (s.exists h ≡ true)
    alive h l = upd_not s.exists g false true h (λ e. true≢false (sym e)) l

    pub destroyed_core : Core (without_guest s g)
    unfolding without_guest drained places
    destroyed_core = record {
      room = c.room;
      beyond = λ t l. rw (c.beyond t l);
      table_exists = λ t h n p a.
          let b = from_table (s.kind t) h n p a in
          upd_other s.exists g false h b.1 ∙ c.table_exists t h n p b.0;
      tables = λ t h n p a i l.
          let b = from_table (s.kind t) h n p a in
          fits_keep s.kind (λ f. drained g (s.kind f)) (May s) (May (without_guest s g)) h (λ t n p d. rw (d, ne_eqb h g b.1)) n
          (p * 512 + i) (entry_at s t i)
          (λ f r z e m. may_keep h f r b.1 m) (c.tables t h n p b.0 i l);
      draining = λ t h n p a i l. elim (from_draining (s.kind t) h n p a) [
        | inl b ↦ stale_keep s.kind (λ f. drained g (s.kind f)) h (λ t n p d. rw d) (λ f d. rw d) n (p * 512 + i) (entry_at s t i)
            (c.draining t h n p b i l)
        | inr b ↦ rw b.1 (fits_stale n (p * 512 + i) (entry_at s t i) (c.tables t g n p (rw b.1 at b.0) i l))
      ];
      roots = λ h l. let b = alive h l in rw (c.roots h b.1, ne_eqb h g b.0);
      page_exists = λ f h a. let b = from_page (s.kind f) h a in upd_other s.exists g false h b.1 ∙ c.page_exists f h b.0;
      strangers = λ f o h a l.
          let b = from_page (s.kind f) o a in
          elim (eq? h g) [
            | inl e ↦ rw e (not_with f o b.0)
            | inr e ↦ c.strangers f o h b.0 (sym (upd_other s.exists g false h e) ∙ l)
          ];
      guests_only = λ h l. c.guests_only h (alive h l).1;
      counts = λ f h. elim (eq? h g) [
        | inl e ↦ rw (eq-eqb h g e, e) (sym (sum_none s.size (λ t. sum 512 (λ i. hit (drained g (s.kind t)) (entry_at s t i) f g))
            (λ t. sum_none 512 (λ i. hit (drained g (s.kind t)) (entry_at s t i) f g) (λ i. hit_gone (s.kind t) (entry_at s t i) f))))
        | inr e ↦ rw (ne_eqb h g e) (c.counts f h ∙ places_cong s (without_guest s g) f h refl
            (λ t i l m. hit_drained (s.kind t) (entry_at s t i) f h e))
      ];
    }

    pub destroyed_kept : (k : Caches) → Kept s k → Kept (without_guest s g) k
    unfolding without_guest drained
    destroyed_kept k q = record {
      table_ok = λ h n p x a.
          let b = q.table_ok h n p x a in (
            b.0,
            b.1,
            elim b.2 [
              | inl d ↦ elim (eq? h g) [ inl e ↦ inr (rw (d, eq-eqb h g e)) | inr e ↦ inl (rw (d, ne_eqb h g e)) ]
              | inr d ↦ inr (rw d)
            ],
          );
      page_ok = λ h v x r a.
          let b = q.page_ok h v x r a in (
            b.0,
            b.1,
            elim b.2 [
              | inl d ↦ elim (eq? h g) [ inl e ↦ inr (may_drains h b.0 r e d) | inr e ↦ inl (may_keep h b.0 r e d) ]
              | inr d ↦ inr (rw d)
            ],
          );
      table_now = λ h n p x d a.
          let z = upd_not s.dirty g true false h true≢false d in
          let b = q.table_now h n p x z.1 a in
          (b.0, b.1, rw (b.2, ne_eqb h g z.0));
      page_now = λ h v x r d a.
          let z = upd_not s.dirty g true false h true≢false d in
          let b = q.page_now h v x r z.1 a in
          let m = b.2 in
          (b.0, b.1, (m.0, rw (m.1, ne_eqb h g z.0), m.2));
    }

pub destroy_good : (s : State) (c : Core s) (k : Caches) (q : Kept s k) (g : ℕ) → Good k (destroy s g)
unfolding destroy
destroy_good s c k q g = checked 5 λ e1. checked 13 λ e2. then_done
    (record { core = destroyed_core g s c e2; kept = destroyed_kept g s c e2 k q })
