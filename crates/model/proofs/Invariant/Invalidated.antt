-- invalidated keeps the invariant: what is kept of g is forgotten, and what drained for g is free.
use mathlib.Core.Path.{◌≡◌, refl, sym, ◌∙◌}
use mathlib.Core.Bool.{false}
use mathlib.Core.Logic.{◌⊎◌, inl, inr}
use Prim.Native.Nat.{ℕ, ◌+◌, ◌*◌}
use lib.Dec.{eqb}
use borrow.Author.Tests.{eq-eqb, ne_eqb}
use Rattle.model.proofs.Laws.Base.{bool?}
use Rattle.model.proofs.Laws.Base.{upd_other}
use Rattle.model.specs.State.{State, KindOfFrame, monitor, free, table, draining_table, page, draining_page}
use Rattle.model.specs.Entry.{Entry}
use Rattle.model.specs.Translate.{entry_at}
use Rattle.model.specs.Changes.{released, clean}
use Rattle.model.specs.Operations.{invalidated}
use Rattle.model.specs.Cache.{Caches, forget}
use Rattle.model.specs.State.{kind_number, FREE}
use Rattle.model.proofs.Invariant.Kinds.{clash}
use Rattle.model.specs.Invariant.{May, Core, Kept, hit}
use Rattle.model.proofs.Invariant.Core.{fits_keep, stale_keep}
use Rattle.model.proofs.Invariant.Counts.{places_cong}
use Rattle.model.proofs.Invariant.Answer.{Good, then_done, checked}

module _ (g : ℕ) where
  -- a frame stays what it is, or is let go
  pub stays_or_free : (x : KindOfFrame) → (released g x ≡ x) ⊎ (released g x ≡ free)
  unfolding released
  stays_or_free monitor = inl refl
  stays_or_free free = inl refl
  stays_or_free (table h n p) = inl refl
  stays_or_free (draining_table h n p) = elim (bool? (eqb h g)) [ inl e ↦ inr (rw e) | inr e ↦ inl (rw e) ]
  stays_or_free (page h) = inl refl
  stays_or_free (draining_page h) = elim (bool? (eqb h g)) [ inl e ↦ inr (rw e) | inr e ↦ inl (rw e) ]

  pub released_from : (x z : KindOfFrame) → released g x ≡ z → eqb FREE (kind_number z) ≡ false → x ≡ z
  released_from x z e q = elim (stays_or_free x) [ inl a ↦ sym a ∙ e | inr a ↦ absurd (clash {x = free} {y = z} (sym a ∙ e) q) ]

  not_mine : (x : KindOfFrame) (h n p : ℕ) → released g x ≡ draining_table h n p → h ≡ g → ⊥
  unfolding released
  not_mine x h n p e a =
      let b = released_from x (draining_table h n p) e refl in
      clash {x = free} {y = draining_table h n p} (rw (b, eq-eqb h g a) at e) refl

  hit_released : (x : KindOfFrame) (e : Entry) (f h : ℕ) → hit x e f h ≡ hit (released g x) e f h
  unfolding released hit
  hit_released monitor e f h = refl
  hit_released free e f h = refl
  hit_released (table h' n p) e f h = refl
  hit_released (draining_table h' n p) e f h = elim (bool? (eqb h' g)) [ inl q ↦ rw q | inr q ↦ rw q ]
  hit_released (page h') e f h = refl
  hit_released (draining_page h') e f h = elim (bool? (eqb h' g)) [ inl q ↦ rw q | inr q ↦ rw q ]

  module _ (s : State) (c : Core s) where
    keep_may : (h f r : ℕ) → May s h f r → May (clean s g) h f r
    unfolding clean released
    keep_may h f r (inl a) = inl (rw a)
    keep_may h f r (inr a) = inr (a.0, rw a.1, a.2)

    pub clean_core : Core (clean s g)
    unfolding clean released
    clean_core = record {
      room = c.room;
      beyond = λ t l. rw (c.beyond t l);
      table_exists = λ t h n p a. c.table_exists t h n p (released_from (s.kind t) (table h n p) a refl);
      tables = λ t h n p a i l. fits_keep s.kind (λ f. released g (s.kind f)) (May s) (May (clean s g)) h (λ t n p b. rw b) n
          (p * 512 + i) (entry_at s t i)
          (λ f r z e m. keep_may h f r m) (c.tables t h n p (released_from (s.kind t) (table h n p) a refl) i l);
      draining = λ t h n p a i l.
          let ne = not_mine (s.kind t) h n p a in
          stale_keep s.kind (λ f. released g (s.kind f)) h (λ t n p b. rw (b, ne_eqb h g ne)) (λ f b. rw (b, ne_eqb h g ne)) n
          (p * 512 + i) (entry_at s t i)
          (c.draining t h n p (released_from (s.kind t) (draining_table h n p) a refl) i l);
      roots = λ h l. rw (c.roots h l);
      page_exists = λ f h a. c.page_exists f h (released_from (s.kind f) (page h) a refl);
      strangers = λ f o h a l. c.strangers f o h (released_from (s.kind f) (page o) a refl) l;
      guests_only = c.guests_only;
      counts = λ f h. c.counts f h ∙ places_cong s (clean s g) f h refl (λ t i l m. hit_released (s.kind t) (entry_at s t i) f h);
    }

    pub clean_kept : (k : Caches) → Kept s k → Kept (clean s g) (forget k g)
    unfolding clean released forget
    clean_kept k q = record {
      table_ok = λ h n p x a.
          let b = q.table_ok h n p x a.1 in
          (b.0, b.1, elim b.2 [ inl d ↦ inl (rw d) | inr d ↦ inr (rw (d, ne_eqb h g a.0)) ]);
      page_ok = λ h v x r a.
          let b = q.page_ok h v x r a.1 in
          (b.0, b.1, elim b.2 [ inl d ↦ inl (keep_may h b.0 r d) | inr d ↦ inr (rw (d, ne_eqb h g a.0)) ]);
      table_now = λ h n p x d a. let b = q.table_now h n p x (sym (upd_other s.dirty g false h a.0) ∙ d) a.1
          in (b.0, b.1, rw b.2);
      page_now = λ h v x r d a.
          let b = q.page_now h v x r (sym (upd_other s.dirty g false h a.0) ∙ d) a.1 in
          let m = b.2 in
          (b.0, b.1, (m.0, rw m.1, m.2));
    }

pub invalidated_good : (s : State) (c : Core s) (k : Caches) (q : Kept s k) (g : ℕ) → Good (forget k g) (invalidated s g)
unfolding invalidated
invalidated_good s c k q g = checked 1 λ e. then_done (record { core = clean_core g s c; kept = clean_kept g s c k q })
