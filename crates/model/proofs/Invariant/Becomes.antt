-- One frame becomes another, from no table to no table: the common part of give, take, share and unshare.
use mathlib.Core.Path.{◌≡◌, refl, sym, ap, ◌∙◌}
use mathlib.Core.Bool.{true, false}
use mathlib.Core.Logic.{◌⊎◌, inl, inr}
use Prim.Native.Nat.{ℕ, ◌+◌, ◌*◌, ◌<◌, ◌/◌, ◌%◌}
use lib.Dec.{eqb}
use Rattle.model.proofs.Laws.Base.{eq?}
use Rattle.model.specs.Base.{upd}
use Rattle.model.proofs.Laws.Base.{upd_at, upd_other}
use Rattle.model.specs.State.{State, KindOfFrame, monitor, table, draining_table, page, draining_page}
use Rattle.model.specs.Entry.{to_page, entry}
use Rattle.model.specs.Translate.{entry_at}
use Rattle.model.specs.Changes.{becomes}
use Rattle.model.specs.Cache.{Caches}
use Rattle.model.specs.State.{kind_number, DRAINING_PAGE, DRAINING_TABLE, MONITOR, TABLE}
use Rattle.model.proofs.Invariant.Kinds.{clash, kind_keep, kind_from}
use Rattle.model.specs.Invariant.{May, Core, Kept}
use Rattle.model.proofs.Invariant.Core.{fits_keep, stale_keep}
use Rattle.model.proofs.Invariant.Counts.{places_cong, hit_plain}

-- no table, not draining, not the monitor's
abbrev pub Plain : KindOfFrame → Type 0
Plain x = (eqb (kind_number x) TABLE ≡ false) × (eqb (kind_number x) DRAINING_TABLE ≡ false) ×
    (eqb (kind_number x) DRAINING_PAGE ≡ false) × (eqb (kind_number x) MONITOR ≡ false)

module _ (s : State) (c : Core s) (f : ℕ) (x y : KindOfFrame) (w sh : ℕ → ℕ → ℕ) (hf : s.kind f ≡ x) (px : Plain x)
    (y2 : eqb (kind_number y) TABLE ≡ false) (y3 : eqb (kind_number y) DRAINING_TABLE ≡ false)
    (hw : (t : ℕ) → (t ≡ f → ⊥) → (i : ℕ) → w t i ≡ s.word t i) where
  table_not : (t g h p : ℕ) → s.kind t ≡ table g h p → t ≡ f → ⊥
  table_not t g h p a e = clash {x = x} {y = table g h p} (sym hf ∙ ap s.kind (sym e) ∙ a) px.0

  draining_not : (t g h p : ℕ) → s.kind t ≡ draining_table g h p → t ≡ f → ⊥
  draining_not t g h p a e = clash {x = x} {y = draining_table g h p} (sym hf ∙ ap s.kind (sym e) ∙ a) px.1

  pub becomes_core :
      ((g t p i f' r : ℕ) → s.kind t ≡ table g 0 p → i < 512 → entry_at s t i ≡ to_page f' r → May s g f' r →
      May (becomes s f y w sh) g f' r) →
      ((g : ℕ) → y ≡ page g → s.exists g ≡ true) →
      ((f' o h : ℕ) → upd s.kind f y f' ≡ page o → s.exists h ≡ false → sh f' h ≡ 0) → Core (becomes s f y w sh)
  unfolding becomes
  becomes_core may own dead = record {
    room = c.room;
    beyond = λ t l. kind_keep s.kind f x y hf t monitor (c.beyond t l) px.3;
    table_exists = λ t g h p a. c.table_exists t g h p (kind_from s.kind f y t (table g h p) a y2);
    tables = λ t g h p a i l.
        let b = kind_from s.kind f y t (table g h p) a y2 in
        rw (hw t (table_not t g h p b) i)
        (fits_keep s.kind (upd s.kind f y) (May s) (May (becomes s f y w sh)) g
        (λ t h p a. kind_keep s.kind f x y hf t (table g h p) a px.0) h (p * 512 + i) (entry_at s t i)
        (λ f' r z e m. may g t p i f' r (rw z at b) l e m) (c.tables t g h p b i l));
    draining = λ t g h p a i l.
        let b = kind_from s.kind f y t (draining_table g h p) a y3 in
        rw (hw t (draining_not t g h p b) i)
        (stale_keep s.kind (upd s.kind f y) g
        (λ t h p a. kind_keep s.kind f x y hf t (draining_table g h p) a px.1)
        (λ f' a. kind_keep s.kind f x y hf f' (draining_page g) a px.2)
        h (p * 512 + i) (entry_at s t i) (c.draining t g h p b i l));
    roots = λ g l. kind_keep s.kind f x y hf (s.root g) (table g 3 0) (c.roots g l) px.0;
    page_exists = λ f' g a. elim (eq? f' f) [
      | inl e ↦ own g (sym (upd_at s.kind f y f' e) ∙ a)
      | inr e ↦ c.page_exists f' g (sym (upd_other s.kind f y f' e) ∙ a)
    ];
    strangers = dead;
    guests_only = c.guests_only;
    counts = λ f' g. c.counts f' g ∙ places_cong s (becomes s f y w sh) f' g refl (λ t i l m.
        elim (eq? t f) [
          | inl e ↦ rw (upd_at s.kind f y t e, hit_plain y (entry s.first (w t i)) f' g y2)
              (rw (e, hf) (hit_plain x (entry_at s f i) f' g px.0))
          | inr e ↦ rw (upd_other s.kind f y t e, hw t e i)
        ]);
  }

  pub becomes_kept : (k : Caches) → Kept s k →
      ((g v f' r : ℕ) → k.page_kept g v (s.first + f') r → May s g f' r ⊎ (s.kind f' ≡ draining_page g) →
      May (becomes s f y w sh) g f' r ⊎ (upd s.kind f y f' ≡ draining_page g)) →
      Kept (becomes s f y w sh) k
  unfolding becomes
  becomes_kept k q pk = record {
    table_ok = λ g h p x' a.
        let b = q.table_ok g h p x' a in (
          b.0,
          b.1,
          elim b.2 [
            | inl d ↦ inl (kind_keep s.kind f x y hf b.0 (table g h p) d px.0)
            | inr d ↦ inr (kind_keep s.kind f x y hf b.0 (draining_table g h p) d px.1)
          ],
        );
    page_ok = λ g v x' r a. let b = q.page_ok g v x' r a in (b.0, b.1, pk g v b.0 r (rw b.1 at a) b.2);
    table_now = λ g h p x' d a. let b = q.table_now g h p x' d a
        in (b.0, b.1, kind_keep s.kind f x y hf b.0 (table g h p) b.2 px.0);
    page_now = λ g v x' r d a.
        let b = q.page_now g v x' r d a in
        let m = b.2 in (
          b.0,
          b.1,
          (
            m.0,
            kind_keep s.kind f x y hf m.0 (table g 0 (v / 512)) m.1 px.0,
            ap (entry s.first) (hw m.0 (table_not m.0 g 0 (v / 512) m.1) (v % 512)) ∙ m.2,
          ),
        );
  }
