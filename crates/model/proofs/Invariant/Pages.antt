-- An entry of a last table is set to a page, or emptied: the common part of map and unmap.
use mathlib.Core.Path.{◌≡◌, refl, sym, ap, ◌∙◌}
use mathlib.Core.Bool.{true≢false, true, false}
use mathlib.Core.Logic.{◌⊎◌, inl, inr}
use Prim.Native.Nat.{ℕ, suc, pred, ◌+◌, ◌*◌, ◌<◌, ◌%◌}
use native.Mathlib.Omega.{arith}
use Rattle.model.proofs.Laws.Base.{eq?}
use Rattle.model.proofs.Laws.Base.{upd_not, upd2_same, upd2_at, upd2_other}
use Rattle.model.specs.Base.{upd2}
use Rattle.model.specs.State.{State, table, draining_table, page, page_count}
use Rattle.model.specs.Entry.{Entry, empty, to_page, entry, page_entry}
use Rattle.model.proofs.Laws.Entry.{entry_empty, entry_page}
use Rattle.model.specs.Translate.{entry_at}
use Rattle.model.specs.Changes.{with_page, without_page}
use Rattle.model.specs.Cache.{Caches}
use Rattle.model.proofs.Invariant.Kinds.{clash}
use Rattle.model.specs.Invariant.{May, Fits, Stale, hit, places, Core, Kept}
use Rattle.model.proofs.Invariant.Core.{low, in_room}
use Rattle.model.proofs.Invariant.Counts.{hit_page, hit_else, hit_empty, hit_other, places_point}

pub may_room : (s : State) → Core s → (g f r : ℕ) → May s g f r → s.first + f < page_count
may_room s c g f r (inl a) = in_room s c f (page g) a refl
may_room s c g f r (inr a) = in_room s c f (page a.0) a.1 refl

module _ (s : State) (c : Core s) (t g p i : ℕ) (ht : s.kind t ≡ table g 0 p) (hi : i < 512) where
  -- a word of t is changed to x, which reads e and fits
  module _ (x : ℕ) (e : Entry) (he : entry s.first x ≡ e) where
    abbrev w' : ℕ → ℕ → ℕ
    w' = upd2 s.word t i x

    pub set_other : (t' j : ℕ) → (t' ≡ t → j ≡ i → ⊥) → entry s.first (w' t' j) ≡ entry_at s t' j
    set_other t' j ne = ap (entry s.first) (upd2_other s.word t i x t' j ne)

    pub set_same : entry s.first (w' t i) ≡ e
    set_same = ap (entry s.first) (upd2_same s.word t i x) ∙ he

    set_tables : Fits s.kind (May s) g 0 (p * 512 + i) e →
        (t' g' h p' : ℕ) → s.kind t' ≡ table g' h p' → (j : ℕ) → j < 512 →
        Fits s.kind (May s) g' h (p' * 512 + j) (entry s.first (w' t' j))
    set_tables ok t' g' h p' b j l = elim (eq? t' t) [
      | inr a ↦ rw (set_other t' j (λ x y. a x)) (c.tables t' g' h p' b j l)
      | inl a ↦ elim (eq? j i) [
        | inr d ↦ rw (set_other t' j (λ x y. d y)) (c.tables t' g' h p' b j l)
        | inl d ↦
            let g= : g ≡ g' = cc in let h= : 0 ≡ h = cc in let p= : p ≡ p' = cc in
            rw (a, d, set_same, ← g=, ← h=, ← p=) ok
      ]
    ]

    set_draining : (t' g' h p' : ℕ) → s.kind t' ≡ draining_table g' h p' → (j : ℕ) → j < 512 →
        Stale s.kind g' h (p' * 512 + j) (entry s.first (w' t' j))
    set_draining t' g' h p' b j l =
        rw (set_other t' j (λ (a : t' ≡ t) d. clash {x = table g 0 p} {y = draining_table g' h p'} (sym ht ∙ ap s.kind (sym a) ∙ b)
        refl)) (c.draining t' g' h p' b j l)

  -- an entry that leads to f is one place for f and g, and none for others
  hit_one : (f r f' h : ℕ) → ((f' ≡ f) × (h ≡ g) × (hit (s.kind t) (to_page f r) f' h ≡ 1)) ⊎
      ((f' ≡ f → h ≡ g → ⊥) × (hit (s.kind t) (to_page f r) f' h ≡ 0))
  hit_one f r f' h = elim (eq? f' f) [
    | inr x ↦ inr (λ u v. x u, hit_else f' f r (s.kind t) h (λ (y : f ≡ f'). x (sym y)))
    | inl x ↦ elim (eq? h g) [
      | inr y ↦ inr (λ u v. y v, rw (← ht) at (hit_other g 0 p (to_page f r) f' h (λ (u : g ≡ h). y (sym u))))
      | inl y ↦ inl (x, y, rw (x, y) (hit_page (s.kind t) (to_page f r) f g p r ht refl))
    ]
  ]

  module _ (f r : ℕ) (was : entry_at s t i ≡ empty) (m : May s g f r) (hr : r < 8) where
    pub wrote : entry s.first (page_entry s.first f r) ≡ to_page f r
    wrote = entry_page s.first f r (may_room s c g f r m) hr

    page_counts : (f' h : ℕ) → upd2 s.count f g (suc (s.count f g)) f' h ≡ places (with_page s t i f r g) f' h
    unfolding with_page
    page_counts f' h =
        let a = places_point s (with_page s t i f r g) f' h t i refl (low s c t (table g 0 p) ht refl) hi
        (λ t' j ne. ap (λ (e : Entry). hit (s.kind t') e f' h) (set_other (page_entry s.first f r) (to_page f r) wrote t' j ne)) in
        let b = rw (was, hit_empty (s.kind t) f' h, set_same (page_entry s.first f r) (to_page f r) wrote) at a in
        let d = c.counts f' h in
        elim (hit_one f r f' h) [
          | inl x ↦ let z = x.2 in let same : s.count f' h ≡ s.count f g = ap (λ (y : ℕ). s.count y h) x.0
              ∙ ap (s.count f) x.1 in rw (upd2_at s.count f g (suc (s.count f g)) f' h x.0 x.1) (omega arith)
          | inr x ↦ let z = x.1 in rw (upd2_other s.count f g (suc (s.count f g)) f' h x.0) (omega arith)
        ]

    pub page_core : Core (with_page s t i f r g)
    unfolding with_page
    page_core = record {
      room = c.room;
      beyond = c.beyond;
      table_exists = c.table_exists;
      tables = set_tables (page_entry s.first f r) (to_page f r) wrote m;
      draining = set_draining (page_entry s.first f r) (to_page f r) wrote;
      roots = c.roots;
      page_exists = c.page_exists;
      strangers = c.strangers;
      guests_only = c.guests_only;
      counts = page_counts;
    }

    pub page_kept : (k : Caches) → Kept s k → Kept (with_page s t i f r g) k
    unfolding with_page
    page_kept k q = record {
      table_ok = q.table_ok;
      page_ok = q.page_ok;
      table_now = q.table_now;
      page_now = λ g' v x r' d a.
          let b = q.page_now g' v x r' d a in
          let m = b.2 in
          let m2 = m.2 in (
            b.0,
            b.1,
            (
              m.0,
              m.1,
              set_other (page_entry s.first f r) (to_page f r) wrote m.0 (v % 512) (λ (e1 : m.0 ≡ t) (e2 : v % 512 ≡ i).
                  let z : ◌≡◌ {A = ℕ} 0 1 = cc in omega arith) ∙ m2,
            ),
          );
    }

  module _ (f r : ℕ) (was : entry_at s t i ≡ to_page f r) where
    pub gone : entry s.first 0 ≡ empty
    gone = entry_empty s.first

    empty_counts : (f' h : ℕ) → upd2 s.count f g (pred (s.count f g)) f' h ≡ places (without_page s t i f g) f' h
    unfolding without_page
    empty_counts f' h =
        let a = places_point s (without_page s t i f g) f' h t i refl (low s c t (table g 0 p) ht refl) hi
        (λ t' j ne. ap (λ (e : Entry). hit (s.kind t') e f' h) (set_other 0 empty gone t' j ne)) in
        let b = rw (was, set_same 0 empty gone, hit_empty (s.kind t) f' h) at a in
        let d = c.counts f' h in
        elim (hit_one f r f' h) [
          | inl x ↦ let z = x.2 in let same : s.count f' h ≡ s.count f g = ap (λ (y : ℕ). s.count y h) x.0
              ∙ ap (s.count f) x.1 in rw (upd2_at s.count f g (pred (s.count f g)) f' h x.0 x.1) (omega arith)
          | inr x ↦ let z = x.1 in rw (upd2_other s.count f g (pred (s.count f g)) f' h x.0) (omega arith)
        ]

    pub empty_core : Core (without_page s t i f g)
    unfolding without_page
    empty_core = record {
      room = c.room;
      beyond = c.beyond;
      table_exists = c.table_exists;
      tables = set_tables 0 empty gone tt;
      draining = set_draining 0 empty gone;
      roots = c.roots;
      page_exists = c.page_exists;
      strangers = c.strangers;
      guests_only = c.guests_only;
      counts = empty_counts;
    }

    pub empty_kept : (k : Caches) → Kept s k → Kept (without_page s t i f g) k
    unfolding without_page
    empty_kept k q = record {
      table_ok = q.table_ok;
      page_ok = q.page_ok;
      table_now = λ g' h p x d a. q.table_now g' h p x (upd_not s.dirty g true false g' true≢false d).1 a;
      page_now = λ g' v x r' d a.
          let z = upd_not s.dirty g true false g' true≢false d in
          let b = q.page_now g' v x r' z.1 a in
          let m = b.2 in
          let m1 = m.1 in
          (b.0, b.1, (m.0, m1, set_other 0 empty gone m.0 (v % 512) (λ (e1 : m.0 ≡ t) e2. z.0 (cc)) ∙ m.2));
    }
