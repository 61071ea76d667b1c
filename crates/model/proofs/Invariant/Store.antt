-- RAM changes beside the tables: the invariant does not notice. So it is after a guest's store, which changes a frame that is no table.
use mathlib.Core.Path.{◌≡◌, refl, sym, ap, ◌∙◌}
use mathlib.Core.Bool.{true, false, true≢false}
use mathlib.Core.Logic.{◌⊎◌, inl, inr}
use Prim.Native.Nat.{ℕ, ◌/◌, ◌%◌}
use Rattle.model.specs.Base.{upd2}
use Rattle.model.proofs.Laws.Base.{upd2_other}
use Rattle.model.specs.State.{State, KindOfFrame, monitor, free, table, draining_table, page, draining_page, reworded, put_byte, tabled}
use Rattle.model.specs.Entry.{entry}
use Rattle.model.specs.Translate.{entry_at}
use Rattle.model.specs.Cache.{Caches}
use Rattle.model.specs.Machine.{stored}
use Rattle.model.specs.Invariant.{May, Core, Kept, hit}
use Rattle.model.proofs.Invariant.Counts.{places_cong}

-- w the words after it, which are the same in every table, in use or draining
module _ (s : State) (w : ℕ → ℕ → ℕ) (same : (t : ℕ) → tabled (s.kind t) ≡ true → (i : ℕ) → w t i ≡ s.word t i) where
  same_in : (t : ℕ) (y : KindOfFrame) → s.kind t ≡ y → tabled y ≡ true → (i : ℕ) → w t i ≡ s.word t i
  same_in t y e h i = same t (ap tabled e ∙ h) i

  counted : (t i f g : ℕ) (y : KindOfFrame) → s.kind t ≡ y →
      hit (s.kind t) (entry_at s t i) f g ≡ hit (s.kind t) (entry s.first (w t i)) f g
  unfolding hit
  counted t i f g monitor e = rw e
  counted t i f g free e = rw e
  counted t i f g (table h n p) e = rw (same_in t (table h n p) e refl i)
  counted t i f g (draining_table h n p) e = rw e
  counted t i f g (page h) e = rw e
  counted t i f g (draining_page h) e = rw e

  pub core_reworded : Core s → Core (reworded s w)
  core_reworded c = record {
    room = c.room;
    beyond = c.beyond;
    table_exists = c.table_exists;
    tables = λ t g h p e i l. rw (same_in t (table g h p) e refl i) (c.tables t g h p e i l);
    draining = λ t g h p e i l. rw (same_in t (draining_table g h p) e refl i) (c.draining t g h p e i l);
    roots = c.roots;
    page_exists = c.page_exists;
    strangers = c.strangers;
    guests_only = c.guests_only;
    counts = λ f g. c.counts f g ∙ places_cong s (reworded s w) f g refl (λ t i a b. counted t i f g (s.kind t) refl);
  }

  pub kept_reworded : (k : Caches) → Kept s k → Kept (reworded s w) k
  kept_reworded k q = record {
    table_ok = q.table_ok;
    page_ok = q.page_ok;
    table_now = q.table_now;
    page_now = λ h v y r d a.
        let b = q.page_now h v y r d a in
        let n = b.2 in
        (b.0, b.1, (n.0, n.1, ap (entry s.first) (same_in n.0 (table h 0 (v / 512)) n.1 refl (v % 512)) ∙ n.2));
  }

-- a byte of a frame that a guest may write
module _ (s : State) (g f r o x : ℕ) (m : May s g f r ⊎ (s.kind f ≡ draining_page g)) where
  no_table : (t : ℕ) → tabled (s.kind t) ≡ true → t ≡ f → ⊥
  no_table t h e = go m
    where
      other : (y : KindOfFrame) → s.kind f ≡ y → tabled y ≡ false → ⊥
      other y z n = true≢false (sym h ∙ ap (λ (u : ℕ). tabled (s.kind u)) e ∙ ap tabled z ∙ n)

      go : May s g f r ⊎ (s.kind f ≡ draining_page g) → ⊥
      go (inl (inl z)) = other (page g) z refl
      go (inl (inr z)) = other (page z.0) z.1 refl
      go (inr z) = other (draining_page g) z refl

  same : (t : ℕ) → tabled (s.kind t) ≡ true → (j : ℕ) → upd2 s.word f (o / 8) (put_byte (o % 8) (s.word f (o / 8)) x) t j ≡
      s.word t j
  same t h j = upd2_other s.word f (o / 8) (put_byte (o % 8) (s.word f (o / 8)) x) t j (λ (e : t ≡ f) z. no_table t h e)

  pub stored_core : Core s → Core (stored s f o x)
  unfolding stored
  stored_core c = core_reworded s _ same c

  pub stored_kept : (k : Caches) → Kept s k → Kept (stored s f o x) k
  unfolding stored
  stored_kept k q = kept_reworded s _ same k q
