-- Laws of the way through the tables, for the code that goes it level by level and looks at numbers: a word that is not 0 leads to a
-- table, or in a last table to a page.
use mathlib.Core.Path.{◌≡◌, refl, ap, ◌∙◌}
use mathlib.Core.Bool.{true}
use mathlib.Core.Logic.{inl, inr}
use mathlib.Core.Option.{none, some}
use Prim.Native.Nat.{ℕ, suc, ◌+◌, ◌*◌, ◌<◌, ◌/◌, ◌%◌}
use native.Mathlib.Omega.{arith}
use native.Mathlib.Nat.{div-add-mod'}
use Rattle.model.specs.State.{State, table, page, page_count}
use Rattle.model.specs.Entry.{Entry, empty, to_table, to_page, other, entry, table_entry}
use Rattle.model.proofs.Laws.Entry.{entry_empty, is_empty, is_table, is_to_page, page_bits}
use Rattle.model.specs.Translate.{At, upper, index, entry_at, descend, missing_from}
use Rattle.model.specs.Changes.{grow, with_table}
use Rattle.model.specs.Invariant.{May, Fits, Core}
use Rattle.model.proofs.Invariant.Core.{low}
use Rattle.model.proofs.Invariant.Pages.{may_room}
use Rattle.model.proofs.Invariant.Way.{root_serves}

pub at_root : (s : State) → Core s → (g v : ℕ) → s.exists g ≡ true → v < page_count → At s g 3 v (s.root g)
at_root s c g v e l = root_serves (s.kind (s.root g)) g v (c.roots g e) l

-- one step down, and the end, of the way and of what is missing on it
module _ (s : State) (h t v : ℕ) where
  pub descend_down : (t' : ℕ) → entry_at s t (index (suc h) v) ≡ to_table t' → descend s (suc h) t v ≡ descend s h t' v
  unfolding descend
  descend_down t' e = rw e

  pub descend_stop : entry_at s t (index (suc h) v) ≡ empty → descend s (suc h) t v ≡ none
  unfolding descend
  descend_stop e = rw e

  pub missing_down : (t' : ℕ) → entry_at s t (index (suc h) v) ≡ to_table t' → missing_from s (suc h) t v ≡ missing_from s h t' v
  unfolding missing_from
  missing_down t' e = rw e

  pub missing_stop : entry_at s t (index (suc h) v) ≡ empty → missing_from s (suc h) t v ≡ suc h
  unfolding missing_from
  missing_stop e = rw e

  pub grow_down : (g : ℕ) (pick : ℕ → ℕ) (t' : ℕ) → entry_at s t (index (suc h) v) ≡ to_table t' →
      grow (suc h) s g t v pick ≡ grow h s g t' v pick
  unfolding grow
  grow_down g pick t' e = rw e

  pub grow_new : (g : ℕ) (pick : ℕ → ℕ) → entry_at s t (index (suc h) v) ≡ empty →
      grow (suc h) s g t v pick ≡ grow h (with_table s t (index (suc h) v) (pick 0) g h (upper (suc h) v)) g (pick 0) v (λ i. pick (suc i))
  unfolding grow
  grow_new g pick e = rw e

pub descend_last : (s : State) (t v : ℕ) → descend s 0 t v ≡ some t
unfolding descend
descend_last s t v = refl

-- a table above the pages: a word that is not 0
pub record Leads (s : State) (g h q x : ℕ) (e : Entry) : Type 0 where
  pub to : ℕ
  pub reads : e ≡ to_table to
  pub serves : s.kind to ≡ table g h q
  pub below : to < s.size
  pub number : x / 4096 ≡ s.first + to

-- a last table: a word that is not 0
pub record Shows (s : State) (g x : ℕ) (e : Entry) : Type 0 where
  pub frame : ℕ
  pub rights : ℕ
  pub reads : e ≡ to_page frame rights
  pub may : May s g frame rights
  pub below : frame < s.size
  pub number : x / 4096 % 0x1000000000 ≡ s.first + frame

module _ (s : State) (c : Core s) (g t : ℕ) where
  pub leads : (h v : ℕ) → At s g (suc h) v t → (s.word t (index (suc h) v) ≡ 0 → ⊥) →
      Leads s g h (upper (suc h) v) (s.word t (index (suc h) v)) (entry_at s t (index (suc h) v))
  unfolding upper
  leads h v a ne = go (entry_at s t (index (suc h) v)) refl (c.tables t g (suc h) (upper (suc (suc h)) v) a (index (suc h) v)
      (omega arith))
    where
      x : ℕ
      x = s.word t (index (suc h) v)

      go : (e : Entry) → entry_at s t (index (suc h) v) ≡ e →
          Fits s.kind (May s) g (suc h) (upper (suc (suc h)) v * 512 + index (suc h) v) e → Leads s g h (upper (suc h) v) x e
      go empty q k = absurd (ne (is_empty s.first x q))
      go (to_table t') q k =
          let k' = rw (div-add-mod' (upper h v / 512) 512) at k in
          let n : x ≡ (s.first + t') * 4096 + 3 = unfold table_entry in is_table s.first x t' q in
          record { to = t'; reads = refl; serves = k'; below = low s c t' (table g h (upper h v / 512)) k' refl; number = omega arith }
      go (to_page f r) q k = absurd k
      go (other y) q k = absurd k

  pub shows : (v : ℕ) → At s g 0 v t → (s.word t (v % 512) ≡ 0 → ⊥) → Shows s g (s.word t (v % 512)) (entry_at s t (v % 512))
  shows v a ne = go (entry_at s t (v % 512)) refl (c.tables t g 0 (upper 1 v) a (v % 512) (omega arith))
    where
      x : ℕ
      x = s.word t (v % 512)

      size_of : (f r : ℕ) → May s g f r → f < s.size
      size_of f r (inl m) = low s c f (page g) m refl
      size_of f r (inr m) = low s c f (page m.0) m.1 refl

      go : (e : Entry) → entry_at s t (v % 512) ≡ e → Fits s.kind (May s) g 0 (upper 1 v * 512 + v % 512) e → Shows s g x e
      go empty q k = absurd (ne (is_empty s.first x q))
      go (to_table t') q k = absurd k
      go (to_page f r) q k = record {
        frame = f;
        rights = r;
        reads = refl;
        may = k;
        below = size_of f r k;
        number = ap (λ (y : ℕ). y / 4096 % 0x1000000000) (is_to_page s.first x f r q)
            ∙ (page_bits s.first f r (may_room s c g f r k)).page;
      }
      go (other y) q k = absurd k

-- a word that is 0
pub reads_empty : (s : State) (t i : ℕ) → s.word t i ≡ 0 → entry_at s t i ≡ empty
reads_empty s t i e = ap (entry s.first) e ∙ entry_empty s.first
