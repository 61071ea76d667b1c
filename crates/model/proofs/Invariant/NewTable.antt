-- A free frame becomes a table, all zero, and an empty entry of another table leads to it.
use mathlib.Core.Path.{◌≡◌, refl, sym, ap, ◌∙◌}
use mathlib.Core.Bool.{false}
use mathlib.Core.Logic.{◌⊎◌, inl, inr}
use Prim.Native.Nat.{ℕ, suc, ◌+◌, ◌*◌, ◌<◌, ◌/◌, ◌%◌}
use native.Mathlib.Omega.{arith}
use lib.Dec.{eqb}
use Rattle.model.proofs.Laws.Base.{eq?}
use Rattle.model.specs.Base.{upd}
use Rattle.model.proofs.Laws.Base.{upd_same, upd_at, upd_other, upd2_same, upd2_other}
use Rattle.model.specs.State.{State, KindOfFrame, monitor, free, table, draining_table, page, draining_page}
use Rattle.model.specs.Entry.{empty, to_table, entry, table_entry}
use Rattle.model.proofs.Laws.Entry.{entry_empty, entry_table}
use Rattle.model.specs.Translate.{entry_at}
use Rattle.model.specs.Changes.{zeros, with_table}
use Rattle.model.specs.Cache.{Caches}
use Rattle.model.specs.State.{kind_number, FREE, TABLE}
use Rattle.model.proofs.Invariant.Kinds.{clash, kind_keep, kind_from}
use Rattle.model.specs.Invariant.{May, Fits, Core, Kept}
use Rattle.model.proofs.Invariant.Core.{fits_keep, stale_keep, in_room}
use Rattle.model.proofs.Invariant.Counts.{places_cong, hit_empty, hit_plain, hit_high}

pub both? : (a b c d : ℕ) → ((a ≡ b) × (c ≡ d)) ⊎ (a ≡ b → c ≡ d → ⊥)
both? a b c d = elim (eq? a b) [
  | inr x ↦ inr (λ a b. x a)
  | inl x ↦ elim (eq? c d) [ inr y ↦ inr (λ a b. y b) | inl y ↦ inl (x, y) ]
]

module _ (s : State) (c : Core s) (t i t' g h p q : ℕ) (ht : s.kind t ≡ table g (suc h) p) (hi : i < 512) (was : entry_at s t i ≡ empty)
    (hq : p * 512 + i ≡ q) (hf : s.kind t' ≡ free) where
  s' : State
  s' = with_table s t i t' g h q

  pub not_itself : t' ≡ t → ⊥
  not_itself e = clash {x = free} {y = table g (suc h) p} (sym hf ∙ ap s.kind e ∙ ht) refl

  pub linked_here : entry_at (with_table s t i t' g h q) t i ≡ to_table t'
  unfolding with_table
  linked_here = ap (entry s.first) (upd2_same (upd s.word t' zeros) t i (table_entry s.first t'))
      ∙ entry_table s.first t' (in_room s c t' free hf refl)

  pub linked_new : (u : ℕ) → u ≡ t' → (j : ℕ) → (with_table s t i t' g h q).word u j ≡ 0
  unfolding with_table zeros
  linked_new u e j = upd2_other (upd s.word t' zeros) t i (table_entry s.first t') u j (λ a b. not_itself (sym e ∙ a))
      ∙ ap (λ (r : ℕ → ℕ). r j) (upd_at s.word t' zeros u e)

  pub linked_old : (u : ℕ) → (u ≡ t' → ⊥) → (j : ℕ) → (u ≡ t → j ≡ i → ⊥) → (with_table s t i t' g h q).word u j ≡ s.word u j
  unfolding with_table
  linked_old u e j d = upd2_other (upd s.word t' zeros) t i (table_entry s.first t') u j d
      ∙ ap (λ (r : ℕ → ℕ). r j) (upd_other s.word t' zeros u e)

  new : (u : ℕ) → u ≡ t' → (j : ℕ) → entry s.first (s'.word u j) ≡ empty
  unfolding s'
  new u e j = ap (entry s.first) (linked_new u e j) ∙ entry_empty s.first

  old : (u : ℕ) → (u ≡ t' → ⊥) → (j : ℕ) → (u ≡ t → j ≡ i → ⊥) → entry s.first (s'.word u j) ≡ entry_at s u j
  unfolding s'
  old u e j d = ap (entry s.first) (linked_old u e j d)

  pub not_new : (u : ℕ) (x : KindOfFrame) → s.kind u ≡ x → eqb FREE (kind_number x) ≡ false → u ≡ t' → ⊥
  not_new u x a k e = clash {x = free} {y = x} (sym hf ∙ ap s.kind (sym e) ∙ a) k

  pub linked_keep : (u : ℕ) (x : KindOfFrame) → s.kind u ≡ x → eqb FREE (kind_number x) ≡ false → (with_table s t i t' g h q).kind u ≡ x
  unfolding with_table
  linked_keep u x a k = kind_keep s.kind t' free (table g h q) hf u x a k

  keep : (u : ℕ) (x : KindOfFrame) → s.kind u ≡ x → eqb FREE (kind_number x) ≡ false → upd s.kind t' (table g h q) u ≡ x
  keep u x a k = kind_keep s.kind t' free (table g h q) hf u x a k

  from : (u : ℕ) (x : KindOfFrame) → upd s.kind t' (table g h q) u ≡ x → eqb TABLE (kind_number x) ≡ false → s.kind u ≡ x
  from u x a k = kind_from s.kind t' (table g h q) u x a k

  pub linked_may : (g' f r : ℕ) → May s g' f r → May (with_table s t i t' g h q) g' f r
  unfolding with_table
  linked_may g' f r (inl a) = inl (keep f (page g') a refl)
  linked_may g' f r (inr a) = inr (a.0, keep f (page a.0) a.1 refl, a.2)

  new_tables : (u g' n p' : ℕ) → upd s.kind t' (table g h q) u ≡ table g' n p' → (j : ℕ) → j < 512 →
      Fits (upd s.kind t' (table g h q)) (May s') g' n (p' * 512 + j) (entry s.first (s'.word u j))
  unfolding s'
  new_tables u g' n p' a j l = elim (eq? u t') [
    | inl e ↦ rw (new u e j) tt
    | inr e ↦ let b = sym (upd_other s.kind t' (table g h q) u e) ∙ a in elim (both? u t j i) [
      | inl d ↦ rw (d.0, d.1, here) (fit u g' n p' j d.0 d.1 b)
      | inr d ↦ rw (old u e j d)
          (fits_keep s.kind (upd s.kind t' (table g h q)) (May s) (May s') g' (λ t n p b. keep t (table g' n p) b refl) n
          (p' * 512 + j) (entry_at s u j)
          (λ f r z e m. linked_may g' f r m) (c.tables u g' n p' b j l))
    ]
  ]
    where
      here : entry s.first (s'.word t i) ≡ to_table t'
      here = unfold with_table in linked_here

      fit : (u g' n p' j : ℕ) → u ≡ t → j ≡ i → s.kind u ≡ table g' n p' →
          Fits (upd s.kind t' (table g h q)) (May s') g' n (p' * 512 + i) (to_table t')
      fit u g' n p' j x y b =
          let g= : g ≡ g' = cc in let n= : suc h ≡ n = cc in let p= : p ≡ p' = cc in
          rw (← g=, ← n=, ← p=) (upd_same s.kind t' (table g h q) ∙ rw hq)

  pub linked_core : Core (with_table s t i t' g h q)
  unfolding with_table s'
  linked_core = record {
    room = c.room;
    beyond = λ u l. keep u monitor (c.beyond u l) refl;
    table_exists = λ u g' n p' a. elim (eq? u t') [
      | inl e ↦ let b = sym (upd_at s.kind t' (table g h q) u e)
          ∙ a in let g= : g ≡ g' = cc in rw (← g=) (c.table_exists t g (suc h) p ht)
      | inr e ↦ c.table_exists u g' n p' (sym (upd_other s.kind t' (table g h q) u e) ∙ a)
    ];
    tables = new_tables;
    draining = λ u g' n p' a j l.
        let b = from u (draining_table g' n p') a refl in
        rw (old u (not_new u (draining_table g' n p') b refl) j
        (λ (x : u ≡ t) y. clash {x = draining_table g' n p'} {y = table g (suc h) p} (sym b ∙ ap s.kind x ∙ ht) refl))
        (stale_keep s.kind (upd s.kind t' (table g h q)) g' (λ u n p b. keep u (draining_table g' n p) b refl)
        (λ f b. keep f (draining_page g') b refl) n (p' * 512 + j) (entry_at s u j) (c.draining u g' n p' b j l));
    roots = λ g' l. keep (s.root g') (table g' 3 0) (c.roots g' l) refl;
    page_exists = λ f g' a. c.page_exists f g' (from f (page g') a refl);
    strangers = λ f o g' a l. c.strangers f o g' (from f (page o) a refl) l;
    guests_only = c.guests_only;
    counts = λ f g'. c.counts f g' ∙ places_cong s s' f g' refl (λ u j l m.
        elim (eq? u t') [
          | inl e ↦ rw (new u e j, hit_empty (upd s.kind t' (table g h q) u) f g')
              (rw (e, hf) (hit_plain free (entry_at s t' j) f g' refl))
          | inr e ↦ rw (upd_other s.kind t' (table g h q) u e) (elim (eq? u t) [
            | inl x ↦ rw (x, ht, hit_high g h p (entry_at s t j) f g', hit_high g h p (entry s.first (s'.word t j)) f g')
            | inr x ↦ rw (old u e j (λ a b. x a))
          ])
        ]);
  }

  pub linked_kept : (k : Caches) → Kept s k → Kept (with_table s t i t' g h q) k
  unfolding with_table s'
  linked_kept k z = record {
    table_ok = λ g' n p' x a.
        let b = z.table_ok g' n p' x a in (
          b.0,
          b.1,
          elim b.2 [
            | inl d ↦ inl (keep b.0 (table g' n p') d refl)
            | inr d ↦ inr (keep b.0 (draining_table g' n p') d refl)
          ],
        );
    page_ok = λ g' v x r a.
        let b = z.page_ok g' v x r a in
        (b.0, b.1, elim b.2 [ inl d ↦ inl (linked_may g' b.0 r d) | inr d ↦ inr (keep b.0 (draining_page g') d refl) ]);
    table_now = λ g' n p' x d a. let b = z.table_now g' n p' x d a in (b.0, b.1, keep b.0 (table g' n p') b.2 refl);
    page_now = λ g' v x r d a.
        let b = z.page_now g' v x r d a in
        let m = b.2 in
        let m1 = m.1 in (
          b.0,
          b.1,
          (
            m.0,
            keep m.0 (table g' 0 (v / 512)) m1 refl,
            old m.0 (not_new m.0 (table g' 0 (v / 512)) m1 refl) (v % 512)
                (λ (y : m.0 ≡ t) e. let o : 0 ≡ suc h = cc in omega arith) ∙ m.2,
          ),
        );
  }
