-- Every table hangs from its guest's root, so that the way to an address comes to every table that serves it: what map counted, unmap
-- finds.
use mathlib.Core.Path.{◌≡◌, refl, sym, ap, ◌∙◌}
use mathlib.Core.Bool.{true≢false, Bool, true, false, not, cond}
use mathlib.Core.Logic.{◌⊎◌, inl, inr}
use mathlib.Core.Option.{some}
use Prim.Native.Nat.{ℕ, zero, suc, ◌+◌, ◌*◌, ◌≤◌, ◌<◌, ◌/◌, ◌%◌}
use native.Mathlib.Omega.{arith}
use lib.Dec.{eqb, ltb}
use borrow.Author.Tests.{leb-true, ne_eqb}
use Rattle.model.proofs.Laws.Base.{eq?, and_true, not_true}
use Rattle.model.specs.Base.{upd, upd2}
use Rattle.model.proofs.Laws.Base.{upd_same, upd_at, upd_other, upd2_other}
use Rattle.model.specs.State.{State, KindOfFrame, free, table, page, draining_page, is_page_of, free_frames, put_byte}
use Rattle.model.specs.Entry.{empty, to_table, entry, page_entry}
use Rattle.model.specs.Translate.{upper, index, entry_at, descend, missing_from, translate, missing}
use Rattle.model.specs.Changes.{Choice, zeros, becomes, with_root, with_table, Grown, grow, with_page, with_mapping, without_page, drained, without_guest, released, clean}
use Rattle.model.specs.Operations.{done, create, give, map, unmap, share, unshare, take, destroy, invalidated}
use Rattle.model.specs.Cache.{nothing_kept}
use Rattle.model.specs.Machine.{Operation, Create, Give, Take, Map, Unmap, Share, Unshare, Destroy, Invalidated, answer, Chooses, stored}
use Rattle.model.specs.State.{kind_number, FREE, TABLE}
use Rattle.model.proofs.Invariant.Kinds.{clash, kind_keep, kind_from, free_is, page_of_is}
use Rattle.model.specs.Invariant.{Core}
use Rattle.model.proofs.Invariant.Way.{root_serves, leaf_kind, translate_from}
use Rattle.model.proofs.Invariant.NewTable.{linked_here, linked_old}
use Rattle.model.proofs.Invariant.Choice.{first_free}
use Rattle.model.proofs.Invariant.Create.{root_word}
use Rattle.model.proofs.Invariant.Grow.{grow_by}
use Rattle.model.proofs.Invariant.MapUnmap.{address_low, some_is, grown_for, without_is}
use Rattle.model.proofs.Invariant.Destroy.{from_table}
use Rattle.model.proofs.Invariant.Invalidated.{released_from}
use Rattle.model.proofs.Invariant.Answer.{Then, then_done, checked}
use Rattle.model.proofs.Invariant.Holds.{nothing_ok}

abbrev pub Hangs : State → (t g h p : ℕ) → Type 0
Hangs s t g h p = ((h ≡ 3) × (t ≡ s.root g)) ⊎ ((u : ℕ) × (s.kind u ≡ table g (suc h) (p / 512)) ×
    (entry_at s u (p % 512) ≡ to_table t) × (h < 3))

pub record Linked (s : State) : Type 0 where
  pub hangs : (t g h p : ℕ) → s.kind t ≡ table g h p → Hangs s t g h p

-- where no table is made or lost, and the entries above height 0 stay
pub linked_same : (s s' : State) → Linked s →
    ((t g h p : ℕ) → s'.kind t ≡ table g h p → (s.kind t ≡ table g h p) × (s'.root g ≡ s.root g) ×
    ((u n q : ℕ) → s.kind u ≡ table g n q → s'.kind u ≡ table g n q)) →
    ((u g h q i t : ℕ) → s.kind u ≡ table g (suc h) q → entry_at s u i ≡ to_table t → entry_at s' u i ≡ to_table t) → Linked s'
linked_same s s' l a b = record {
  hangs = λ t g h p k.
      let x = a t g h p k in
      elim (l.hangs t g h p x.0) [
        | inl y ↦ inl (y.0, y.1 ∙ sym x.1)
        | inr y ↦ inr (y.0, x.2 y.0 (suc h) (p / 512) y.1, b y.0 g h (p / 512) (p % 512) t y.1 y.2, y.3)
      ];
}

module _ (s : State) (l : Linked s) where
  -- a word of a last table is changed
  pub linked_word : (t g p i x : ℕ) (s' : State) → s.kind t ≡ table g 0 p → s'.first ≡ s.first → s'.kind ≡ s.kind →
      s'.root ≡ s.root → s'.word ≡ upd2 s.word t i x → Linked s'
  linked_word t g p i x s' ht e1 e2 e3 e4 = linked_same s s' l
      (λ t g h p k. (rw e2 at k, ap (λ (r : ℕ → ℕ). r g) e3, λ u n q a. rw e2 a))
      (λ u g' h q j t' a b. ap (λ (z : ℕ). entry z (s'.word u j)) e1
      ∙ ap (λ (w : ℕ → ℕ → ℕ). entry s.first (w u j)) e4
      ∙ ap (entry s.first) (upd2_other s.word t i x u j (λ (e : u ≡ t) z. let o : 0 ≡ suc h = cc in omega arith)) ∙ b)

  becomes_linked : (f : ℕ) (x y : KindOfFrame) (w sh : ℕ → ℕ → ℕ) → s.kind f ≡ x → eqb (kind_number x) TABLE ≡ false →
      eqb (kind_number y) TABLE ≡ false → ((t : ℕ) → (t ≡ f → ⊥) → (i : ℕ) → w t i ≡ s.word t i) → Linked (becomes s f y w sh)
  unfolding becomes
  becomes_linked f x y w sh hf x2 y2 hw = linked_same s (becomes s f y w sh) l
      (λ t g h p k. (kind_from s.kind f y t (table g h p) k y2, refl, λ u n q a. kind_keep s.kind f x y hf u (table g n q) a x2))
      (λ u g h q i t a b. ap (entry s.first) (hw u (λ (e : u ≡ f). clash {x = x} {y = table g (suc h) q}
      (sym hf ∙ ap s.kind (sym e) ∙ a) x2) i) ∙ b)

  root_linked : (c : Core s) (g t : ℕ) → s.exists g ≡ false → Rattle.model.specs.State.is_guest g ≡ true → s.kind t ≡ free →
      Linked (with_root s g t)
  unfolding with_root
  root_linked c g t no_g hg hf = record {
    hangs = λ u h n p k. elim (eq? u t) [
      | inl e ↦
          let b = sym (upd_at s.kind t (table g 3 0) u e) ∙ k in
          let n= : n ≡ 3 = cc in let h= : h ≡ g = cc in
          inl (n=, e ∙ sym (upd_at s.root g t h h=))
      | inr e ↦
          let b = sym (upd_other s.kind t (table g 3 0) u e) ∙ k in
          let ne : h ≡ g → ⊥ = λ (h= : h ≡ g). true≢false (sym (c.table_exists u h n p b) ∙ ap s.exists h= ∙ no_g) in
          elim (l.hangs u h n p b) [
            | inl y ↦ inl (y.0, y.1 ∙ sym (upd_other s.root g t h ne))
            | inr y ↦ inr (
              y.0,
              kind_keep s.kind t free (table g 3 0) hf y.0 (table h (suc n) (p / 512)) y.1 refl,
              ap (entry s.first) (root_word s c g t no_g hg hf y.0 (table h (suc n) (p / 512)) y.1 refl (p % 512)) ∙ y.2,
              y.3,
            )
          ]
    ];
  }

  destroyed_linked : (g : ℕ) → Linked (without_guest s g)
  unfolding without_guest drained
  destroyed_linked g = linked_same s (without_guest s g) l
      (λ t h n p k. let b = from_table g (s.kind t) h n p k in (b.0, refl, λ u m q a. rw (a, ne_eqb h g b.1)))
      (λ u h n q i t a b. b)

  clean_linked : (g : ℕ) → Linked (clean s g)
  unfolding clean released
  clean_linked g = linked_same s (clean s g) l
      (λ t h n p k. (released_from g (s.kind t) (table h n p) k refl, refl, λ u m q a. rw a))
      (λ u h n q i t a b. b)

  -- a guest's store, to a frame that is no table
  pub stored_linked : (f o x : ℕ) → ((g h p : ℕ) → s.kind f ≡ table g h p → ⊥) → Linked (stored s f o x)
  unfolding stored
  stored_linked f o x other_kind = linked_same s (stored s f o x) l
      (λ t g h p k. (k, refl, λ u n q a. a))
      (λ u g h q i t a b. ap (entry s.first) (upd2_other s.word f (o / 8) (put_byte (o % 8) (s.word f (o / 8)) x) u i
      (λ (e : u ≡ f) z. other_kind g (suc h) q (ap s.kind (sym e) ∙ a))) ∙ b)

  table_linked : (c : Core s) (t i t' g h p q : ℕ) → s.kind t ≡ table g (suc h) p → i < 512 → entry_at s t i ≡ empty → p * 512 + i ≡ q →
      s.kind t' ≡ free → Linked (with_table s t i t' g h q)
  table_linked c t i t' g h p q ht hi was hq hf = record {
    hangs = λ x g' n p' a. elim (eq? x t') [
      | inl e ↦
          let b = sym new_kind ∙ ap (with_table s t i t' g h q).kind (sym e) ∙ a in
          let g= : g ≡ g' = cc in let n= : h ≡ n = cc in let p= : q ≡ p' = cc in
          let d : p' / 512 ≡ p = omega arith in let r : p' % 512 ≡ i = omega arith in
          inr (
            t,
            rw (d, ← g=, ← n=) (keep t (table g (suc h) p) ht refl),
            rw (r, e) (linked_here s c t i t' g h p q ht hi was hq hf),
            rw (← n=) h<3,
          )
      | inr e ↦ elim (l.hangs x g' n p' (sym (old_kind x e) ∙ a)) [
        | inl y ↦ inl (y.0, y.1 ∙ sym (same_root g'))
        | inr y ↦ inr (
          y.0,
          keep y.0 (table g' (suc n) (p' / 512)) y.1 refl,
          old y.0 (p' % 512) x g' n (p' / 512) y.1 y.2,
          y.3,
        )
      ]
    ];
  }
    where
      h<3 : h < 3
      h<3 = elim (l.hangs t g (suc h) p ht) [ inl y ↦ let z = y.0 in omega arith | inr y ↦ let z = y.3 in omega arith ]

      new_kind : (with_table s t i t' g h q).kind t' ≡ table g h q
      new_kind = unfold with_table in upd_same s.kind t' (table g h q)

      old_kind : (x : ℕ) → (x ≡ t' → ⊥) → (with_table s t i t' g h q).kind x ≡ s.kind x
      old_kind x e = unfold with_table in upd_other s.kind t' (table g h q) x e

      same_root : (g' : ℕ) → (with_table s t i t' g h q).root g' ≡ s.root g'
      same_root g' = unfold with_table in refl

      keep : (u : ℕ) (x : KindOfFrame) → s.kind u ≡ x → eqb FREE (kind_number x) ≡ false → (with_table s t i t' g h q).kind u ≡ x
      keep u x a k = unfold with_table in kind_keep s.kind t' free (table g h q) hf u x a k

      first= : (with_table s t i t' g h q).first ≡ s.first
      first= = unfold with_table in refl

      old : (u j x g' n p' : ℕ) → s.kind u ≡ table g' (suc n) p' → entry_at s u j ≡ to_table x →
          entry_at (with_table s t i t' g h q) u j ≡ to_table x
      old u j x g' n p' a b = ap (λ (z : ℕ). entry z ((with_table s t i t' g h q).word u j)) first=
          ∙ ap (entry s.first) (linked_old s c t i t' g h p q ht hi was hq hf u
          (λ (e : u ≡ t'). clash {x = free} {y = table g' (suc n) p'} (sym hf ∙ ap s.kind (sym e) ∙ a) refl) j
          (λ (e1 : u ≡ t) (e2 : j ≡ i). let z : ◌≡◌ {A = ℕ} 0 1 = cc in omega arith)) ∙ b

abbrev Grows : (h : ℕ) (s : State) (g t v : ℕ) (pick : ℕ → ℕ) → Type 0
Grows h s g t v pick = Linked s → Linked (grow h s g t v pick).state

grow_linked : (h : ℕ) (s : State) → Core s → (g t v : ℕ) (pick : ℕ → ℕ) → Choice s pick → missing_from s h t v ≤ free_frames s →
    s.kind t ≡ table g h (upper (suc h) v) → Grows h s g t v pick
unfolding grow
grow_linked = grow_by Grows (λ s c g t v pick a l. l) (λ h s c g t v pick a t' w e l. rw w (e l))
    (λ h s g t v pick x e l. rw x.was (e (table_linked s l x.core t (index (suc h) v) (pick 0) g h (upper (suc (suc h)) v)
    (upper (suc h) v) x.above (omega arith) x.was x.range x.spare)))

map_linked : (s : State) (c : Core s) (l : Linked s) (f g a r : ℕ) (pick : ℕ → ℕ) → Choice s pick → Then Linked (map s f g a r pick)
unfolding map with_mapping with_page
map_linked s c l f g a r pick ch =
    checked 5 λ e1. checked 14 λ e2. checked 7 λ e3. checked 8 λ e4. checked 4 λ e5. checked 9 λ e6. checked 10 λ e7. checked 3 λ e8.
    let room = leb-true (missing s g (a / 4096)) (free_frames s) e8 in
    let z = grown_for s c nothing_kept (nothing_ok s) g (a / 4096) pick e1 (address_low a e3) ch room in
    then_done (linked_word x.state (grow_linked 3 s c g (s.root g) (a / 4096) pick ch room
    (root_serves (s.kind (s.root g)) g (a / 4096) (c.roots g e1) (address_low a e3)) l)
    x.last g (a / 4096 / 512) (a / 4096 % 512) (page_entry x.state.first f r)
    (with_page x.state x.last (a / 4096 % 512) f r g) z.last refl refl refl refl)
  where
    x : Grown
    x = grow 3 s g (s.root g) (a / 4096) pick

unmap_linked : (s : State) (c : Core s) (l : Linked s) (g a : ℕ) → Then Linked (unmap s a g)
unfolding unmap without_page
unmap_linked s c l g a =
    checked 5 λ e1. checked 7 λ e2. checked 11 λ e3.
    let o = some_is (translate s g (a / 4096)) e3 in
    let w = translate_from s g (a / 4096) o.0 o.1 o.2 in
    rw (without_is s c g (a / 4096) w.0 o.0 o.1 w.1 o.2)
    (then_done (linked_word s l w.0 g (a / 4096 / 512) (a / 4096 % 512) 0 (without_page s w.0 (a / 4096 % 512) o.0 g)
    (leaf_kind s c g (a / 4096) w.0 (address_low a e2) w.1) refl refl refl refl))

take_linked : (s : State) (l : Linked s) (f g : ℕ) → Then Linked (take s f g)
unfolding take
take_linked s l f g = checked 5 λ e1. checked 4 λ e2. checked 9 λ e3. checked 13 λ e4. go (page_of_is (s.kind f) g e3) (s.dirty g)
  where
    go : s.kind f ≡ page g → (b : Bool) → Then Linked (done (becomes s f (cond b (draining_page g) free) s.word s.shared))
    go hf true = then_done (becomes_linked s l f (page g) (draining_page g) s.word s.shared hf refl refl (λ t ne i. refl))
    go hf false = then_done (becomes_linked s l f (page g) free s.word s.shared hf refl refl (λ t ne i. refl))

pub answer_linked : (s : State) (c : Core s) (l : Linked s) (o : Operation) → Chooses s o → Then Linked (answer s o)
unfolding answer create give share unshare destroy invalidated
answer_linked s c l (Create g pick) ch = checked 1 λ e1. checked 2 λ e2. checked 3 λ e3.
    then_done (root_linked s l c g (pick 0) (not_true (s.exists g) (and_true (not (s.exists g)) (not (s.dirty g)) e2).0) e1
    (first_free s c pick ch (leb-true 1 (free_frames s) e3)))
answer_linked s c l (Give f g) ch = checked 5 λ e1. checked 4 λ e2. checked 6 λ e3.
    then_done (becomes_linked s l f free (page g) (upd s.word f zeros) (upd s.shared f zeros) (free_is (s.kind f) e3) refl refl
    (λ t ne i. rw (upd_other s.word f zeros t ne)))
answer_linked s c l (Take f g) ch = take_linked s l f g
answer_linked s c l (Map f g a r pick) ch = map_linked s c l f g a r pick ch
answer_linked s c l (Unmap a g) ch = unmap_linked s c l g a
answer_linked s c l (Share g f h w) ch = checked 5 λ e1. checked 12 λ e2. checked 4 λ e3. checked 9 λ e4. checked 13 λ e5. checked 14 λ e6.
    then_done (becomes_linked s l f (page g) (page g) s.word (upd2 s.shared f h (cond (eqb w 0) 1 2)) (page_of_is (s.kind f) g e4)
    refl refl (λ t ne i. refl))
answer_linked s c l (Unshare g f h) ch = checked 5 λ e1. checked 4 λ e2. checked 9 λ e3. checked 13 λ e4. checked 14 λ e5.
    then_done (becomes_linked s l f (page g) (page g) s.word (upd2 s.shared f h 0)
    (page_of_is (s.kind f) g (and_true (is_page_of (s.kind f) g) (ltb 0 (s.shared f h)) e3).0) refl refl (λ t ne i. refl))
answer_linked s c l (Destroy g) ch = checked 5 λ e1. checked 13 λ e2. then_done (destroyed_linked s l g)
answer_linked s c l (Invalidated g) ch = checked 1 λ e1. then_done (clean_linked s l g)

-- so the way comes to every table that serves v
module _ (s : State) (c : Core s) (l : Linked s) (g v : ℕ) where
  up : (d h t : ℕ) → h + d ≡ 3 → s.kind t ≡ table g h (upper (suc h) v) → descend s 3 (s.root g) v ≡ descend s h t v
  unfolding descend upper
  up zero h t e k = elim (l.hangs t g h (upper (suc h) v) k) [
    | inl x ↦ rw (x.0, x.1)
    | inr x ↦ absurd (let z = x.3 in omega arith)
  ]
  up (suc d) h t e k = elim (l.hangs t g h (upper (suc h) v) k) [
    | inl x ↦ absurd (let z = x.0 in omega arith)
    | inr x ↦ up d (suc h) x.0 (omega arith) x.1 ∙ rw x.2
  ]

  pub comes_there : (t : ℕ) → s.kind t ≡ table g 0 (v / 512) → descend s 3 (s.root g) v ≡ some t
  unfolding descend upper
  comes_there t k = up 3 0 t (omega arith) k
