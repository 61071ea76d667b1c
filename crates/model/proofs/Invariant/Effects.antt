-- What each operation does to the translations, guest by guest and address by address.
use mathlib.Core.Path.{◌≡◌, refl, sym, ap, ◌∙◌}
use mathlib.Core.Bool.{Bool, true, false, not, ◌&&◌, cond}
use mathlib.Core.Logic.{inl, inr}
use mathlib.Core.Option.{Option, none, some}
use Prim.Native.Nat.{ℕ, suc, ◌+◌, ◌*◌, ◌<◌, ◌/◌, ◌%◌}
use native.Mathlib.Omega.{arith}
use native.Mathlib.Nat.{div-add-mod'}
use lib.Dec.{eqb}
use borrow.Author.Tests.{leb-true, eq-eqb, ne_eqb}
use Rattle.model.proofs.Laws.Base.{eq?, bool?, and_true, not_true}
use Rattle.model.specs.Base.{upd, upd2}
use Rattle.model.proofs.Laws.Base.{upd_same, upd_at, upd_other}
use Rattle.model.specs.State.{State, KindOfFrame, free, table, page, draining_page, page_count, free_frames}
use Rattle.model.specs.Entry.{empty, to_page, entry, page_entry}
use Rattle.model.proofs.Laws.Entry.{entry_empty}
use Rattle.model.specs.Translate.{entry_at, descend, Page, page_in, page_at, leaf, translate, mapped, missing}
use Rattle.model.specs.Changes.{Choice, zeros, becomes, with_root, Grown, grow, with_page, with_mapping, without_page, without_guest, clean}
use Rattle.model.specs.Operations.{done, create, give, map, unmap, share, unshare, take, destroy, invalidated}
use Rattle.model.specs.Cache.{nothing_kept}
use Rattle.model.specs.Machine.{Operation, Create, Give, Take, Map, Unmap, Share, Unshare, Destroy, Invalidated, answer, Chooses}
use Rattle.model.specs.Terms.{expected}
use Rattle.model.proofs.Invariant.Kinds.{clash, free_is}
use Rattle.model.specs.Invariant.{May, Core}
use Rattle.model.proofs.Invariant.Way.{root_serves, descend_same, leaf_kind, leaf_there, translate_from, translate_at, translate_empty, same_leaf, same_elsewhere}
use Rattle.model.proofs.Invariant.Pages.{set_other, set_same, wrote}
use Rattle.model.proofs.Invariant.Choice.{first_free}
use Rattle.model.proofs.Invariant.Create.{root_word}
use Rattle.model.proofs.Invariant.Grow.{Grew}
use Rattle.model.proofs.Invariant.MapUnmap.{address_low, rights_low, none_is, some_is, grown_for, grown_empty, without_is}
use Rattle.model.proofs.Invariant.Answer.{Then, then_done, then_is, checked, may_is}
use Rattle.model.proofs.Invariant.Holds.{nothing_ok}

pub nobody_translates : (s : State) (g v : ℕ) → s.exists g ≡ false → translate s g v ≡ none
unfolding translate leaf
nobody_translates s g v e = rw e

-- where the tables stay, so does what they say
module _ (s : State) (c : Core s) (s' : State) (h : ℕ) (es : s'.exists h ≡ s.exists h) (rs : s'.root h ≡ s.root h)
    (ws : (t g n p : ℕ) → s.kind t ≡ table g n p → (i : ℕ) → entry_at s' t i ≡ entry_at s t i) where
  same_way : (v : ℕ) → v < page_count → leaf s' h v ≡ leaf s h v
  unfolding leaf
  same_way v l = rw (es, rs) (elim (bool? (s.exists h)) [
    | inl e ↦ rw e (descend_same s c s' (λ t g n p a i. ws t g (suc n) p a i) h 3 (s.root h) v
        (root_serves (s.kind (s.root h)) h v (c.roots h e) l))
    | inr e ↦ rw e
  ])

  pub same_translate : (v : ℕ) → v < page_count → translate s' h v ≡ translate s h v
  unfolding translate
  same_translate v l = rw (same_way v l) (go (leaf s h v) refl)
    where
      go : (o : Option ℕ) → leaf s h v ≡ o → page_at s' v o ≡ page_at s v o
      go none q = refl
      go (some u) q = ap page_in (ws u h 0 (v / 512) (leaf_kind s c h v u l q) (v % 512))

abbrev Row : State → Operation → State → Type 0
Row s o s' = (h v : ℕ) → v < page_count → translate s' h v ≡ expected s o h v

module _ (s : State) (c : Core s) where
  -- frames that are no tables: give, take, share, unshare
  becomes_same : (f : ℕ) (y : KindOfFrame) (w sh : ℕ → ℕ → ℕ) → ((t g n p : ℕ) → s.kind t ≡ table g n p → (i : ℕ) → w t i ≡ s.word t i) →
      (h v : ℕ) → v < page_count → translate (becomes s f y w sh) h v ≡ translate s h v
  becomes_same f y w sh hw h v l = same_translate s c (becomes s f y w sh) h (unfold becomes in refl) (unfold becomes in refl)
      (unfold becomes in λ t g n p a i. ap (entry s.first) (hw t g n p a i)) v l

  clean_same : (g h v : ℕ) → v < page_count → translate (clean s g) h v ≡ translate s h v
  clean_same g h v l = same_translate s c (clean s g) h (unfold clean in refl) (unfold clean in refl)
      (unfold clean in λ t g n p a i. refl) v l

  -- create: the new root is all zero, and the guest did not exist
  module _ (g t : ℕ) (none_yet : s.exists g ≡ false) (hg : Rattle.model.specs.State.is_guest g ≡ true) (hf : s.kind t ≡ free) where
    new_root : (v : ℕ) → translate (with_root s g t) g v ≡ none
    unfolding translate leaf descend with_root zeros
    new_root v = rw (upd_same s.exists g true, upd_same s.root g t, upd_same s.word t zeros, entry_empty s.first)

    root_same : (h v : ℕ) → v < page_count → translate (with_root s g t) h v ≡ translate s h v
    root_same h v l = elim (eq? h g) [
      | inl e ↦ rw e (new_root v ∙ sym (nobody_translates s g v none_yet))
      | inr e ↦ same_translate s c (with_root s g t) h (unfold with_root in upd_other s.exists g true h e)
          (unfold with_root in upd_other s.root g t h e)
          (unfold with_root in λ u g' n p a i. ap (entry s.first) (root_word s c g t none_yet hg hf u (table g' n p) a refl i)) v l
    ]

  destroyed_row : (g h v : ℕ) → v < page_count → translate (without_guest s g) h v ≡ cond (eqb h g) none (translate s h v)
  destroyed_row g h v l = elim (eq? h g) [
    | inl e ↦ rw (eq-eqb h g e) (nobody_translates (without_guest s g) h v (unfold without_guest in upd_at s.exists g false h e))
    | inr e ↦ rw (ne_eqb h g e) (same_translate s c (without_guest s g) h (unfold without_guest in upd_other s.exists g false h e)
        (unfold without_guest in refl) (unfold without_guest in λ t g n p a i. refl) v l)
  ]

  -- at one address, o; elsewhere as before
  at_one : (g v' : ℕ) (o : Option Page) (s' : State) → translate s' g v' ≡ o →
      ((h v : ℕ) → v < page_count → (h ≡ g → v ≡ v' → ⊥) → translate s' h v ≡ translate s h v) →
      (h v : ℕ) → v < page_count → translate s' h v ≡ cond (eqb h g && eqb v v') o (translate s h v)
  at_one g v' o s' here there h v l = elim (eq? h g) [
    | inr a ↦ rw (ne_eqb h g a) (there h v l (λ x y. a x))
    | inl a ↦ elim (eq? v v') [
      | inr b ↦ rw (eq-eqb h g a, ne_eqb v v' b) (there h v l (λ x y. b y))
      | inl b ↦ rw (eq-eqb h g a, eq-eqb v v' b) (ap (λ (x : ℕ). translate s' x v) a ∙ ap (translate s' g) b ∙ here)
    ]
  ]

  -- unmap
  module _ (g v t f r : ℕ) (lv : v < page_count) (hl : leaf s g v ≡ some t) (he : entry_at s t (v % 512) ≡ to_page f r) where
    private_t : s.kind t ≡ table g 0 (v / 512)
    private_t = leaf_kind s c g v t lv hl

    abbrev s' : State
    s' = without_page s t (v % 512) f g

    others : (t' j : ℕ) → (t' ≡ t → j ≡ v % 512 → ⊥) → entry_at s' t' j ≡ entry_at s t' j
    others t' j ne = unfold without_page in set_other s c t g (v / 512) (v % 512) private_t (omega arith) 0 empty (entry_empty s.first)
        t' j ne

    here : entry_at s' t (v % 512) ≡ empty
    here = unfold without_page in set_same s c t g (v / 512) (v % 512) private_t (omega arith) 0 empty (entry_empty s.first)

    unmapped_row : (h v' : ℕ) → v' < page_count → translate s' h v' ≡ cond (eqb h g && eqb v' v) none (translate s h v')
    unmapped_row = at_one g v none s'
        (translate_empty s' g v t (same_leaf s c s' t g (v / 512) (v % 512) private_t (omega arith) (λ h. unfold without_page in refl)
        (λ h. unfold without_page in refl) others g v lv ∙ hl) here)
        (λ h v' l ne. same_elsewhere s c s' t g (v / 512) (v % 512) private_t (omega arith) (λ h. unfold without_page in refl)
        (λ h. unfold without_page in refl) others h v' l
        (λ x (y : v' ≡ v / 512 * 512 + v % 512). ne x (y ∙ div-add-mod' v 512)))

  -- map: the tables that are made change nothing
  module _ (g v : ℕ) (x : Grown) (lg : s.exists g ≡ true) (lv : v < page_count)
      (z : Grew nothing_kept s 3 g (s.root g) v x.state x.last) where
    grown_same : (h v' : ℕ) → v' < page_count → translate x.state h v' ≡ translate s h v'
    unfolding translate leaf
    grown_same h v' l =
        let eh : x.state.exists h ≡ s.exists h = ap (λ (b : ℕ → Bool). b h) z.exists in
        let rh : x.state.root h ≡ s.root h = ap (λ (b : ℕ → ℕ). b h) z.root in
        rw (eh, rh) (elim (bool? (s.exists h)) [
          | inr e ↦ rw e
          | inl e ↦ rw e (z.moves h 3 (s.root h) v' (root_serves (s.kind (s.root h)) h v' (c.roots h e) l))
        ])

    grown_leaf : leaf x.state g v ≡ some x.last
    grown_leaf = leaf_there x.state z.core g v (ap (λ (b : ℕ → Bool). b g) z.exists ∙ lg)
        ∙ ap (λ (b : ℕ → ℕ). descend x.state 3 (b g) v) z.root ∙ z.way

    module _ (f r : ℕ) (m : May x.state g f r) (hr : r < 8) (was : entry_at x.state x.last (v % 512) ≡ empty) where
      abbrev s'' : State
      s'' = with_page x.state x.last (v % 512) f r g

      reads : entry x.state.first (page_entry x.state.first f r) ≡ to_page f r
      reads = wrote x.state z.core x.last g (v / 512) (v % 512) z.last (omega arith) f r was m hr

      beside : (t' j : ℕ) → (t' ≡ x.last → j ≡ v % 512 → ⊥) → entry_at s'' t' j ≡ entry_at x.state t' j
      beside t' j ne = unfold with_page in set_other x.state z.core x.last g (v / 512) (v % 512) z.last (omega arith)
          (page_entry x.state.first f r) (to_page f r) reads t' j ne

      set_here : entry_at s'' x.last (v % 512) ≡ to_page f r
      set_here = unfold with_page in set_same x.state z.core x.last g (v / 512) (v % 512) z.last (omega arith)
          (page_entry x.state.first f r) (to_page f r) reads

      mapped_row : (h v' : ℕ) → v' < page_count → translate s'' h v' ≡ cond (eqb h g && eqb v' v) (some (f, r)) (translate s h v')
      mapped_row = at_one g v (some (f, r)) s''
          (translate_at s'' g v x.last f r (same_leaf x.state z.core s'' x.last g (v / 512) (v % 512) z.last (omega arith)
          (λ h. unfold with_page in refl) (λ h. unfold with_page in refl) beside g v lv ∙ grown_leaf) set_here)
          (λ h v' l ne. same_elsewhere x.state z.core s'' x.last g (v / 512) (v % 512) z.last (omega arith)
          (λ h. unfold with_page in refl) (λ h. unfold with_page in refl) beside h v' l
          (λ a (y : v' ≡ v / 512 * 512 + v % 512). ne a (y ∙ div-add-mod' v 512)) ∙ grown_same h v' l)

map_row : (s : State) (c : Core s) (f g a r : ℕ) (pick : ℕ → ℕ) → Choice s pick → Then (Row s (Map f g a r pick)) (map s f g a r pick)
unfolding map with_mapping expected
map_row s c f g a r pick ch =
    checked 5 λ e1. checked 14 λ e2. checked 7 λ e3. checked 8 λ e4. checked 4 λ e5. checked 9 λ e6. checked 10 λ e7. checked 3 λ e8.
    let l = address_low a e3 in
    let room = leb-true (missing s g v) (free_frames s) e8 in
    let z = grown_for s c nothing_kept (nothing_ok s) g v pick e1 l ch room in
    let w = grown_empty s c nothing_kept (nothing_ok s) g v pick e1 l ch room (none_is (translate s g v) (not_true (mapped s g v) e7)) in
    then_done (mapped_row s c g v (grow 3 s g (s.root g) v pick) e1 l z f r (z.may g f r (may_is s g f r e6)) (rights_low r e4) w)
  where
    v : ℕ
    v = a / 4096

unmap_row : (s : State) (c : Core s) (g a : ℕ) → Then (Row s (Unmap a g)) (unmap s a g)
unfolding unmap expected
unmap_row s c g a =
    checked 5 λ e1. checked 7 λ e2. checked 11 λ e3.
    let o = some_is (translate s g (a / 4096)) e3 in
    let w = translate_from s g (a / 4096) o.0 o.1 o.2 in
    rw (without_is s c g (a / 4096) w.0 o.0 o.1 w.1 o.2)
    (then_done (unmapped_row s c g (a / 4096) w.0 o.0 o.1 (address_low a e2) w.1 w.2))

pub rows : (s : State) (c : Core s) (o : Operation) → Chooses s o → Then (Row s o) (answer s o)
unfolding answer create give take share unshare destroy invalidated expected
rows s c (Create g pick) ch = checked 1 λ e1. checked 2 λ e2. checked 3 λ e3.
    then_done (root_same s c g (pick 0) (not_true (s.exists g) (and_true (not (s.exists g)) (not (s.dirty g)) e2).0) e1
    (first_free s c pick ch (leb-true 1 (free_frames s) e3)))
rows s c (Give f g) ch = checked 5 λ e1. checked 4 λ e2. checked 6 λ e3.
    then_done (becomes_same s c f (page g) (upd s.word f zeros) (upd s.shared f zeros) (λ t h n p a i.
    rw (upd_other s.word f zeros t (λ (e : t ≡ f). clash {x = free} {y = table h n p}
    (sym (free_is (s.kind f) e3) ∙ ap s.kind (sym e) ∙ a) refl))))
rows s c (Take f g) ch = checked 5 λ e1. checked 4 λ e2. checked 9 λ e3. checked 13 λ e4. then_done
    (becomes_same s c f (cond (s.dirty g) (draining_page g) free) s.word s.shared (λ t h n p a i. refl))
rows s c (Map f g a r pick) ch = map_row s c f g a r pick ch
rows s c (Unmap a g) ch = unmap_row s c g a
rows s c (Share g f h w) ch = checked 5 λ e1. checked 12 λ e2. checked 4 λ e3. checked 9 λ e4. checked 13 λ e5. checked 14 λ e6.
    then_done (becomes_same s c f (page g) s.word (upd2 s.shared f h (cond (eqb w 0) 1 2)) (λ t h n p a i. refl))
rows s c (Unshare g f h) ch = checked 5 λ e1. checked 4 λ e2. checked 9 λ e3. checked 13 λ e4. checked 14 λ e5. then_done
    (becomes_same s c f (page g) s.word (upd2 s.shared f h 0) (λ t h n p a i. refl))
rows s c (Destroy g) ch = checked 5 λ e1. checked 13 λ e2. then_done (destroyed_row s c g)
rows s c (Invalidated g) ch = checked 1 λ e1. then_done (clean_same s c g)

-- unmap, at the address itself
pub unmapped_after : (s : State) (c : Core s) (g a : ℕ) (s' : State) → unmap s a g ≡ done s' → translate s' g (a / 4096) ≡ none
unmapped_after s c g a s' e = then_is (unmap s a g) s' here_none e
  where
    here_none : Then (λ s'. translate s' g (a / 4096) ≡ none) (unmap s a g)
    here_none = unfold unmap in checked 5 λ e1. checked 7 λ e2. checked 11 λ e3.
        let o = some_is (translate s g (a / 4096)) e3 in
        let w = translate_from s g (a / 4096) o.0 o.1 o.2 in
        rw (without_is s c g (a / 4096) w.0 o.0 o.1 w.1 o.2)
        (then_done (unmapped_row s c g (a / 4096) w.0 o.0 o.1 (address_low a e2) w.1 w.2 g (a / 4096) (address_low a e2)
        ∙ rw (eq-eqb g g refl, eq-eqb (a / 4096) (a / 4096) refl)))
