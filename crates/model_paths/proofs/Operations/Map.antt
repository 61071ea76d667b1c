-- map: each missing table is cleared, claimed and linked; then the page is entered.
use mathlib.Core.Path.{◌≡◌, refl, sym, ap, ◌∙◌}
use mathlib.Core.Bool.{Bool, true, false, true≢false, cond}
use mathlib.Core.Logic.{inl, inr}
use Prim.Native.Nat.{ℕ, suc, ◌+◌, ◌≤◌, ◌<◌, ◌/◌, ◌%◌}
use native.Mathlib.Omega.{arith}
use lib.Dec.{eqb, ltb}
use borrow.Author.Tests.{leb-true}
use Rattle.model.proofs.Laws.Base.{eq?, not_true, upd_at, upd_same, upd_other}
use Rattle.model.specs.Base.{upd}
use Rattle.model.specs.State
use Rattle.model.specs.Entry.{empty, table_entry, page_entry}
use Rattle.model.proofs.Laws.Entry.{is_empty, descriptor_empty, descriptor_table, descriptor_page}
use Rattle.model.specs.Translate.{upper, entry_at, translate, mapped, missing, missing_from}
use Rattle.model.specs.Cache.{invalid, descriptor, inside, nothing_kept}
use Rattle.model.specs.Changes.{Choice, zeros, with_table, Grown, grow, with_page, with_mapping}
use Rattle.model.specs.Operations.{Out, refuse, done, map}
use Rattle.model.proofs.Invariant.Tests.{map_clean}
use Rattle.model.proofs.Invariant.Kinds
use Rattle.model.specs.Invariant
use Rattle.model.proofs.Invariant.Core
use Rattle.model.proofs.Invariant.Pages.{may_room}
use Rattle.model.proofs.Invariant.Way.{root_serves}
use Rattle.model.proofs.Invariant.Grow.{Links, grow_by, linked}
use Rattle.model.proofs.Invariant.MapUnmap.{address_low, rights_low, none_is, grown_for, grown_empty}
use Rattle.model.proofs.Invariant.Holds.{nothing_ok}
use Rattle.model.proofs.Invariant.Answer.{Then, then_refuse, then_done, checked, may_is}
use Rattle.model_moves.specs.Spaces.{FrameUse, claimed, table, May}
use Rattle.model_moves.specs.Moves.{claim, link, enter}
use Rattle.model_moves.proofs.Invariant.Core.{no_next, no_output}
use Rattle.model_moves.proofs.Invariant.Link.{some_page}
use Rattle.model_moves.proofs.Laws.Paths.{stay, by, onward, way_to, way_more}
use Rattle.model_paths.specs.View.{whole_slot, use_of, waits_of, words_of, view}
use Rattle.model_paths.proofs.Laws.View.{same, clearing, words_low, words_store}
use Rattle.model_paths.proofs.Operations.Frames.{no_word, and_false}
use Rattle.model_paths.specs.Goes.{Does, Goes, Builds}
use Rattle.model.specs.Machine.{Map}
use Rattle.model_moves.specs.Path.{Deed, enters, Way}

-- a table is made: cleared, claimed, linked
module _ (s : State.State) (c : Invariant.Core s) (t t' g h q : ℕ) (live : s.exists g ≡ true) (clean : s.dirty g ≡ false)
    (ht : s.kind t ≡ State.table g (suc h) (q / 512)) (was : entry_at s t (q % 512) ≡ empty) (hf : s.kind t' ≡ State.free) where
  abbrev wiped : ℕ → ℕ → ℕ
  wiped = words_of (upd s.word t' (λ i. 0))

  all_zero : (i : ℕ) → wiped t' i ≡ 0
  all_zero i = ap (λ (z : ℕ → ℕ). cond (ltb i 512) (z i) 0) (upd_same s.word t' (λ i. 0)) ∙ no_word (ltb i 512)

  nothing : (i : ℕ) → descriptor h (wiped t' i) ≡ invalid
  nothing i = ap (descriptor h) (all_zero i) ∙ descriptor_empty h

  apart : t ≡ t' → ⊥
  apart e = Kinds.clash {x = State.table g (suc h) (q / 512)} {y = State.free} (sym ht ∙ ap s.kind e ∙ hf) refl

  still : descriptor (suc h) (wiped t (q % 512)) ≡ invalid
  still =
      ap (descriptor (suc h)) (words_low (upd s.word t' (λ i. 0)) t (q % 512) (omega arith)
      ∙ ap (λ (z : ℕ → ℕ). z (q % 512)) (upd_other s.word t' (λ i. 0) t apart) ∙ is_empty s.first (s.word t (q % 512)) was)
      ∙ descriptor_empty (suc h)

  abbrev kinds1 : ℕ → FrameUse
  kinds1 = upd (λ f. use_of (s.kind f)) t' (claimed g h q)

  table_path : Way (Builds g) (view s) (view (with_table s t (q % 512) t' g h q))
  unfolding with_table zeros
  table_path =
      let D : Deed → Type 0 = Builds g in
      onward D (clearing D s t' hf (inl (t', refl)))
      (by D (claim t' g h q (record {
        was = ap use_of hf;
        leaf = λ v y r e d. absurd (no_output (nothing (upper h v % 512)) d);
        no_table = λ i y d. no_next (nothing (i % 512)) d;
      })) (inr (h, q, inl refl))
      (by D (link t t' g h q (table_entry s.first t') (record {
        live = live;
        place = upd_other (λ f. use_of (s.kind f)) t' (claimed g h q) t apart ∙ ap use_of ht;
        empty = still;
        was = upd_same (λ f. use_of (s.kind f)) t' (claimed g h q);
        fresh = λ j v y r e d. and_false (eqb j whole_slot) (s.dirty g) clean;
        whole = λ j a. let v = some_page (suc h) q in true≢false (sym (a v.0 v.1) ∙ and_false (eqb j whole_slot) (s.dirty g) clean);
        reads = descriptor_table s.first t' (Core.in_room s c t' State.free hf refl) h;
      })) (inr (h, q, inr refl)) (way_to D (stay D) (same _ (view (with_table s t (q % 512) t' g h q)) refl refl kinds (λ f d. refl) waits
      (λ d. refl)
      (λ d j v. refl) (words_store (upd s.word t' (λ i. 0)) t (q % 512) (table_entry s.first t') (omega arith))))))
    where
      kinds : (f : ℕ) → upd kinds1 t' (table g h q) f ≡ use_of (upd s.kind t' (State.table g h q) f)
      kinds f = elim (eq? f t') [
        | inl p ↦ upd_at kinds1 t' (table g h q) f p ∙ ap use_of (sym (upd_at s.kind t' (State.table g h q) f p))
        | inr p ↦ upd_other kinds1 t' (table g h q) f p ∙ upd_other (λ f. use_of (s.kind f)) t' (claimed g h q) f p
            ∙ ap use_of (sym (upd_other s.kind t' (State.table g h q) f p))
      ]

      waits : (f d j : ℕ) → waits_of (s.kind f) d j ≡ waits_of (upd s.kind t' (State.table g h q) f) d j
      waits f d j = elim (eq? f t') [
        | inl p ↦ ap (λ x. waits_of x d j) (ap s.kind p ∙ hf)
            ∙ ap (λ x. waits_of x d j) (sym (upd_at s.kind t' (State.table g h q) f p))
        | inr p ↦ ap (λ x. waits_of x d j) (sym (upd_other s.kind t' (State.table g h q) f p))
      ]

abbrev Grows : (h : ℕ) (s : State.State) (g t v : ℕ) (pick : ℕ → ℕ) → Type 0
Grows h s g t v pick = s.exists g ≡ true → s.dirty g ≡ false → Way (Builds g) (view s) (view (grow h s g t v pick).state)

grow_made : (h : ℕ) (s : State.State) (g t v : ℕ) (pick : ℕ → ℕ) → Links h s g t v pick →
    Grows h (linked h s g t v pick) g (pick 0) v (λ j. pick (suc j)) → Grows (suc h) s g t v pick
unfolding grow upper
grow_made h s g t v pick x e l d =
    rw x.was (onward (Builds g) (table_path s x.core t (pick 0) g h (upper (suc h) v) l d x.above x.was x.spare)
    (e (unfold with_table in l) (unfold with_table in d)))

grow_goes : (h : ℕ) (s : State.State) → Invariant.Core s → (g t v : ℕ) (pick : ℕ → ℕ) → Choice s pick →
    missing_from s h t v ≤ State.free_frames s → s.kind t ≡ State.table g h (upper (suc h) v) → Grows h s g t v pick
unfolding grow
grow_goes = grow_by Grows (λ s c g t v pick a l d. stay (Builds g)) (λ h s c g t v pick a t' w e l d. rw w (e l d)) grow_made

module _ (s : State.State) (c : Invariant.Core s) (g v u f r : ℕ) (live : s.exists g ≡ true) (clean : s.dirty g ≡ false)
    (hu : s.kind u ≡ State.table g 0 (v / 512)) (was : entry_at s u (v % 512) ≡ empty) (m : Invariant.May s g f r) (hr : r < 8) where
  may_view : Invariant.May s g f r → May (view s) g f r
  may_view (inl a) = inl (ap use_of a)
  may_view (inr a) = inr (a.0, ap use_of a.1, a.2)

  page_path : (D : Deed → Type 0) → D (enters g 0 v (s.first + f) r) → Way D (view s) (view (with_page s u (v % 512) f r g))
  unfolding with_page upper inside
  page_path D d = by D (enter u g 0 v (page_entry s.first f r) (s.first + f) r (record {
    live = live;
    place = ap use_of hu;
    empty =
        ap (descriptor 0) (words_low s.word u (v % 512) (omega arith) ∙ is_empty s.first (s.word u (v % 512)) was)
        ∙ descriptor_empty 0;
    fresh = λ j w e. and_false (eqb j whole_slot) (s.dirty g) clean;
    reads = descriptor_page s.first f r (may_room s c g f r m) hr;
    may = λ w e. (f, refl, may_view m);
  })) d (way_to D (stay D) (same _ (view (with_page s u (v % 512) f r g)) refl refl (λ f. refl) (λ f d. refl) (λ f d j. refl) (λ d. refl)
      (λ d j v. refl) (words_store s.word u (v % 512) (page_entry s.first f r) (omega arith))))

-- where nothing of g is stale
map_way : (s : State.State) → Invariant.Core s → (f g a r : ℕ) (pick : ℕ → ℕ) → Choice s pick → s.dirty g ≡ false →
    Then (Goes s (Map f g a r pick)) (map s f g a r pick)
unfolding map with_mapping
map_way s c f g a r pick ch d =
    checked 5 λ e1. checked 14 λ e2. checked 7 λ e3. checked 8 λ e4. checked 4 λ e5. checked 9 λ e6. checked 10 λ e7. checked 3 λ e8.
    let l = address_low a e3 in
    let room = leb-true (missing s g v) (State.free_frames s) e8 in
    let z = grown_for s c nothing_kept (nothing_ok s) g v pick e1 l ch room in
    let w = grown_empty s c nothing_kept (nothing_ok s) g v pick e1 l ch room (none_is (translate s g v) (not_true (mapped s g v) e7)) in
    then_done (onward (Does s (Map f g a r pick)) (way_more {D = Builds g} {E = Does s (Map f g a r pick)} (λ d y. inl y)
    (grow_goes 3 s c g (s.root g) v pick ch room (root_serves (s.kind (s.root g)) g v (c.roots g e1) l) e1 d))
    (page_path x.state z.core g v x.last f r (ap (λ (y : ℕ → Bool). y g) z.exists ∙ e1)
    (ap (λ (y : ℕ → Bool). y g) z.dirty ∙ d) z.last w (z.may g f r (may_is s g f r e6)) (rights_low r e4)
    (Does s (Map f g a r pick)) (inr (ap (λ (n : ℕ). enters g 0 v (n + f) r) z.first))))
  where
    v : ℕ
    v = a / 4096

    x : Grown
    x = grow 3 s g (s.root g) v pick

-- 14 has seen to that
pub map_goes : (s : State.State) → Invariant.Core s → (f g a r : ℕ) (pick : ℕ → ℕ) → Choice s pick →
    Then (Goes s (Map f g a r pick)) (map s f g a r pick)
map_goes s c f g a r pick ch = go (map s f g a r pick) (map_clean s f g a r pick) (map_way s c f g a r pick ch)
  where
    go : (o : Out) → Then (λ s'. s.dirty g ≡ false) o → (s.dirty g ≡ false → Then (Goes s (Map f g a r pick)) o) →
        Then (Goes s (Map f g a r pick)) o
    go (refuse n) q way = then_refuse
    go (done s') (then_done q) way = way q
