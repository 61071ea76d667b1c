-- unmap: a leaf is cleared, and all of the guest's pages are stale.
use mathlib.Core.Path.{◌≡◌, refl, sym, ap, ◌∙◌}
use mathlib.Core.Bool.{Bool, true, ◌&&◌}
use mathlib.Core.Logic.{inl, inr}
use Prim.Native.Nat.{ℕ, ◌+◌, ◌/◌, ◌%◌}
use native.Mathlib.Omega.{arith}
use lib.Dec.{eqb}
use Rattle.model.proofs.Laws.Base.{eq?, and_true, upd_at, upd_other}
use Rattle.model.specs.Base.{upd}
use Rattle.model.specs.State
use Rattle.model.specs.Entry.{to_page}
use Rattle.model.proofs.Laws.Entry.{descriptor_empty, is_to_page, descriptor_page, page_low}
use Rattle.model.specs.Translate.{upper, translate, entry_at}
use Rattle.model.specs.Cache.{descriptor}
use Rattle.model.specs.Changes.{without_page}
use Rattle.model.specs.Operations.{unmap}
use Rattle.model.specs.Invariant.{Core, May}
use Rattle.model.proofs.Invariant.Pages.{may_room}
use Rattle.model.proofs.Invariant.Way.{leaf_kind, translate_from}
use Rattle.model.proofs.Invariant.MapUnmap.{address_low, some_is, without_is}
use Rattle.model.proofs.Invariant.Answer.{Then, then_done, checked}
use Rattle.model_moves.specs.Spaces.{with_stale, store}
use Rattle.model_moves.specs.Moves.{clear}
use Rattle.model_paths.specs.View.{whole_slot, use_of, view}
use Rattle.model_paths.proofs.Laws.View.{same, words_low, words_store}
use Rattle.model_paths.specs.Goes.{Goes}
use Rattle.model_paths.proofs.Operations.Frames.{and_yes}
use Rattle.model_moves.proofs.Laws.Paths.{stay, by, way_to}
use Rattle.model.specs.Machine.{Unmap}
use Rattle.model_moves.specs.Path.{Deed, clears, Way}

-- the guest becomes dirty: everything is stale, and that includes the page
pub stale_set : (s : State.State) (g d j v : ℕ) →
    upd (view s).stale g (λ j v. eqb j whole_slot) d j v ≡ (eqb j whole_slot && upd s.dirty g true d)
stale_set s g d j v = elim (eq? d g) [
  | inl p ↦ ap (λ (z : ℕ → ℕ → Bool). z j v) (upd_at (view s).stale g (λ j v. eqb j whole_slot) d p)
      ∙ sym (and_yes (eqb j whole_slot) (upd s.dirty g true d) (upd_at s.dirty g true d p))
  | inr p ↦ ap (λ (z : ℕ → ℕ → Bool). z j v) (upd_other (view s).stale g (λ j v. eqb j whole_slot) d p)
      ∙ ap (λ (b : Bool). eqb j whole_slot && b) (sym (upd_other s.dirty g true d p))
]

module _ (s : State.State) (c : Core s) where
  unmap_path : (g v t f r : ℕ) → s.exists g ≡ true → s.kind t ≡ State.table g 0 (v / 512) → entry_at s t (v % 512) ≡ to_page f r →
      Way (λ d. d ≡ clears g 0 v) (view s) (view (without_page s t (v % 512) f g))
  unfolding without_page upper
  unmap_path g v t f r l k e =
      let D : Deed → Type 0 = λ d. d ≡ clears g 0 v in
      by D (clear t g 0 v 0 (s.first + f) r (λ j v. eqb j whole_slot) whole_slot (record {
        live = l;
        place = ap use_of k;
        leaf =
            ap (descriptor 0) (words_low s.word t (v % 512) (omega arith) ∙ is_to_page s.first (s.word t (v % 512)) f r e)
            ∙ descriptor_page s.first f r (may_room s c g f r may) (page_low s.first (s.word t (v % 512)) f r e);
        reads = descriptor_empty 0;
        grows = λ j u a. (and_true (eqb j whole_slot) (s.dirty g) a).0;
        marks = λ u a. refl;
      })) refl (way_to D (stay D) (same (with_stale (store (view s) t (v % 512) 0) (upd (view s).stale g (λ j v. eqb j whole_slot)))
      (view (without_page s t (v % 512) f g)) refl refl (λ f. refl) (λ f d. refl) (λ f d j. refl) (λ d. refl) (stale_set s g)
      (words_store s.word t (v % 512) 0 (omega arith))))
    where
      may : May s g f r
      may = rw e at (c.tables t g 0 (v / 512) k (v % 512) (omega arith))

  pub unmap_goes : (g a : ℕ) → Then (Goes s (Unmap a g)) (unmap s a g)
  unfolding unmap
  unmap_goes g a =
      checked 5 λ e1. checked 7 λ e2. checked 11 λ e3.
      let o = some_is (translate s g (a / 4096)) e3 in
      let w = translate_from s g (a / 4096) o.0 o.1 o.2 in
      let ht = leaf_kind s c g (a / 4096) w.0 (address_low a e2) w.1 in
      rw (without_is s c g (a / 4096) w.0 o.0 o.1 w.1 o.2)
      (then_done (unmap_path g (a / 4096) w.0 o.0 o.1 e1 ht w.2))
