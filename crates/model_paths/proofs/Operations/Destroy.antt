-- destroy: the space ends, and then its guest's pages drain.
use mathlib.Core.Path.{◌≡◌, refl, sym, ap, ◌∙◌}
use mathlib.Core.Bool.{Bool, true, false, true≢false, not, ◌&&◌, ◌||◌, cond}
use mathlib.Core.Logic.{inl, inr}
use Prim.Native.Nat.{ℕ}
use lib.Dec.{eqb}
use borrow.Author.Tests.{eqb-true, eq-eqb, ne_eqb}
use Rattle.model.proofs.Laws.Base.{all_true, eq?, and_true, or_right, upd_at, upd_other}
use Rattle.model.specs.Base.{upd}
use Rattle.model.specs.State
use Rattle.model.specs.Changes.{drained, without_guest}
use Rattle.model.specs.Operations.{destroy, unshared, shares}
use Rattle.model.specs.Cache.{inside}
use Rattle.model.specs.Invariant.{Core}
use Rattle.model.proofs.Invariant.Kinds.{page_of_is}
use Rattle.model.proofs.Invariant.Answer.{then_done, Then, checked}
use Rattle.model_moves.specs.Spaces.{Spaces, Space, table, page, draining, exists, May, with_space, with_stale}
use Rattle.model_moves.specs.Moves.{end, retire, Retire, closed}
use Rattle.model_moves.proofs.Invariant.Core
use Rattle.model_moves.proofs.Invariant.Ledger.{shares_none}
use Rattle.model_moves.proofs.Invariant.Entries.{same_frame}
use Rattle.model_paths.specs.View.{whole_slot, use_of, waits_of, view}
use Rattle.model_paths.proofs.Laws.View.{same, same_space}
use Rattle.model_moves.specs.Path.{Deed}
use Rattle.model_paths.specs.Goes.{Does, Goes, Ended}
use Rattle.model_paths.proofs.Operations.Frames.{all_of}
use Rattle.model_paths.proofs.Operations.Unmap.{stale_set}
use Rattle.model_moves.proofs.Laws.Paths.{stay, by, way_to}
use Rattle.model_paths.proofs.Operations.GiveTake.{unshared_all}
use Rattle.model.proofs.Invariant.Core.{low}
use Rattle.model.specs.Machine.{Destroy}

module _ (s : State.State) (c : Core s) (n : Ended s) (k : Core.Core (view s)) where
  abbrev over : (g : ℕ) → Spaces
  over g =
      with_space (with_stale (view s) (upd (view s).stale g (λ j v. eqb j whole_slot))) (upd (view s).space g (closed ((view s).space g)))

  abbrev P : (g f : ℕ) → Bool
  P g f = State.is_page_of (s.kind f) g

  -- another guest's tables have no page of g that is shared with nobody
  not_there : (g f d r : ℕ) → s.kind f ≡ State.page g → ((d : ℕ) → s.shared f d ≡ 0) → (d ≡ g → ⊥) → May (view s) d f r → ⊥
  not_there g f d r e u ne (inl a) = ne (same_guest (sym a ∙ ap use_of e))
    where
      same_guest : {x y : ℕ} → page x ≡ page y → x ≡ y
      same_guest {x} {y} z = cc
  not_there g f d r e u ne (inr a) = shares_none r (ap (λ (x : ℕ). shares x r) (sym (u d)) ∙ a.2)

  still : (g d : ℕ) → exists (over g) d ≡ true → (d ≡ g → ⊥) × (s.exists d ≡ true)
  still g d l = elim (eq? d g) [
    | inl i ↦ absurd (true≢false (sym l ∙ ap (λ (z : Space). z.exists) (upd_at (view s).space g (closed ((view s).space g)) d i)))
    | inr i ↦ (i, ap (λ (z : Space). z.exists) (sym (upd_other (view s).space g (closed ((view s).space g)) d i)) ∙ l)
  ]

  serves_itself : (g d : ℕ) → ((over g).space d).serves ≡ d
  serves_itself g d = elim (eq? d g) [
    | inl i ↦ ap (λ (z : Space). z.serves) (upd_at (view s).space g (closed ((view s).space g)) d i) ∙ sym i
    | inr i ↦ ap (λ (z : Space). z.serves) (upd_other (view s).space g (closed ((view s).space g)) d i)
  ]

  retiring : (g : ℕ) → ((f : ℕ) → s.kind f ≡ State.page g → (d : ℕ) → s.shared f d ≡ 0) → (f : ℕ) → P g f ≡ true →
      Retire (over g) g f (all_of g)
  retiring g u f p = let e = page_of_is (s.kind f) g p in record {
    was = ap use_of e;
    nowhere = λ d r l x.
        let z = still g d l in
        let y = x.4 in
        let b = k.leaves d x.0 x.1 x.2 y.0 r x.3 y.1 in
        let f= = same_frame s.first b.0 f (inside x.1 y.0 x.0) b.1 y.2 in
        not_there g f d r e (u f e) z.0 (rw f= at (b.2.may z.1));
    unshared = u f e;
    for = λ d j v i x.
        let d= = sym (serves_itself g d) ∙ i in
        rw (eq-eqb d g d=) (ap (λ (z : ℕ → ℕ → Bool). z j v) (sym (upd_at (view s).stale g (λ j v. eqb j whole_slot) d d=)) ∙ x);
  }

  destroy_path : (g : ℕ) → s.exists g ≡ true → ((f : ℕ) → s.kind f ≡ State.page g → (d : ℕ) → s.shared f d ≡ 0) →
      Goes s (Destroy g) (without_guest s g)
  unfolding without_guest drained
  destroy_path g l u =
      let D : Deed → Type 0 = Does s (Destroy g) in
      by D (end g (λ j v. eqb j whole_slot) whole_slot l (λ j v a. (and_true (eqb j whole_slot) (s.dirty g) a).0) (λ v. refl)) (inl refl)
      (by D (retire (P g) g (all_of g) (retiring g u)) (inr refl) (way_to D (stay D)
      (same _ (view (without_guest s g)) refl refl (λ f. kinds (s.kind f)) (λ f d. refl) (λ f d j. waits (s.kind f) d j) spaces
      (stale_set s g) (λ f i. refl))))
    where
      kinds : (x : State.KindOfFrame) → cond (State.is_page_of x g) (draining g) (use_of x) ≡ use_of (drained g x)
      kinds State.monitor = refl
      kinds State.free = refl
      kinds (State.table h m p) = go (eqb h g)
        where
          go : (b : Bool) → table h m p ≡ use_of (cond b (State.draining_table h m p) (State.table h m p))
          go true = refl
          go false = refl
      kinds (State.draining_table h m p) = refl
      kinds (State.page h) = elim (eq? h g) [ inl e ↦ rw (eq-eqb h g e) (ap draining (sym e)) | inr e ↦ rw (ne_eqb h g e) ]
      kinds (State.draining_page h) = refl

      waits : (x : State.KindOfFrame) (d j : ℕ) → cond (State.is_page_of x g) (all_of g) (waits_of x) d j ≡ waits_of (drained g x) d j
      waits State.monitor d j = refl
      waits State.free d j = refl
      waits (State.table h m p) d j = go (eqb h g)
        where
          go : (b : Bool) → false ≡ waits_of (cond b (State.draining_table h m p) (State.table h m p)) d j
          go true = refl
          go false = refl
      waits (State.draining_table h m p) d j = refl
      waits (State.page h) d j = elim (eq? h g) [
        | inl e ↦ rw (eq-eqb h g e)
            (ap (λ (y : ℕ). eqb d y && eqb j whole_slot) (sym e))
        | inr e ↦ rw (ne_eqb h g e)
      ]
      waits (State.draining_page h) d j = refl

      spaces : (d : ℕ) → upd (view s).space g (closed ((view s).space g)) d ≡ (view (without_guest s g)).space d
      spaces d = elim (eq? d g) [
        | inl i ↦ upd_at (view s).space g (closed ((view s).space g)) d i
            ∙ same_space (closed ((view s).space g)) ((view (without_guest s g)).space d) (sym (upd_at s.exists g false d i))
            (sym i) refl refl (ap s.root (sym i))
        | inr i ↦ upd_other (view s).space g (closed ((view s).space g)) d i
            ∙ same_space ((view s).space d) ((view (without_guest s g)).space d) (sym (upd_other s.exists g false d i)) refl refl refl
            refl
      ]

  -- destroy's check of one page
  page_unshared : (g f : ℕ) → s.kind f ≡ State.page g → unshared s f g ≡ true → State.total (s.shared f) ≡ 0
  unfolding unshared
  page_unshared g f e z =
      let a = or_right (State.is_page (s.kind f))
      (eqb (s.shared f g) 0 && (not (State.is_page_of (s.kind f) g) || eqb (State.total (s.shared f)) 0)) z (ap State.is_page e) in
      let b = (and_true (eqb (s.shared f g) 0) (not (State.is_page_of (s.kind f) g) || eqb (State.total (s.shared f)) 0) a).1 in
      eqb-true (State.total (s.shared f)) 0 (or_right (State.is_page_of (s.kind f) g) (eqb (State.total (s.shared f)) 0) b
      (ap (λ x. State.is_page_of x g) e ∙ eq-eqb g g refl))

  pub destroy_goes : (g : ℕ) → Then (Goes s (Destroy g)) (destroy s g)
  unfolding destroy
  destroy_goes g = checked 5 λ e1. checked 13 λ e2.
      then_done (destroy_path g e1 (λ f e. unshared_all s c n f g e
      (page_unshared g f e (all_true s.size (λ x. unshared s x g) e2 f (low s c f (State.page g) e refl)))))
