-- invalidated: the report, then what waited for it is free; the tables of a space that has ended, too.
use mathlib.Core.Path.{◌≡◌, refl, sym, ap, ◌∙◌}
use mathlib.Core.Bool.{Bool, true, false, true≢false, not, ◌&&◌, cond}
use mathlib.Core.Logic.{◌⊎◌, inl, inr}
use Prim.Native.Nat.{ℕ}
use lib.Dec.{eqb}
use borrow.Author.Tests.{eqb-true, eq-eqb, ne_eqb}
use Rattle.model.proofs.Laws.Base.{bool?, eq?, upd_at, upd_other}
use Rattle.model.specs.Base.{upd}
use Rattle.model.specs.State
use Rattle.model.specs.Changes.{released, clean}
use Rattle.model.specs.Operations.{invalidated}
use Rattle.model.specs.Invariant.{Core}
use Rattle.model.proofs.Invariant.Answer.{Then, then_done, checked}
use Rattle.model_moves.specs.Spaces.{Spaces, FrameUse, free, emptied, draining}
use Rattle.model_moves.specs.Moves.{release, dissolve, of_space, turned, reported}
use Rattle.model_paths.specs.View.{whole_slot, use_of, waits_of, view}
use Rattle.model_paths.proofs.Laws.View.{same}
use Rattle.model_paths.specs.Goes.{Does, Goes, Ended}
use Rattle.model_paths.proofs.Operations.Frames.{and_false}
use Rattle.model_moves.proofs.Laws.Paths.{stay, by, telling, way_to}
use Rattle.model.specs.Machine.{Invalidated}
use Rattle.model_moves.specs.Path.{Deed, Way}

abbrev drains_for : State.KindOfFrame → ℕ → Bool
drains_for State.monitor g = false
drains_for State.free g = false
drains_for (State.table h m p) g = false
drains_for (State.draining_table h m p) g = false
drains_for (State.page h) g = false
drains_for (State.draining_page h) g = eqb h g

drains_is : (x : State.KindOfFrame) (g : ℕ) → drains_for x g ≡ true → x ≡ State.draining_page g
drains_is State.monitor g e = absurd (true≢false (sym e))
drains_is State.free g e = absurd (true≢false (sym e))
drains_is (State.table h m p) g e = absurd (true≢false (sym e))
drains_is (State.draining_table h m p) g e = absurd (true≢false (sym e))
drains_is (State.page h) g e = absurd (true≢false (sym e))
drains_is (State.draining_page h) g e = ap State.draining_page (eqb-true h g e)

and_not : (a : Bool) → (a && not a) ≡ false
and_not true = refl
and_not false = refl

and_mid : (a b : Bool) → ((a && b) && not a) ≡ false
and_mid true true = refl
and_mid true false = refl
and_mid false b = refl

and_other : (a b x : Bool) → (a ≡ true → b ≡ false) → ((a && x) && not (b && x)) ≡ (a && x)
and_other true b x e = rw (e refl) (go x)
  where
    go : (x : Bool) → ((true && x) && not (false && x)) ≡ (true && x)
    go true = refl
    go false = refl
and_other false b x e = refl

module _ (s : State.State) (c : Core s) (n : Ended s) where
  abbrev told : (g : ℕ) → Spaces
  told g = reported (view s) g (λ j. eqb j whole_slot)

  abbrev kinds1 : (g f : ℕ) → FrameUse
  kinds1 g f = cond (drains_for (s.kind f) g) free (use_of (s.kind f))

  waits_told : (g : ℕ) (x : State.KindOfFrame) (d j : ℕ) →
      (waits_of x d j && not (eqb d g && eqb j whole_slot)) ≡ waits_of (released g x) d j
  unfolding released
  waits_told g State.monitor d j = refl
  waits_told g State.free d j = refl
  waits_told g (State.table h m p) d j = refl
  waits_told g (State.draining_table h m p) d j = go (eqb h g)
    where
      go : (b : Bool) → false ≡ waits_of (cond b State.free (State.draining_table h m p)) d j
      go true = refl
      go false = refl
  waits_told g (State.page h) d j = refl
  waits_told g (State.draining_page h) d j = elim (eq? h g) [
    | inl e ↦ rw (e, eq-eqb g g refl) (and_not (eqb d g && eqb j whole_slot))
    | inr e ↦ rw (ne_eqb h g e) (and_other (eqb d h) (eqb d g) (eqb j whole_slot)
        (λ a. ne_eqb d g (λ (b : d ≡ g). e (sym (eqb-true d h a) ∙ b))))
  ]

  stale_told : (g d j v : ℕ) → (told g).stale d j v ≡ (eqb j whole_slot && upd s.dirty g false d)
  stale_told g d j v = elim (eq? d g) [
    | inl e ↦ ap (λ (z : ℕ → ℕ → Bool). z j v) (upd_at (view s).stale g (λ j v. (view s).stale g j v && not (eqb j whole_slot)) d e)
        ∙ and_mid (eqb j whole_slot) (s.dirty g)
        ∙ sym (and_false (eqb j whole_slot) (upd s.dirty g false d) (upd_at s.dirty g false d e))
    | inr e ↦ ap (λ (z : ℕ → ℕ → Bool). z j v) (upd_other (view s).stale g (λ j v. (view s).stale g j v && not (eqb j whole_slot)) d e)
        ∙ ap (λ (b : Bool). eqb j whole_slot && b) (sym (upd_other s.dirty g false d e))
  ]

  freed : (g f : ℕ) → drains_for (s.kind f) g ≡ true →
      (((o : ℕ) × (use_of (s.kind f) ≡ draining o)) ⊎ ((d h p : ℕ) × (use_of (s.kind f) ≡ emptied d h p))) ×
      ((d j : ℕ) → (waits_of (s.kind f) d j && not (eqb d g && eqb j whole_slot)) ≡ false)
  freed g f e =
      let x = drains_is (s.kind f) g e in (
        inl (g, ap use_of x),
        λ d j. ap (λ y. waits_of y d j && not (eqb d g && eqb j whole_slot)) x
            ∙ and_not (eqb d g && eqb j whole_slot),
      )

  kinds_there : (g f : ℕ) → s.exists g ≡ true → kinds1 g f ≡ use_of (released g (s.kind f))
  unfolding released
  kinds_there g f l = go (s.kind f) refl
    where
      go : (x : State.KindOfFrame) → s.kind f ≡ x → cond (drains_for x g) free (use_of x) ≡ use_of (released g x)
      go State.monitor e = refl
      go State.free e = refl
      go (State.table h m p) e = refl
      go (State.draining_table h m p) e = elim (eq? h g) [
        | inl q ↦ absurd
            (true≢false (sym l ∙ ap s.exists (sym q) ∙ (n.gone f h m p e).0))
        | inr q ↦ rw (ne_eqb h g q)
      ]
      go (State.page h) e = refl
      go (State.draining_page h) e = elim (eq? h g) [ inl q ↦ rw (eq-eqb h g q) | inr q ↦ rw (ne_eqb h g q) ]

  kinds_gone : (g f : ℕ) → s.exists g ≡ false → cond (of_space g (kinds1 g f)) free (kinds1 g f) ≡ use_of (released g (s.kind f))
  unfolding released
  kinds_gone g f l = go (s.kind f) refl
    where
      go : (x : State.KindOfFrame) → s.kind f ≡ x →
          cond (of_space g (cond (drains_for x g) free (use_of x))) free (cond (drains_for x g) free (use_of x)) ≡ use_of (released g x)
      go State.monitor e = refl
      go State.free e = refl
      go (State.table h m p) e = elim (eq? h g) [
        | inl q ↦ absurd
            (true≢false (sym (c.table_exists f h m p e) ∙ ap s.exists q ∙ l))
        | inr q ↦ rw (ne_eqb h g q)
      ]
      go (State.draining_table h m p) e = elim (eq? h g) [ inl q ↦ rw (eq-eqb h g q) | inr q ↦ rw (ne_eqb h g q) ]
      go (State.page h) e = refl
      go (State.draining_page h) e = elim (eq? h g) [ inl q ↦ rw (eq-eqb h g q) | inr q ↦ rw (ne_eqb h g q) ]

  -- the tables of a guest that is no longer are free too
  clean_rest : (g : ℕ) → Way (Does s (Invalidated g)) (turned (told g) (λ f. drains_for (s.kind f) g) free) (view (clean s g))
  unfolding clean
  clean_rest g =
      let D : Deed → Type 0 = Does s (Invalidated g) in
      elim (bool? (s.exists g)) [
        | inl l ↦ way_to D (stay D) (same _ (view (clean s g)) refl refl (λ f. kinds_there g f l) (λ f d. refl)
            (λ f d j. waits_told g (s.kind f) d j) (λ d. refl) (stale_told g) (λ f i. refl))
        | inr l ↦ by D (dissolve g l (λ j v. stale_told g g j v
            ∙ and_false (eqb j whole_slot) (upd s.dirty g false g) (upd_at s.dirty g false g refl))) (inr (inr refl))
            (way_to D (stay D) (same _ (view (clean s g)) refl refl (λ f. kinds_gone g f l) (λ f d. refl)
            (λ f d j. waits_told g (s.kind f) d j)
            (λ d. refl) (stale_told g) (λ f i. refl)))
      ]

  clean_path : (g : ℕ) → Goes s (Invalidated g) (clean s g)
  clean_path g =
      let D : Deed → Type 0 = Does s (Invalidated g) in
      telling D g (λ v. true) (λ j. eqb j whole_slot) (record { covered = λ j v a b. refl }) (inl refl)
      (by D (release (λ f. drains_for (s.kind f) g) (freed g)) (inr (inl (λ f. drains_for (s.kind f) g, refl))) (clean_rest g))

  pub invalidated_goes : (g : ℕ) → Then (Goes s (Invalidated g)) (invalidated s g)
  unfolding invalidated
  invalidated_goes g = checked 1 λ e1. then_done (clean_path g)
