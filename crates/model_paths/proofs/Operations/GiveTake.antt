-- give: a free frame is cleared word by word, and handed out. take: a page drains, and is free at once where its guest is not dirty.
use mathlib.Core.Path.{◌≡◌, refl, sym, ap, ◌∙◌}
use mathlib.Core.Bool.{Bool, true, false, true≢false, ◌&&◌, cond}
use mathlib.Core.Logic.{◌⊎◌, inl, inr}
use Prim.Native.Nat.{ℕ}
use lib.Dec.{eqb, ltb}
use borrow.Author.Tests.{eqb-true, eq-eqb}
use Rattle.model.proofs.Laws.Base.{bool?, eq?, and_true, upd_at, upd_same, upd_other}
use Rattle.model.specs.Base.{upd}
use Rattle.model.specs.State
use Rattle.model.specs.Changes.{zeros, becomes}
use Rattle.model.specs.Operations.{give, take}
use Rattle.model.specs.Invariant.{Core}
use Rattle.model.proofs.Invariant.Kinds.{free_is, page_of_is}
use Rattle.model.proofs.Invariant.Answer.{Then, then_done, checked}
use Rattle.model_moves.specs.Spaces.{Spaces, free, emptied, page, draining, with_kind, with_shared, with_word}
use Rattle.model_moves.specs.Moves.{hand, retire, release, Retire}
use Rattle.model_moves.proofs.Laws.Paths.{stay, by, onward, way_to}
use Rattle.model_paths.specs.View.{whole_slot, use_of, waits_of, words_of, view}
use Rattle.model_paths.proofs.Laws.View.{same, clearing}
use Rattle.model_moves.specs.Path.{Deed}
use Rattle.model_paths.specs.Goes.{Does, Goes, Ended}
use Rattle.model_paths.proofs.Laws.Reads.{has_none, none_of}
use Rattle.model_paths.proofs.Operations.Frames.{waits_set, kind_set, no_word, all_of}
use Rattle.model.specs.Machine.{Give, Take}

module _ (s : State.State) (c : Core s) where
  give_path : (f g : ℕ) → s.kind f ≡ State.free →
      Goes s (Give f g) (becomes s f (State.page g) (upd s.word f zeros) (upd s.shared f zeros))
  unfolding becomes zeros
  give_path f g e =
      let D : Deed → Type 0 = Does s (Give f g) in
      onward D (clearing D s f e (inl refl)) (by D (hand f g (ap use_of e) zero_words) (inr refl) (way_to D (stay D)
      (same after (view (becomes s f (State.page g) (upd s.word f zeros) (upd s.shared f zeros))) refl refl kinds
      (λ t d. refl) waits (λ d. refl) (λ d j v. refl) (λ t i. refl))))
    where
      after : Spaces
      after =
          with_shared (with_kind (with_word (view s) (words_of (upd s.word f (λ i. 0)))) (upd (λ t. use_of (s.kind t)) f (page g)))
          (upd s.shared f (λ i. 0))

      zero_words : (i : ℕ) → words_of (upd s.word f (λ i. 0)) f i ≡ 0
      zero_words i = ap (λ (z : ℕ → ℕ). cond (ltb i 512) (z i) 0) (upd_same s.word f (λ i. 0)) ∙ no_word (ltb i 512)

      kinds : (t : ℕ) → upd (λ t. use_of (s.kind t)) f (page g) t ≡ use_of (upd s.kind f (State.page g) t)
      kinds t = elim (eq? t f) [
        | inl p ↦ upd_at (λ t. use_of (s.kind t)) f (page g) t p ∙ ap use_of (sym (upd_at s.kind f (State.page g) t p))
        | inr p ↦ upd_other (λ t. use_of (s.kind t)) f (page g) t p ∙ ap use_of (sym (upd_other s.kind f (State.page g) t p))
      ]

      waits : (t d j : ℕ) → waits_of (s.kind t) d j ≡ waits_of (upd s.kind f (State.page g) t) d j
      waits t d j = elim (eq? t f) [
        | inl p ↦ ap (λ x. waits_of x d j) (ap s.kind p ∙ e) ∙ ap (λ x. waits_of x d j) (sym (upd_at s.kind f (State.page g) t p))
        | inr p ↦ ap (λ x. waits_of x d j) (sym (upd_other s.kind f (State.page g) t p))
      ]

  pub give_goes : (f g : ℕ) → Then (Goes s (Give f g)) (give s f g)
  unfolding give
  give_goes f g = checked 5 λ e1. checked 4 λ e2. checked 6 λ e3. then_done (give_path f g (free_is (s.kind f) e3))

-- no guest that exists has it, and it is shared with nobody
module _ (s : State.State) (c : Core s) (n : Ended s) where
  pub unshared_all : (f g : ℕ) → s.kind f ≡ State.page g → State.total (s.shared f) ≡ 0 → (d : ℕ) → s.shared f d ≡ 0
  unshared_all f g k e d = elim (bool? (s.exists d)) [
    | inl l ↦ none_of s c (s.shared f) e d (c.guests_only d l)
    | inr l ↦ c.strangers f g d k l
  ]

  retiring : (f g : ℕ) (W : ℕ → ℕ → Bool) → s.kind f ≡ State.page g → State.total (s.count f) ≡ 0 → State.total (s.shared f) ≡ 0 →
      ((j v : ℕ) → (eqb j whole_slot && s.dirty g) ≡ true → W g j ≡ true) →
      (t : ℕ) → eqb t f ≡ true → Retire (view s) g t W
  retiring f g W k e1 e2 w t p = let t= = eqb-true t f p in rw t= (record {
    was = ap use_of k;
    nowhere = λ d r l x. has_none s c n d f r l (none_of s c (s.count f) e1 d (c.guests_only d l)) x;
    unshared = unshared_all f g k e2;
    for = λ d j v i x. ap (λ (m : ℕ). W m j) i ∙ w j v (ap (λ (m : ℕ). eqb j whole_slot && s.dirty m) (sym i) ∙ x);
  })

  take_path : (f g : ℕ) (b : Bool) → s.dirty g ≡ b → s.kind f ≡ State.page g → State.total (s.count f) ≡ 0 →
      State.total (s.shared f) ≡ 0 →
      Goes s (Take f g) (becomes s f (cond b (State.draining_page g) State.free) s.word s.shared)
  unfolding becomes upd
  take_path f g true d k e1 e2 =
      let D : Deed → Type 0 = Does s (Take f g) in
      by D (retire (λ t. eqb t f) g (all_of g) (retiring f g (all_of g) k e1 e2
      (λ j v x. rw (eq-eqb g g refl) (and_true (eqb j whole_slot) (s.dirty g) x).0))) (inl refl) (way_to D (stay D)
      (same _ (view (becomes s f (State.draining_page g) s.word s.shared)) refl refl (kind_set s.kind f (State.draining_page g))
      (λ t d. refl) (waits_set s.kind f (State.draining_page g)) (λ d. refl) (λ d j v. refl) (λ t i. refl)))
  take_path f g false d k e1 e2 =
      let D : Deed → Type 0 = Does s (Take f g) in
      by D (retire (λ t. eqb t f) g (λ c j. false)
      (retiring f g (λ c j. false) k e1 e2 (λ j v x. absurd (true≢false (sym (and_true (eqb j whole_slot) (s.dirty g) x).1 ∙ d)))))
      (inl refl)
      (by D (release (λ t. eqb t f) free_now) (inr refl) (way_to D (stay D)
      (same _ (view (becomes s f State.free s.word s.shared)) refl refl kinds (λ t d. refl) (waits_set s.kind f State.free)
      (λ d. refl) (λ d j v. refl) (λ t i. refl))))
    where
      free_now : (t : ℕ) → eqb t f ≡ true → (((o : ℕ) × (cond (eqb t f) (draining g) (use_of (s.kind t)) ≡ draining o)) ⊎
          ((c h p : ℕ) × (cond (eqb t f) (draining g) (use_of (s.kind t)) ≡ emptied c h p))) ×
          ((d j : ℕ) → cond (eqb t f) (λ c j. false) (waits_of (s.kind t)) d j ≡ false)
      free_now t p = (inl (g, rw p), λ d j. rw p)

      kinds : (t : ℕ) → cond (eqb t f) free (cond (eqb t f) (draining g) (use_of (s.kind t))) ≡ use_of (upd s.kind f State.free t)
      kinds t = go (eqb t f)
        where
          go : (b : Bool) → cond b free (cond b (draining g) (use_of (s.kind t))) ≡ use_of (cond b State.free (s.kind t))
          go true = refl
          go false = refl

  pub take_goes : (f g : ℕ) → Then (Goes s (Take f g)) (take s f g)
  unfolding take
  take_goes f g = checked 5 λ e1. checked 4 λ e2. checked 9 λ e3. checked 13 λ e4.
      let a = and_true (eqb (State.total (s.count f)) 0) (eqb (State.total (s.shared f)) 0) e4 in
      then_done (take_path f g (s.dirty g) refl (page_of_is (s.kind f) g e3) (eqb-true (State.total (s.count f)) 0 a.0)
      (eqb-true (State.total (s.shared f)) 0 a.1))
