-- Tables drain only for a guest that is no longer, and that is dirty: after every operation.
use mathlib.Core.Path.{◌≡◌, refl, sym, ap, ◌∙◌}
use mathlib.Core.Bool.{Bool, true, false, true≢false, not, cond}
use mathlib.Core.Logic.{inl, inr}
use Prim.Native.Nat.{ℕ, ◌/◌, ◌%◌}
use lib.Dec.{eqb}
use borrow.Author.Tests.{leb-true, ne_eqb, eq-eqb}
use Rattle.model.proofs.Laws.Base.{eq?, and_true, not_true, upd_at, upd_other}
use Rattle.model.specs.Base.{upd}
use Rattle.model.specs.State
use Rattle.model.specs.Changes.{Choice, becomes, with_root, with_page, with_mapping, without_page, drained, without_guest, released, clean}
use Rattle.model.specs.Operations.{create, give, map, unmap, share, unshare, take, destroy, invalidated}
use Rattle.model.specs.Translate.{translate, missing}
use Rattle.model.specs.Cache.{nothing_kept}
use Rattle.model.specs.Machine.{Operation, Create, Give, Take, Map, Unmap, Share, Unshare, Destroy, Invalidated, answer, Chooses}
use Rattle.model.proofs.Invariant.Kinds
use Rattle.model.specs.Invariant.{Core as LedgerCore}
use Rattle.model.proofs.Invariant.Way.{translate_from}
use Rattle.model.proofs.Invariant.MapUnmap.{address_low, some_is, grown_for, without_is}
use Rattle.model.proofs.Invariant.Holds.{nothing_ok}
use Rattle.model.proofs.Invariant.Answer.{Then, then_done, checked}
use Rattle.model_paths.specs.Goes.{Ended}

-- what the paths need of draining tables holds after every operation
module _ (s : State.State) (c : LedgerCore s) (n : Ended s) where
  becomes_ended : (f : ℕ) (x : State.KindOfFrame) (w sh : ℕ → ℕ → ℕ) → eqb (State.kind_number x) 3 ≡ false → Ended (becomes s f x w sh)
  unfolding becomes
  becomes_ended f x w sh q = record {
    gone = λ t g h p e. n.gone t g h p
        (Kinds.kind_from s.kind f x t (State.draining_table g h p) e q);
  }

  root_ended : (g t : ℕ) → s.dirty g ≡ false → Ended (with_root s g t)
  unfolding with_root
  root_ended g t d = record {
    gone = λ u g' h p e.
        let z = n.gone u g' h p (Kinds.kind_from s.kind t (State.table g 3 0) u (State.draining_table g' h p) e refl) in
        (upd_other s.exists g true g' (λ (i : g' ≡ g). true≢false (sym z.1 ∙ ap s.dirty i ∙ d)) ∙ z.0, z.1);
  }

  dirty_more : (g g' : ℕ) → s.dirty g' ≡ true → upd s.dirty g true g' ≡ true
  dirty_more g g' e = elim (eq? g' g) [ inl i ↦ upd_at s.dirty g true g' i | inr i ↦ upd_other s.dirty g true g' i ∙ e ]

  unmap_ended : (t i f g : ℕ) → Ended (without_page s t i f g)
  unfolding without_page
  unmap_ended t i f g = record { gone = λ u g' h p e. let z = n.gone u g' h p e in (z.0, dirty_more g g' z.1) }

  was_draining : (g : ℕ) (x : State.KindOfFrame) (g' h p : ℕ) → (g' ≡ g → ⊥) → drained g x ≡ State.draining_table g' h p →
      x ≡ State.draining_table g' h p
  unfolding drained
  was_draining g State.monitor g' h p ne e = absurd (Kinds.clash {x = State.monitor} {y = State.draining_table g' h p} e refl)
  was_draining g State.free g' h p ne e = absurd (Kinds.clash {x = State.free} {y = State.draining_table g' h p} e refl)
  was_draining g (State.table a b d) g' h p ne e = elim (eq? a g) [
    | inl i ↦ let z : State.draining_table a b d ≡
        State.draining_table g' h p = ap (λ (b' : Bool). cond b' (State.draining_table a b d) (State.table a b d)) (sym (eq-eqb a g i))
        ∙ e in let a= : a ≡ g' = cc in absurd (ne (sym a= ∙ i))
    | inr i ↦ absurd (Kinds.clash {x = State.table a b d} {y = State.draining_table g' h p}
        (ap (λ (b' : Bool). cond b' (State.draining_table a b d) (State.table a b d)) (sym (ne_eqb a g i)) ∙ e) refl)
  ]
  was_draining g (State.draining_table a b d) g' h p ne e = e
  was_draining g (State.page a) g' h p ne e = elim (eq? a g) [
    | inl i ↦ absurd (Kinds.clash {x = State.draining_page a} {y = State.draining_table g' h p}
        (ap (λ (b' : Bool). cond b' (State.draining_page a) (State.page a)) (sym (eq-eqb a g i)) ∙ e) refl)
    | inr i ↦ absurd (Kinds.clash {x = State.page a} {y = State.draining_table g' h p}
        (ap (λ (b' : Bool). cond b' (State.draining_page a) (State.page a)) (sym (ne_eqb a g i)) ∙ e) refl)
  ]
  was_draining g (State.draining_page a) g' h p ne e =
      absurd (Kinds.clash {x = State.draining_page a} {y = State.draining_table g' h p} e refl)

  destroy_ended : (g : ℕ) → Ended (without_guest s g)
  unfolding without_guest
  destroy_ended g = record {
    gone = λ t g' h p e. elim (eq? g' g) [
      | inl i ↦ (upd_at s.exists g false g' i, upd_at s.dirty g true g' i)
      | inr i ↦ let z = n.gone t g' h p (was_draining g (s.kind t) g' h p i e) in
          (upd_other s.exists g false g' i ∙ z.0, dirty_more g g' z.1)
    ];
  }

  not_released : (g : ℕ) (x : State.KindOfFrame) (g' h p : ℕ) → released g x ≡ State.draining_table g' h p →
      (x ≡ State.draining_table g' h p) × (g' ≡ g → ⊥)
  unfolding released
  not_released g State.monitor g' h p e = absurd (Kinds.clash {x = State.monitor} {y = State.draining_table g' h p} e refl)
  not_released g State.free g' h p e = absurd (Kinds.clash {x = State.free} {y = State.draining_table g' h p} e refl)
  not_released g (State.table a b d) g' h p e = absurd (Kinds.clash {x = State.table a b d} {y = State.draining_table g' h p} e refl)
  not_released g (State.draining_table a b d) g' h p e = elim (eq? a g) [
    | inl i ↦ absurd (Kinds.clash {x = State.free} {y = State.draining_table g' h p}
        (ap (λ (b' : Bool). cond b' State.free (State.draining_table a b d)) (sym (eq-eqb a g i)) ∙ e) refl)
    | inr i ↦ let z : State.draining_table a b d ≡
        State.draining_table g' h p = ap (λ (b' : Bool). cond b' State.free (State.draining_table a b d)) (sym (ne_eqb a g i)) ∙ e in
        let a= : a ≡ g' = cc in (z, λ q. i (a= ∙ q))
  ]
  not_released g (State.page a) g' h p e = absurd (Kinds.clash {x = State.page a} {y = State.draining_table g' h p} e refl)
  not_released g (State.draining_page a) g' h p e = elim (eq? a g) [
    | inl i ↦ absurd (Kinds.clash {x = State.free} {y = State.draining_table g' h p}
        (ap (λ (b' : Bool). cond b' State.free (State.draining_page a)) (sym (eq-eqb a g i)) ∙ e) refl)
    | inr i ↦ absurd (Kinds.clash {x = State.draining_page a} {y = State.draining_table g' h p}
        (ap (λ (b' : Bool). cond b' State.free (State.draining_page a)) (sym (ne_eqb a g i)) ∙ e) refl)
  ]

  clean_ended : (g : ℕ) → Ended (clean s g)
  unfolding clean
  clean_ended g = record {
    gone = λ t g' h p e. let w = not_released g (s.kind t) g' h p e in let z = n.gone t g' h p w.0 in
        (z.0, upd_other s.dirty g false g' w.1 ∙ z.1);
  }

  map_ended : (f g a r : ℕ) (pick : ℕ → ℕ) → Choice s pick → Then Ended (map s f g a r pick)
  unfolding map with_mapping with_page
  map_ended f g a r pick ch =
      checked 5 λ e1. checked 14 λ e2. checked 7 λ e3. checked 8 λ e4. checked 4 λ e5. checked 9 λ e6. checked 10 λ e7. checked 3 λ e8.
      let z = grown_for s c nothing_kept (nothing_ok s) g (a / 4096) pick e1 (address_low a e3) ch
      (leb-true (missing s g (a / 4096)) (State.free_frames s) e8) in
      then_done (record {
        gone = λ t g' h p e. elim (z.from t (State.draining_table g' h p) e) [
          | inl k ↦ let w = n.gone t g' h p k in (
            ap (λ (y : ℕ → Bool). y g') z.exists ∙ w.0,
            ap (λ (y : ℕ → Bool). y g') z.dirty
                ∙ w.1,
          )
          | inr k ↦ absurd (true≢false (sym k.1))
        ];
      })

  take_ended : (f g : ℕ) → Then Ended (take s f g)
  unfolding take
  take_ended f g = checked 5 λ e1. checked 4 λ e2. checked 9 λ e3. checked 13 λ e4. then_done (go (s.dirty g))
    where
      go : (b : Bool) → Ended (becomes s f (cond b (State.draining_page g) State.free) s.word s.shared)
      go true = becomes_ended f (State.draining_page g) s.word s.shared refl
      go false = becomes_ended f State.free s.word s.shared refl

  pub answer_ended : (o : Operation) → Chooses s o → Then Ended (answer s o)
  unfolding answer create give unmap share unshare destroy invalidated
  answer_ended (Create g pick) ch =
      checked 1 λ e1. checked 2 λ e2. checked 3 λ e3. then_done
      (root_ended g (pick 0) (not_true (s.dirty g) (and_true (not (s.exists g)) (not (s.dirty g)) e2).1))
  answer_ended (Give f g) ch = checked 5 λ e1. checked 4 λ e2. checked 6 λ e3. then_done (becomes_ended f (State.page g) _ _ refl)
  answer_ended (Take f g) ch = take_ended f g
  answer_ended (Map f g a r pick) ch = map_ended f g a r pick ch
  answer_ended (Unmap a g) ch = checked 5 λ e1. checked 7 λ e2. checked 11 λ e3.
      let o = some_is (translate s g (a / 4096)) e3 in
      let w = translate_from s g (a / 4096) o.0 o.1 o.2 in
      rw (without_is s c g (a / 4096) w.0 o.0 o.1 w.1 o.2) (then_done (unmap_ended w.0 (a / 4096 % 512) o.0 g))
  answer_ended (Share g f h w) ch =
      checked 5 λ e1. checked 12 λ e2. checked 4 λ e3. checked 9 λ e4. checked 13 λ e5. checked 14 λ e6. then_done
      (becomes_ended f (State.page g) _ _ refl)
  answer_ended (Unshare g f h) ch =
      checked 5 λ e1. checked 4 λ e2. checked 9 λ e3. checked 13 λ e4. checked 14 λ e5. then_done (becomes_ended f (State.page g) _ _ refl)
  answer_ended (Destroy g) ch = checked 5 λ e1. checked 13 λ e2. then_done (destroy_ended g)
  answer_ended (Invalidated g) ch = checked 1 λ e1. then_done (clean_ended g)
