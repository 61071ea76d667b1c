-- Laws of specs/Destroy.
use mathlib.Core.Path.{◌≡◌, refl, sym, ap, ◌∙◌}
use mathlib.Core.Bool.{Bool, true, false, true≢false}
use mathlib.Core.Logic.{inl, inr}
use mathlib.Core.List.{List}
use Prim.Native.Nat.{ℕ, zero, suc, ◌<◌}
use native.Mathlib.Omega.{arith}
use Rattle.model.proofs.Laws.Base.{bool?, all_true}
use Rattle.model.specs.Base.{upd, all}
use Rattle.model.specs.State.{State, is_guest}
use Rattle.model.specs.Changes.{zeros, drained, without_guest}
use Rattle.model.specs.Operations.{done, refusal, check, unshared, destroy}
use Rattle.model.proofs.Invariant.Destroy.{destroy_good}
use Rattle.ledger.specs.Columns.{GUEST_ROWS}
use Rattle.ledger.specs.Layout.{size_of, exists_of, state_in, state_of}
use Rattle.ledger.specs.Fields.{remade, with_existence, with_dirt}
use Rattle.ledger.specs.LedgerSound.{Changed}
use Rattle.ledger.proofs.Laws.Fields.{guest_low, upd_self}
use Rattle.ledger.specs.Sound.{Sound}
use Rattle.ledger.proofs.Laws.Sound.{guest_there}
use Rattle.monitor_contract.specs.Answers.{Done}
use Rattle.monitor_contract.proofs.Laws.Answers.{through, good_done}
use Rattle.monitor_contract.specs.EachFrame.{turned_below, all_turned, with_rows, without}
use Rattle.monitor_contract.proofs.Laws.EachFrame.{turned_all}
use Rattle.monitor_destroy.specs.Destroy.{destroying}

-- a test at every number below n: it holds at each; it fails at one
pub all_holds : (n : ℕ) (b : ℕ → Bool) → ((k : ℕ) → k < n → b k ≡ true) → all n b ≡ true
unfolding all
all_holds zero b h = refl
all_holds (suc n) b h = rw (all_holds n b (λ k l. h k (omega arith)), h n (omega arith))

pub all_fails : (n : ℕ) (b : ℕ → Bool) (k : ℕ) → k < n → b k ≡ false → all n b ≡ false
all_fails n b k h e = elim (bool? (all n b)) [ inl t ↦ absurd (true≢false (sym (all_true n b t k h) ∙ e)) | inr t ↦ t ]

module _ {m l : List ℕ} (ok : Sound m l) (g : ℕ) (h : refusal (destroy (state_of m l) g) ≡ 0) where
  exists_here : exists_of l g ≡ true
  unfolding destroy state_in
  exists_here = (through (exists_of l g) 5 _ (omega arith) h).0

  pub destroy_guest : is_guest g ≡ true
  destroy_guest = guest_there m l ok g exists_here

  pub destroy_low : g < GUEST_ROWS
  destroy_low = (guest_low g destroy_guest).1

  alone : all (size_of l) (λ f. unshared (state_of m l) f g) ≡ true
  unfolding destroy state_in
  alone = (through (all (size_of l) (λ f. unshared (state_of m l) f g)) 13 _ (omega arith)
      (through (exists_of l g) 5 _ (omega arith) h).1).0

  destroy_is : destroy (state_of m l) g ≡ done (without_guest (state_of m l) g)
  unfolding destroy check state_in
  destroy_is = rw (exists_here, alone)

  -- every frame drains, without g's counts; then g is no more, and dirty
  pub destroy_end : (l₁ l₂ l' : List ℕ) → Changed (turned_below (drained g) (without g) (size_of l)) l l₁ →
      Changed (with_existence g false) l₁ l₂ → Changed (with_dirt g true) l₂ l' → Done (destroying g) m l m l'
  destroy_end l₁ l₂ l' c d e =
      good_done (destroying g) (without_guest (state_of m l) g) ok (λ k q. destroy_good (state_of m l) ok.core k q g) destroy_is
      e.ledger_sound refl (unfold without_guest in refl) state
    where
      none : without g zeros ≡ zeros
      none = unfold zeros in upd_self zeros g

      last : with_dirt g true (with_existence g false (all_turned (drained g) (without g) (state_of m l))) ≡ without_guest (state_of m l) g
      last = unfold with_dirt with_existence all_turned with_rows remade without_guest upd in refl

      state : state_of m l' ≡ without_guest (state_of m l) g
      state =
          e.state m ∙ ap (with_dirt g true) (d.state m)
          ∙ ap (λ (x : State). with_dirt g true (with_existence g false x))
          (c.state m ∙ turned_all (drained g) (without g) m l ok.ledger_sound (unfold drained in refl) none) ∙ last
