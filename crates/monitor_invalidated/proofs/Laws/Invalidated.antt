-- Laws of specs/Invalidated.
use mathlib.Core.Path.{◌≡◌, refl, ap, ◌∙◌}
use mathlib.Core.Bool.{true, false}
use mathlib.Core.List.{List}
use Prim.Native.Nat.{ℕ, ◌<◌}
use native.Mathlib.Omega.{arith}
use Rattle.model.specs.State.{is_guest}
use Rattle.model.specs.Changes.{released, clean}
use Rattle.model.specs.Operations.{done, refusal, check, invalidated}
use Rattle.model.specs.Invariant.{Core}
use Rattle.model.proofs.Invariant.Answer.{Then, then_done, checked}
use Rattle.model.proofs.Invariant.Invalidated.{clean_core}
use Rattle.ledger.specs.Columns.{GUEST_ROWS}
use Rattle.ledger.specs.Layout.{size_of, state_of}
use Rattle.ledger.specs.Fields.{remade, with_dirt}
use Rattle.ledger.specs.LedgerSound.{Changed}
use Rattle.ledger.proofs.Laws.Fields.{guest_low}
use Rattle.ledger.specs.Sound.{Sound}
use Rattle.monitor_contract.specs.Answers.{Done}
use Rattle.monitor_contract.proofs.Laws.Answers.{through, core_done}
use Rattle.monitor_contract.specs.EachFrame.{turned_below, all_turned, with_rows, same}
use Rattle.monitor_contract.proofs.Laws.EachFrame.{turned_all}
use Rattle.monitor_invalidated.specs.Invalidated.{invalidating}

module _ {m l : List ℕ} (ok : Sound m l) (g : ℕ) (h : refusal (invalidated (state_of m l) g) ≡ 0) where
  is_one : is_guest g ≡ true
  unfolding invalidated
  is_one = (through (is_guest g) 1 _ (omega arith) h).0

  pub invalidated_guest : g < GUEST_ROWS
  invalidated_guest = (guest_low g is_one).1

  invalidated_is : invalidated (state_of m l) g ≡ done (clean (state_of m l) g)
  unfolding invalidated check
  invalidated_is = rw is_one

  core_after : Then Core (invalidated (state_of m l) g)
  unfolding invalidated
  core_after = checked 1 λ e. then_done (clean_core g (state_of m l) ok.core)

  -- every frame is released, and then g is not dirty
  pub invalidated_end : (l₁ l' : List ℕ) → Changed (turned_below (released g) same (size_of l)) l l₁ → Changed (with_dirt g false) l₁ l' →
      Done (invalidating g) m l m l'
  invalidated_end l₁ l' c d = core_done (invalidating g) (clean (state_of m l) g) ok core_after invalidated_is d.ledger_sound refl
      (unfold clean in refl) state
    where
      last : with_dirt g false (all_turned (released g) same (state_of m l)) ≡ clean (state_of m l) g
      last = unfold with_dirt all_turned with_rows remade clean in refl

      state : state_of m l' ≡ clean (state_of m l) g
      state = d.state m ∙ ap (with_dirt g false) (c.state m
          ∙ turned_all (released g) same m l ok.ledger_sound (unfold released in refl) refl) ∙ last
