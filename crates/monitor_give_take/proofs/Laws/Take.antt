-- Laws of specs/Take.
use mathlib.Core.Path.{◌≡◌, refl, ap, ◌∙◌}
use mathlib.Core.Bool.{true, false, ◌&&◌, cond}
use mathlib.Core.List.{List}
use Prim.Native.Nat.{ℕ}
use native.Mathlib.Omega.{arith}
use lib.Dec.{eqb, ltb}
use borrow.Author.Tests.{ltb-true, eq-eqb}
use Rattle.model.specs.State.{State, KindOfFrame, free, draining_page, is_free, is_page_of, total}
use Rattle.model.specs.Changes.{becomes, drained}
use Rattle.model.specs.Operations.{done, refusal, take}
use Rattle.model.proofs.Invariant.Kinds.{page_of_is}
use Rattle.model.proofs.Invariant.GiveTake.{take_good}
use Rattle.ledger.specs.Layout.{size_of, exists_of, dirty_of, kind_of, shared_of, count_of, word_of, state_in, state_of}
use Rattle.ledger.specs.Fields.{remade, with_kind, with_kind_by}
use Rattle.ledger.specs.LedgerSound.{Changed}
use Rattle.ledger.specs.Sound.{Sound}
use Rattle.ledger.proofs.Laws.Sound.{guest_there}
use Rattle.monitor_contract.specs.Answers.{Done}
use Rattle.monitor_contract.proofs.Laws.Answers.{through}
use Rattle.monitor_contract.specs.LedgerOnly.{Owned}
use Rattle.monitor_contract.proofs.Laws.LedgerOnly.{changed_so}
use Rattle.monitor_give_take.specs.Take.{taking}

module _ {m l : List ℕ} (ok : Sound m l) (f g : ℕ) (h : refusal (take (state_of m l) f g) ≡ 0) where
  abbrev after : KindOfFrame → State
  after k = becomes (state_of m l) f k (word_of m) (shared_of l)

  abbrev then_kind : KindOfFrame
  then_kind = cond (dirty_of l g) (draining_page g) free

  take_passed : Owned l f g g × (take (state_of m l) f g ≡ done (after then_kind))
  unfolding take state_in
  take_passed =
      let a = through (exists_of l g) 5 _ (omega arith) h in
      let b = through (ltb f (size_of l)) 4 _ (omega arith) a.1 in
      let c = through (is_page_of (kind_of l f) g) 9 _ (omega arith) b.1 in
      let d = through (eqb (total (count_of l f)) 0 && eqb (total (shared_of l f)) 0) 13 _ (omega arith) c.1 in (
        record { low = ltb-true f (size_of l) b.0; its_page = page_of_is (kind_of l f) g c.0; there = guest_there m l ok g a.0 },
        a.2 ∙ b.2 ∙ c.2 ∙ d.2,
      )

  pub take_owned : Owned l f g g
  take_owned = take_passed.0

  pub take_not_free : is_free (kind_of l f) ≡ false
  take_not_free = rw take_owned.its_page

  take_end : {φ : State → State} (l' : List ℕ) (k : KindOfFrame) → k ≡ then_kind → φ (state_of m l) ≡ with_kind f k (state_of m l) →
      Changed φ l l' → Done (taking f g) m l m l'
  take_end l' k e q c =
      changed_so (taking f g) (after then_kind) ok (λ x y. take_good (state_of m l) ok.core x y f g) take_passed.1 c
      (q ∙ same ∙ ap after e) (unfold becomes in refl)
    where
      same : with_kind f k (state_of m l) ≡ after k
      same = unfold with_kind remade becomes state_in in refl

  pub take_drains : (l' : List ℕ) → dirty_of l g ≡ true → Changed (with_kind_by f (drained g)) l l' → Done (taking f g) m l m l'
  take_drains l' d c = take_end l' (drained g (kind_of l f)) kinds same c
    where
      same : with_kind_by f (drained g) (state_of m l) ≡ with_kind f (drained g (kind_of l f)) (state_of m l)
      same = unfold with_kind_by state_in in refl

      kinds : drained g (kind_of l f) ≡ then_kind
      kinds = rw (take_owned.its_page, d) (unfold drained in rw (eq-eqb g g refl))

  pub take_frees : (l' : List ℕ) → dirty_of l g ≡ false → Changed (with_kind f free) l l' → Done (taking f g) m l m l'
  take_frees l' d c = take_end l' free (rw d) refl c
