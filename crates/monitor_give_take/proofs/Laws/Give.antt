-- Laws of specs/Give.
use mathlib.Core.Path.{◌≡◌, refl, ap, ◌∙◌}
use mathlib.Core.Bool.{true}
use mathlib.Core.List.{List}
use Prim.Native.Nat.{ℕ, ◌<◌}
use native.Mathlib.Omega.{arith}
use lib.Dec.{ltb}
use lib.ListN.{length}
use borrow.Author.Tests.{ltb-true}
use Rattle.model.specs.Base.{upd}
use Rattle.model.specs.State.{State, free, page, is_free}
use Rattle.model.specs.Changes.{zeros, becomes}
use Rattle.model.specs.Operations.{done, refusal, check, give}
use Rattle.model.proofs.Invariant.Kinds.{free_is}
use Rattle.model.proofs.Invariant.GiveTake.{give_good}
use Rattle.ledger.specs.Columns.{GUEST_ROWS}
use Rattle.ledger.specs.Layout.{size_of, exists_of, kind_of, word_of, state_in, state_of}
use Rattle.ledger.specs.Fields.{remade, with_kind, with_no_shares, with_words}
use Rattle.ledger.specs.LedgerSound.{Changed, Taken}
use Rattle.ledger.proofs.Laws.Fields.{guest_low}
use Rattle.ledger.proofs.Laws.Words.{state_words}
use Rattle.ledger.specs.Sound.{Sound}
use Rattle.ledger.proofs.Laws.Sound.{guest_there}
use Rattle.monitor_contract.specs.Answers.{Done}
use Rattle.monitor_contract.proofs.Laws.Answers.{through, good_done}
use Rattle.monitor_give_take.specs.Give.{giving}

module _ {m l : List ℕ} (ok : Sound m l) (f g : ℕ) (h : refusal (give (state_of m l) f g) ≡ 0) where
  abbrev after : State
  after = becomes (state_of m l) f (page g) (upd (word_of m) f zeros) (upd (state_of m l).shared f zeros)

  exists_here : exists_of l g ≡ true
  unfolding give state_in
  exists_here = (through (exists_of l g) 5 _ (omega arith) h).0

  pub give_guest : g < GUEST_ROWS
  give_guest = (guest_low g (guest_there m l ok g exists_here)).1

  rest_4 : refusal (check (ltb f (size_of l)) 4 (check (is_free (kind_of l f)) 6 (done after))) ≡ 0
  unfolding give state_in
  rest_4 = (through (exists_of l g) 5 _ (omega arith) h).1

  pub give_low : f < size_of l
  give_low = ltb-true f (size_of l) (through (ltb f (size_of l)) 4 _ (omega arith) rest_4).0

  free_test : is_free (kind_of l f) ≡ true
  free_test = (through (is_free (kind_of l f)) 6 _ (omega arith) (through (ltb f (size_of l)) 4 _ (omega arith) rest_4).1).0

  pub give_free : kind_of l f ≡ free
  give_free = free_is (kind_of l f) free_test

  give_is : give (state_of m l) f g ≡ done after
  unfolding give check state_in
  give_is = rw (exists_here, (through (ltb f (size_of l)) 4 _ (omega arith) rest_4).0, free_test)

  -- the frame is taken, nobody shares it, and its words are 0
  pub give_end : (l₁ l' m' : List ℕ) → Taken f (page g) l l₁ → Changed (with_no_shares f) l₁ l' → word_of m' ≡ upd (word_of m) f zeros →
      length m' ≡ length m → Done (giving f g) m l m' l'
  give_end l₁ l' m' t c w len = good_done (giving f g) after ok (λ k q. give_good (state_of m l) ok.core k q f g) give_is
      c.ledger_sound len (unfold becomes in refl) state
    where
      same : with_no_shares f (with_kind f (page g) (with_words (upd (word_of m) f zeros) (state_of m l))) ≡ after
      same = unfold with_no_shares with_kind with_words remade becomes in refl

      state : state_of m' l' ≡ after
      state =
          c.state m' ∙ ap (with_no_shares f) (t.changes.state m')
          ∙ ap (λ (x : State). with_no_shares f (with_kind f (page g) x)) (state_words m m' l (upd (word_of m) f zeros) w) ∙ same
