-- Laws of specs/Create.
use mathlib.Core.Path.{◌≡◌, refl, ap, ◌∙◌}
use mathlib.Core.Bool.{true, not, ◌&&◌}
use mathlib.Core.List.{List}
use Prim.Native.Nat.{ℕ, ◌<◌}
use native.Mathlib.Omega.{arith}
use lib.Dec.{leb}
use lib.ListN.{length}
use borrow.Author.Tests.{leb-true}
use Rattle.model.specs.Base.{upd}
use Rattle.model.specs.State.{State, table, is_guest, free_frames}
use Rattle.model.specs.Changes.{zeros, with_root}
use Rattle.model.specs.Operations.{done, refusal, check, create}
use Rattle.model.proofs.Invariant.Create.{create_good}
use Rattle.ledger.specs.Columns.{GUEST_ROWS}
use Rattle.ledger.specs.Layout.{exists_of, dirty_of, word_of, pick_of, state_in, state_of}
use Rattle.ledger.specs.Fields.{remade, with_kind, with_words, with_existence, with_root_at}
use Rattle.ledger.specs.LedgerSound.{Changed, Taken}
use Rattle.ledger.proofs.Laws.Fields.{guest_low}
use Rattle.ledger.proofs.Laws.Words.{state_words}
use Rattle.ledger.specs.Sound.{Sound, free_of}
use Rattle.ledger.proofs.Laws.Sound.{free_is, chosen}
use Rattle.monitor_contract.specs.Answers.{Done}
use Rattle.monitor_contract.proofs.Laws.Answers.{through, good_done}
use Rattle.monitor_create.specs.Create.{creating}

module _ {m l : List ℕ} (ok : Sound m l) (g : ℕ) (h : refusal (create (state_of m l) g (pick_of l)) ≡ 0) where
  abbrev after : State
  after = with_root (state_of m l) g (pick_of l 0)

  is_one : is_guest g ≡ true
  unfolding create
  is_one = (through (is_guest g) 1 _ (omega arith) h).0

  pub create_guest : g < GUEST_ROWS
  create_guest = (guest_low g is_one).1

  rest_2 : refusal (check (not (exists_of l g) && not (dirty_of l g)) 2 (check (leb 1 (free_frames (state_of m l))) 3 (done after))) ≡ 0
  unfolding create state_in
  rest_2 = (through (is_guest g) 1 _ (omega arith) h).1

  absent : (not (exists_of l g) && not (dirty_of l g)) ≡ true
  absent = (through (not (exists_of l g) && not (dirty_of l g)) 2 _ (omega arith) rest_2).0

  enough : leb 1 (free_frames (state_of m l)) ≡ true
  enough = (through (leb 1 (free_frames (state_of m l))) 3 _ (omega arith)
      (through (not (exists_of l g) && not (dirty_of l g)) 2 _ (omega arith) rest_2).1).0

  pub create_free : 0 < free_of l
  create_free = let a = leb-true 1 (free_frames (state_of m l)) enough in let b = free_is l ok.ledger_sound m in omega arith

  create_is : create (state_of m l) g (pick_of l) ≡ done after
  unfolding create check state_in
  create_is = rw (is_one, absent, enough)

  -- the next free frame is taken, cleared and made the root
  pub create_end : (t : ℕ) (l₁ l₂ l' m' : List ℕ) → t ≡ pick_of l 0 → Taken t (table g 3 0) l l₁ → word_of m' ≡ upd (word_of m) t zeros →
      length m' ≡ length m →
      Changed (with_existence g true) l₁ l₂ → Changed (with_root_at g t) l₂ l' → Done (creating g) m l m' l'
  create_end t l₁ l₂ l' m' e x w len c d =
      good_done (creating g) after ok (λ k q. create_good (state_of m l) ok.core k q g (pick_of l) (chosen l ok.ledger_sound m))
      create_is d.ledger_sound len (unfold with_root in refl) state
    where
      same : (t : ℕ) → with_root_at g t (with_existence g true
          (with_kind t (table g 3 0) (with_words (upd (word_of m) t zeros) (state_of m l)))) ≡ with_root (state_of m l) g t
      same t = unfold with_root_at with_existence with_kind with_words remade with_root state_in in refl

      state : state_of m' l' ≡ after
      state =
          d.state m' ∙ ap (with_root_at g t) (c.state m' ∙ ap (with_existence g true) (x.changes.state m'))
          ∙ ap (λ (y : State). with_root_at g t (with_existence g true (with_kind t (table g 3 0) y)))
          (state_words m m' l (upd (word_of m) t zeros) w)
          ∙ same t ∙ ap (with_root (state_of m l) g) e
