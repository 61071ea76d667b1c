-- Laws of specs/EachFrame: the turns of a loop over the frames.
use mathlib.Core.Path.{◌≡◌, refl, sym, ap, ◌∙◌, fun_ext}
use mathlib.Core.Bool.{Bool, true, false, ◌&&◌, cond}
use mathlib.Core.Logic.{inl, inr}
use mathlib.Core.List.{List}
use Prim.Native.Nat.{ℕ, ◌+◌, ◌*◌, ◌<◌, ◌≤◌}
use native.Mathlib.Omega.{arith}
use lib.Dec.{ltb}
use lib.ListN.{get_or, get_or-eq_default}
use borrow.Author.Tests.{lt-ltb, le-ltb}
use Rattle.model.proofs.Laws.Base.{bool?, eq?, lt?}
use Rattle.model.specs.Base.{upd, upd2}
use Rattle.model.proofs.Laws.Base.{upd_at, upd_other}
use Rattle.model.specs.State.{State, KindOfFrame, monitor, is_guest}
use Rattle.model.specs.Changes.{zeros, drained, released}
use Rattle.ledger.specs.Cells.{cell}
use Rattle.ledger.specs.Columns.{ROW_WORDS, HEADER_WORDS, room_for_frames, CELLS}
use Rattle.ledger.specs.Layout.{frames, kind_in, per_guest, count_part, size_of, kind_of, count_of, state_in, state_of}
use Rattle.ledger.specs.Fields.{remade, with_kind, with_kind_by, with_count}
use Rattle.ledger.specs.LedgerSound.{LedgerSound, Changed}
use Rattle.ledger.proofs.Laws.LedgerSound.{changed_as, changed_then}
use Rattle.ledger.proofs.Laws.Fields.{upd_self}
use Rattle.monitor_contract.proofs.Laws.Answers.{still_low}
use Rattle.monitor_contract.specs.EachFrame.{below, with_rows, frame_turned, turned_below, all_turned, same, without}

module _ {A : Type 0} (K : A → A) (k : ℕ → A) where
  below_none : below K 0 k ≡ k
  unfolding below
  below_none = fun_ext (λ f. rw (le-ltb f 0 (omega arith)))

  below_more : (i : ℕ) → upd (below K i k) i (K (below K i k i)) ≡ below K (i + 1) k
  unfolding below
  below_more i = fun_ext (λ x. elim (eq? x i) [
    | inl e ↦ upd_at (below K i k) i (K (below K i k i)) x e ∙ rw (e, le-ltb i i (omega arith), lt-ltb i (i + 1) (omega arith))
    | inr e ↦ upd_other (below K i k) i (K (below K i k i)) x e ∙ elim (lt? x i) [
      | inl l ↦ rw (lt-ltb x i l, lt-ltb x (i + 1) (omega arith))
      | inr l ↦ rw (le-ltb x i l, le-ltb x (i + 1) (past x i e l))
    ]
  ])
    where
      past : (x i : ℕ) → (x ≡ i → ⊥) → i ≤ x → i + 1 ≤ x
      past x i e l = omega arith

  below_all : (n : ℕ) → ((f : ℕ) → n ≤ f → K (k f) ≡ k f) → below K n k ≡ (λ f. K (k f))
  unfolding below
  below_all n h = fun_ext (λ f. elim (lt? f n) [ inl l ↦ rw (lt-ltb f n l) | inr l ↦ rw (le-ltb f n l) (sym (h f l)) ])

same_rows : {k k' : ℕ → KindOfFrame} {c c' : ℕ → ℕ → ℕ} (s : State) → k ≡ k' → c ≡ c' → with_rows k c s ≡ with_rows k' c' s
same_rows s p q = λ j. with_rows (p j) (q j) s

module _ (K : KindOfFrame → KindOfFrame) (C : (ℕ → ℕ) → ℕ → ℕ) where
  pub none_turned : (l : List ℕ) → LedgerSound l → Changed (turned_below K C 0) l l
  none_turned l s = record { ledger_sound = s; state = λ ram. sym (none (state_of ram l)) }
    where
      none : (s : State) → turned_below K C 0 s ≡ s
      none s = unfold turned_below in same_rows s (below_none K s.kind) (below_none C s.count) ∙ (unfold with_rows remade in refl)

  pub one_more_turned : {l l₁ l₂ : List ℕ} (i : ℕ) → Changed (turned_below K C i) l l₁ → Changed (frame_turned K C i) l₁ l₂ →
      Changed (turned_below K C (i + 1)) l l₂
  one_more_turned {l} i a b = record {
    ledger_sound = b.ledger_sound;
    state = λ ram. b.state ram
        ∙ ap (frame_turned K C i) (a.state ram) ∙ more (state_of ram l);
  }
    where
      more : (s : State) → frame_turned K C i (turned_below K C i s) ≡ turned_below K C (i + 1) s
      more s = unfold frame_turned turned_below with_rows remade in same_rows s (below_more K s.kind i) (below_more C s.count i)

  pub turned_low : {l l₁ : List ℕ} (i : ℕ) → Changed (turned_below K C i) l l₁ → (f : ℕ) → f < size_of l → f < size_of l₁
  turned_low i c f h = still_low c (λ s. unfold turned_below with_rows remade in refl) f h

-- a row that is not there
count_past : (l : List ℕ) → LedgerSound l → (f : ℕ) → size_of l ≤ f → count_of l f ≡ zeros
count_past l s f h = fun_ext (λ g. elim (bool? (is_guest g)) [
  | inl e ↦ unfold per_guest zeros in rw e (ap count_part (cell_past (CELLS + g)) ∙ (unfold count_part in refl))
  | inr e ↦ unfold per_guest zeros in rw e
])
  where
    cell_past : (j : ℕ) → frames l j f ≡ 0
    cell_past j = unfold cell in go (ltb j ROW_WORDS && ltb f room_for_frames)
      where
        gone : get_or l (HEADER_WORDS + ROW_WORDS * f + j) 0 ≡ 0
        gone = get_or-eq_default l 0 (let a = s.length_fits in omega arith)

        go : (b : Bool) → cond b (get_or l (HEADER_WORDS + ROW_WORDS * f + j) 0) 0 ≡ 0
        go true = gone
        go false = refl

-- after the last turn
pub turned_all : (K : KindOfFrame → KindOfFrame) (C : (ℕ → ℕ) → ℕ → ℕ) (m l : List ℕ) → LedgerSound l → K monitor ≡ monitor →
    C zeros ≡ zeros → turned_below K C (size_of l) (state_of m l) ≡ all_turned K C (state_of m l)
unfolding turned_below all_turned state_in
turned_all K C m l s p q = same_rows (state_of m l)
    (below_all K (kind_of l) (size_of l) (λ f h. let e : kind_of l f ≡ monitor = unfold kind_in in rw (le-ltb f (size_of l) h) in rw e p))
    (below_all C (count_of l) (size_of l) (λ f h. rw (count_past l s f h) q))

pub release_turn : {l l' : List ℕ} (f g : ℕ) → Changed (with_kind_by f (released g)) l l' → Changed (frame_turned (released g) same f) l l'
release_turn {l} f g c = changed_as c (λ ram. turn (state_of ram l))
  where
    turn : (s : State) → with_kind_by f (released g) s ≡ frame_turned (released g) same f s
    turn s = unfold with_kind_by with_kind frame_turned with_rows in same_rows s refl (sym (upd_self s.count f))

pub drain_turn : {l l₁ l' : List ℕ} (f g : ℕ) → Changed (with_kind_by f (drained g)) l l₁ → Changed (with_count f g 0) l₁ l' →
    Changed (frame_turned (drained g) (without g) f) l l'
drain_turn {l} f g c d = changed_as (changed_then c d) (λ ram. turn (state_of ram l))
  where
    turn : (s : State) → with_count f g 0 (with_kind_by f (drained g) s) ≡ frame_turned (drained g) (without g) f s
    turn s = unfold with_count with_kind_by with_kind upd2 frame_turned with_rows remade in refl
