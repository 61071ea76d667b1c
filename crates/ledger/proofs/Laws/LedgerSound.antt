-- Laws of specs/LedgerSound.
use mathlib.Core.Path.{◌≡◌, refl, ap, ◌∙◌}
use mathlib.Core.Logic.{inl, inr}
use mathlib.Core.List.{List}
use Prim.Native.Nat.{ℕ, ◌+◌, ◌*◌, ◌≤◌, ◌<◌}
use native.Mathlib.Omega.{arith}
use lib.ListN.{length}
use Rattle.model.specs.Base.{upd2}
use Rattle.model.specs.State.{State}
use Rattle.ledger.specs.Cells.{store}
use Rattle.ledger.proofs.Laws.Cells.{length_store, cell_store, cell_apart}
use Rattle.ledger.specs.Layout.{frames, guest_rows, word_of, state_in, state_of}
use Rattle.ledger.specs.Columns.{room_for_frames, ROW_WORDS, GUEST_ROWS, HEADER_WORDS}
use Rattle.ledger.specs.LedgerSound.{RowsSound, Holds, Changed}

pub holds_itself : (l : List ℕ) → Holds (length l) l (frames l) (guest_rows l)
holds_itself l = record { length_is = refl; frames_are = refl; guests_are = refl }

pub holds_frame : {len : ℕ} {l : List ℕ} {F G : ℕ → ℕ → ℕ} → Holds len l F G → (j f v : ℕ) → j < ROW_WORDS → f < room_for_frames →
    HEADER_WORDS + ROW_WORDS * f + j < len →
    Holds len (store HEADER_WORDS l j f v) (upd2 F j f v) G
holds_frame {len} {l} {F} {G} h j f v hj hf low = let k = h.length_is in record {
  length_is = length_store HEADER_WORDS l j f v ∙ h.length_is;
  frames_are = cell_store HEADER_WORDS room_for_frames l j f v hj hf (omega arith) ∙ ap (λ (X : ℕ → ℕ → ℕ). upd2 X j f v) h.frames_are;
  guests_are = cell_apart 0 GUEST_ROWS HEADER_WORDS l j f v hj (inl (omega arith)) ∙ h.guests_are;
}

pub holds_guest : {len : ℕ} {l : List ℕ} {F G : ℕ → ℕ → ℕ} → Holds len l F G → (j g v : ℕ) → j < ROW_WORDS → g < GUEST_ROWS →
    HEADER_WORDS ≤ len →
    Holds len (store 0 l j g v) F (upd2 G j g v)
holds_guest {len} {l} {F} {G} h j g v hj hg low = let k = h.length_is in record {
  length_is = length_store 0 l j g v ∙ h.length_is;
  frames_are = cell_apart HEADER_WORDS room_for_frames 0 l j g v hj (inr (omega arith)) ∙ h.frames_are;
  guests_are = cell_store 0 GUEST_ROWS l j g v hj hg (omega arith) ∙ ap (λ (X : ℕ → ℕ → ℕ). upd2 X j g v) h.guests_are;
}

pub changed : {φ : State → State} (l l' : List ℕ) (F G : ℕ → ℕ → ℕ) → Holds (length l) l' F G → RowsSound (length l) F G →
    ((w : ℕ → ℕ → ℕ) → state_in F G w ≡ φ (state_in (frames l) (guest_rows l) w)) → Changed φ l l'
changed l l' F G h s e = record {
  ledger_sound = rw (h.length_is, h.frames_are, h.guests_are) s;
  state = λ ram. rw (h.frames_are, h.guests_are) (e (word_of ram));
}

-- the same change in other words
pub changed_as : {φ ψ : State → State} {l l' : List ℕ} → Changed φ l l' → ((ram : List ℕ) → φ (state_of ram l) ≡ ψ (state_of ram l)) →
    Changed ψ l l'
changed_as c e = record { ledger_sound = c.ledger_sound; state = λ ram. c.state ram ∙ e ram }

-- one after the other
pub changed_then : {φ ψ : State → State} {l l₁ l₂ : List ℕ} → Changed φ l l₁ → Changed ψ l₁ l₂ → Changed (λ s. ψ (φ s)) l l₂
changed_then {φ} {ψ} a b = record { ledger_sound = b.ledger_sound; state = λ ram. b.state ram ∙ ap ψ (a.state ram) }
