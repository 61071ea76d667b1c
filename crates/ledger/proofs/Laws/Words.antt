-- Laws of specs/Words.
use mathlib.Core.Path.{◌≡◌, refl, ◌∙◌, fun_ext}
use mathlib.Core.Logic.{◌⊎◌, inl, inr}
use mathlib.Core.List.{List, []}
use Prim.Native.Nat.{ℕ, ◌+◌, ◌*◌, ◌≤◌, ◌<◌, ◌^◌}
use native.Mathlib.Omega.{arith}
use lib.ListN.{get_or}
use borrow.Author.Tests.{lt-ltb, le-ltb}
use Rattle.memory.specs.Word.{word_at, stored_at, cleared_at}
use Rattle.memory.proofs.Laws.Words.{word_agree, word_same, word_other, cleared_byte, cleared_other}
use Rattle.model.proofs.Laws.Base.{eq?, lt?}
use Rattle.model.specs.Base.{upd, upd2}
use Rattle.model.proofs.Laws.Base.{upd_at, upd_other, upd2_at, upd2_other}
use Rattle.model.specs.Changes.{zeros}
use Rattle.ledger.specs.Layout.{word_of, state_in, state_of}
use Rattle.ledger.specs.Fields.{remade, with_words}
use Rattle.ledger.specs.Words.{Within}

pub word_is : (m : List ℕ) (f i : ℕ) → i < 512 → word_at m (f * 4096 + i * 8) ≡ word_of m f i
unfolding word_of
word_is m f i h = rw (lt-ltb i 512 h)

-- a word of zeros; a list of zeros has no other
word_zero : (m : List ℕ) (at : ℕ) → ((j : ℕ) → at ≤ j → j < at + 8 → get_or m j 0 ≡ 0) → word_at m at ≡ 0
word_zero m at h = word_agree m [] at (λ j u v. h j u v) ∙ nothing at
  where
    nothing : (at : ℕ) → word_at [] at ≡ 0
    nothing at = unfold word_at in refl

module _ (m : List ℕ) (f : ℕ) (room : Within m f) where
  pub word_stored : (i x : ℕ) → i < 512 → x < 2 ^ 64 → word_of (stored_at m (f * 4096 + i * 8) x) ≡ upd2 (word_of m) f i x
  unfolding word_of
  word_stored i x hi hx = fun_ext (λ a. fun_ext (λ b. elim (lt? b 512)
      [ inl l ↦ inside a b l (eq? a f) (eq? b i) | inr l ↦ outside a b l ]))
    where
      outside : (a b : ℕ) → 512 ≤ b → word_of (stored_at m (f * 4096 + i * 8) x) a b ≡ upd2 (word_of m) f i x a b
      outside a b l = rw (upd2_other (word_of m) f i x a b (λ p (q : b ≡ i). omega arith), le-ltb b 512 l)

      away : (a b : ℕ) → b < 512 → (a ≡ f → b ≡ i → ⊥) → word_at (stored_at m (f * 4096 + i * 8) x) (a * 4096 + b * 8) ≡ word_at m
          (a * 4096 + b * 8)
      away a b l ne = word_other m (f * 4096 + i * 8) x (a * 4096 + b * 8) (λ p q. ne (omega arith) (omega arith))

      inside : (a b : ℕ) → b < 512 → (a ≡ f) ⊎ (a ≡ f → ⊥) → (b ≡ i) ⊎ (b ≡ i → ⊥) →
          word_of (stored_at m (f * 4096 + i * 8) x) a b ≡ upd2 (word_of m) f i x a b
      inside a b l (inl p) (inl q) = rw (upd2_at (word_of m) f i x a b p q, lt-ltb b 512 l, p, q)
          (word_same m (f * 4096 + i * 8) x (omega arith) hx)
      inside a b l (inl p) (inr q) = rw (upd2_other (word_of m) f i x a b (λ _ y. q y), lt-ltb b 512 l) (away a b l (λ _ y. q y))
      inside a b l (inr p) q = rw (upd2_other (word_of m) f i x a b (λ y _. p y), lt-ltb b 512 l) (away a b l (λ y _. p y))

  pub word_cleared : (at : ℕ) → at ≡ f * 4096 → word_of (cleared_at m at 4096) ≡ upd (word_of m) f zeros
  unfolding word_of zeros
  word_cleared at e = rw e
      (fun_ext (λ a. fun_ext (λ b. elim (lt? b 512) [ inl l ↦ inside a b l (eq? a f) | inr l ↦ outside a b l (eq? a f) ])))
    where
      outside : (a b : ℕ) → 512 ≤ b → (a ≡ f) ⊎ (a ≡ f → ⊥) → word_of (cleared_at m (f * 4096) 4096) a b ≡ upd (word_of m) f zeros a b
      outside a b l (inl p) = rw (upd_at (word_of m) f zeros a p, le-ltb b 512 l)
      outside a b l (inr p) = rw (upd_other (word_of m) f zeros a p, le-ltb b 512 l)

      far : (a b : ℕ) → (a ≡ f → ⊥) → b < 512 → (j : ℕ) → a * 4096 + b * 8 ≤ j → j < a * 4096 + b * 8 + 8 → f * 4096 ≤ j →
          j < f * 4096 + 4096 → ⊥
      far a b ne l j p q u v = ne (omega arith)

      inside : (a b : ℕ) → b < 512 → (a ≡ f) ⊎ (a ≡ f → ⊥) → word_of (cleared_at m (f * 4096) 4096) a b ≡ upd (word_of m) f zeros a b
      inside a b l (inl p) = rw (upd_at (word_of m) f zeros a p, lt-ltb b 512 l, p)
          (word_zero (cleared_at m (f * 4096) 4096) (f * 4096 + b * 8)
          (λ j u v. cleared_byte m (f * 4096) 4096 j room (omega arith) (omega arith)))
      inside a b l (inr p) =
          rw (upd_other (word_of m) f zeros a p, lt-ltb b 512 l)
          (word_agree (cleared_at m (f * 4096) 4096) m (a * 4096 + b * 8) (λ j u v. cleared_other m (f * 4096) 4096 j (far a b p l j u v)))

-- the state, when RAM's words have changed
pub state_words : (m m' l : List ℕ) (w : ℕ → ℕ → ℕ) → word_of m' ≡ w → state_of m' l ≡ with_words w (state_of m l)
unfolding state_in with_words remade
state_words m m' l w e = rw e
