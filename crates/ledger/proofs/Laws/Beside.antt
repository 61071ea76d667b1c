-- RAM that changed beside the tables: the operations can still count on the two slices.
use mathlib.Core.Path.{◌≡◌, sym, ap, ◌∙◌}
use mathlib.Core.Bool.{true, false, true≢false}
use mathlib.Core.Logic.{inl, inr}
use mathlib.Core.List.{List}
use Prim.Native.Nat.{ℕ, ◌+◌, ◌*◌, ◌<◌, ◌/◌}
use native.Mathlib.Omega.{arith}
use lib.ListN.{length}
use borrow.Author.Tests.{lt-ltb, le-ltb}
use Rattle.memory.specs.Word.{stored_at}
use Rattle.memory.proofs.Laws.Words.{word_other, length_kept}
use Rattle.model.proofs.Laws.Base.{lt?}
use Rattle.model.specs.State.{tabled}
use Rattle.model.specs.Invariant.{Core}
use Rattle.model.proofs.Invariant.Store.{core_reworded}
use Rattle.ledger.specs.Layout.{kind_of, word_of, state_in, state_of}
use Rattle.ledger.specs.Sound.{Sound}

module _ (m l : List ℕ) (ok : Sound m l) where
  pub sound_beside : (m' : List ℕ) → length m' ≡ length m → ((t : ℕ) → tabled (kind_of l t) ≡ true → (i : ℕ) →
      word_of m' t i ≡ word_of m t i) → Sound m' l
  sound_beside m' len same = record { ledger_sound = ok.ledger_sound; ram_fits = len ∙ ok.ram_fits; core = core }
    where
      core : Core (state_of m' l)
      core = unfold state_in in core_reworded (state_of m l) (word_of m') same ok.core

  -- a word at any place, neither of whose two frames holds a table
  pub word_beside : (at v : ℕ) → tabled (kind_of l (at / 4096)) ≡ false → tabled (kind_of l ((at + 7) / 4096)) ≡ false →
      Sound (stored_at m at v) l
  word_beside at v first last = sound_beside (stored_at m at v) (length_kept m at v)
      (λ t e i. elim (lt? i 512) [ inl h ↦ inside t e i h | inr h ↦ unfold word_of in rw (le-ltb i 512 h) ])
    where
      other : (t f : ℕ) → tabled (kind_of l t) ≡ true → tabled (kind_of l f) ≡ false → t ≡ f → ⊥
      other t f a b e = true≢false (sym a ∙ ap (λ (x : ℕ). tabled (kind_of l x)) e ∙ b)

      apart : (t i : ℕ) → i < 512 → (t ≡ at / 4096 → ⊥) → (t ≡ (at + 7) / 4096 → ⊥) → at < t * 4096 + i * 8 + 8 →
          t * 4096 + i * 8 < at + 8 → ⊥
      apart t i h a b p q = omega arith

      inside : (t : ℕ) → tabled (kind_of l t) ≡ true → (i : ℕ) → i < 512 → word_of (stored_at m at v) t i ≡ word_of m t i
      inside t e i h = unfold word_of in rw (lt-ltb i 512 h)
          (word_other m at v (t * 4096 + i * 8) (apart t i h (other t (at / 4096) e first) (other t ((at + 7) / 4096) e last)))
