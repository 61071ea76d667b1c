-- The laws of words in memory: what a store changes, and what it leaves.
use Prim.Native.Nat.{ℕ, zero, suc, ◌+◌, ◌-◌, ◌*◌, ◌/◌, ◌%◌, ◌^◌, ◌<◌, ◌≤◌}
use mathlib.Core.Path.{◌≡◌, refl, sym, ap, ◌∙◌}
use mathlib.Core.List.{List, []}
use mathlib.Core.Logic.{inl, inr}
use native.Mathlib.Numerals.{add-one, unary_clauses}
use native.Mathlib.Nat.{eq-or-lt_of_le, le_of_suc-le-suc, not-suc-le-zero, add-zero, zero-add, div-one}
use native.Mathlib.Omega.{arith}
use borrow.Rule.Slice.PartMut.{put_mid}
use lib.ListN.{take, drop, get_or, set, length, length-set, replicate, length-replicate}
use lib.Seq.{paste, get_or-take, get_or-drop, get_or-set_same, get_or-set_other}
use Rattle.std.specs.Int.{w64, to_le_bytes}
use Rattle.std.proofs.lemmas.List.Edits.{sets, sets-eq, paste_none, fill_from_more}
use Rattle.std.proofs.lemmas.Slice.{put_mid-paste}
use Rattle.memory.specs.Word.{word_at, stored_at, cleared_at}
use Rattle.memory.proofs.Laws.Bytes.{word_bytes, bytes_agree, bytes_made}

-- two lists that agree on the eight bytes have the same word
pub word_agree : (m l : List ℕ) (at : ℕ) → ((i : ℕ) → at ≤ i → i < at + 8 → get_or m i 0 ≡ get_or l i 0) → word_at m at ≡ word_at l at
word_agree m l at h = rw (word_bytes m, word_bytes l) (bytes_agree 7 m l at at (λ i p. h (at + i) (omega arith) (omega arith)))

-- m with the lowest k bytes of v from `at` on: a store, byte by byte
unfoldable lowest : ℕ → List ℕ → ℕ → ℕ → List ℕ
lowest zero m at v = m
lowest (suc k) m at v = set (lowest k m at v) (at + k) (v / 2 ^ (8 * k) % 256)

stored_lowest : (m : List ℕ) (at v : ℕ) → stored_at m at v ≡ lowest 8 m at v
unfolding stored_at lowest
stored_lowest m at v = simp (add-zero, div-one)

lowest_length : (k : ℕ) (m : List ℕ) (at v : ℕ) → length (lowest k m at v) ≡ length m
unfolding lowest
lowest_length zero m at v = refl
lowest_length (suc k) m at v = simp length-set (lowest_length k m at v)

lowest_other : (k : ℕ) (m : List ℕ) (at v i : ℕ) → (at ≤ i → i < at + k → ⊥) → get_or (lowest k m at v) i 0 ≡ get_or m i 0
unfolding lowest
lowest_other zero m at v i h = refl
lowest_other (suc k) m at v i h =
    let n : i ≡ at + k → ⊥ = λ e. h (omega arith) (omega arith) in
    get_or-set_other (lowest k m at v) (at + k) i _ 0 n ∙ lowest_other k m at v i (λ p q. h p (omega arith))

-- the length stays
pub length_kept : (m : List ℕ) (at v : ℕ) → length (stored_at m at v) ≡ length m
length_kept m at v = rw stored_lowest (lowest_length 8 m at v)

-- a byte outside of the word stays
pub byte_other : (m : List ℕ) (at v i : ℕ) → (at ≤ i → i < at + 8 → ⊥) → get_or (stored_at m at v) i 0 ≡ get_or m i 0
byte_other m at v i h = rw stored_lowest (lowest_other 8 m at v i h)

-- a word none of whose bytes was stored stays
pub word_other : (m : List ℕ) (at v to : ℕ) → (at < to + 8 → to < at + 8 → ⊥) → word_at (stored_at m at v) to ≡ word_at m to
word_other m at v to h =
    word_agree (stored_at m at v) m to (λ i p q. byte_other m at v i (λ s t. h (omega arith) (omega arith)))

lowest_byte : (k : ℕ) (m : List ℕ) (at v i : ℕ) → i < k → at + k ≤ length m → get_or (lowest k m at v) (at + i) 0 ≡ v / 2 ^ (8 * i) % 256
unfolding lowest
lowest_byte zero m at v i h room = absurd (not-suc-le-zero h)
lowest_byte (suc k) m at v i h room =
    elim (eq-or-lt_of_le (le_of_suc-le-suc h)) [
      | inl e ↦ rw e (get_or-set_same (lowest k m at v) (at + k) _ 0 (omega (arith, lowest_length k m at v)))
      | inr l ↦
          get_or-set_other (lowest k m at v) (at + k) (at + i) _ 0 (λ e. omega arith)
          ∙ lowest_byte k m at v i l (omega arith)
    ]

-- the word that was stored is there
pub word_same : (m : List ℕ) (at v : ℕ) → at + 8 ≤ length m → v < 2 ^ 64 → word_at (stored_at m at v) at ≡ v
word_same m at v room h =
    rw (stored_lowest, word_bytes) (bytes_made 7 (lowest 8 m at v) at v (λ i p. lowest_byte 8 m at v i (omega arith) room) (omega arith))

-- nothing cleared is nothing changed; one byte more
pub cleared_none : (m : List ℕ) (at : ℕ) → cleared_at m at 0 ≡ m
unfolding cleared_at
cleared_none m at = refl

pub cleared_more : {l : List ℕ} (m : List ℕ) (at k : ℕ) → l ≡ cleared_at m at k → set l (at + k) 0 ≡ cleared_at m at (k + 1)
unfolding cleared_at
cleared_more m at k e = rw (add-one, e)

-- the length stays
pub cleared_length : (m : List ℕ) (at k : ℕ) → length (cleared_at m at k) ≡ length m
unfolding cleared_at
cleared_length m at zero = refl
cleared_length m at (suc k) = simp length-set (cleared_length m at k)

-- a byte outside stays
pub cleared_other : (m : List ℕ) (at k i : ℕ) → (at ≤ i → i < at + k → ⊥) → get_or (cleared_at m at k) i 0 ≡ get_or m i 0
unfolding cleared_at
cleared_other m at zero i h = refl
cleared_other m at (suc k) i h =
    let n : i ≡ at + k → ⊥ = λ e. h (omega arith) (omega arith) in
    get_or-set_other (cleared_at m at k) (at + k) i _ 0 n ∙ cleared_other m at k i (λ p q. h p (omega arith))

-- a byte inside is 0
pub cleared_byte : (m : List ℕ) (at k i : ℕ) → at + k ≤ length m → at ≤ i → i < at + k → get_or (cleared_at m at k) i 0 ≡ 0
unfolding cleared_at
cleared_byte m at zero i room p q = omega arith
cleared_byte m at (suc k) i room p q =
    let le : i ≤ at + k = omega arith in
    elim (eq-or-lt_of_le le) [
      | inl e ↦ rw e (get_or-set_same (cleared_at m at k) (at + k) 0 0 (omega (arith, cleared_length m at k)))
      | inr l ↦
          get_or-set_other (cleared_at m at k) (at + k) i _ 0 (λ e. omega arith)
          ∙ cleared_byte m at k i (omega arith) p l
    ]

-- the word at a place is the first of the part that begins there
pub word_of_part : (m : List ℕ) (at n : ℕ) → 8 ≤ n → word_at (take n (drop at m)) 0 ≡ word_at m at
word_of_part m at n room =
    rw (word_bytes _ 0, word_bytes m) (bytes_agree 7 (take n (drop at m)) m 0 at
    (λ i p. simp zero-add (get_or-take n (drop at m) i 0 (omega arith) ∙ get_or-drop at m i 0)))

-- the eight bytes of v put into m one by one are a store of v
stored_sets : (m : List ℕ) (at v : ℕ) → sets m at (to_le_bytes w64 v) ≡ stored_at m at v
unfolding stored_at
stored_sets m at v = simp unary_clauses

pub stored_paste : {bytes : List ℕ} {n : ℕ} (m : List ℕ) (at v : ℕ) → at + 8 ≤ length m → bytes ≡ to_le_bytes w64 v → n ≡ 8
    → paste m at bytes n ≡ stored_at m at v
stored_paste m at v room b e =
    rw (b, e) (sym (sets-eq (to_le_bytes w64 v) m at room) ∙ stored_sets m at v)

-- zeros put into m are a part cleared
cleared_paste : (m : List ℕ) (at n : ℕ) → at + n ≤ length m → cleared_at m at n ≡ paste m at (replicate n 0) n
unfolding cleared_at
cleared_paste m at zero room = paste_none m at []
cleared_paste m at (suc n) room =
    ap (λ (l : List ℕ). set l (at + n) 0) (cleared_paste m at n (omega arith))
    ∙ simp add-one at (fill_from_more m at n 0 (omega arith))

pub put_zeros : {zeros : List ℕ} {k : ℕ} (m : List ℕ) (at n : ℕ) → at + n ≤ length m → k ≡ n → zeros ≡ replicate k 0
    → put_mid at (at + n - at) m zeros ≡ cleared_at m at n
put_zeros {zeros} {k} m at n room len e =
    put_mid-paste at (at + n - at) m zeros (replicate n 0) n (e ∙ ap (λ (i : ℕ). replicate i 0) len) (omega arith)
    (sym (length-replicate n 0))
    ∙ sym (cleared_paste m at n room)
