-- One byte of RAM is set: the state of the slices is then the model's after a store of that byte. One word has another byte, and every
-- other word is as before.
use mathlib.Core.Path.{◌≡◌, ap, ◌∙◌, fun_ext}
use mathlib.Core.Logic.{◌⊎◌, inl, inr}
use mathlib.Core.List.{List}
use Prim.Native.Nat.{ℕ, zero, suc, ◌+◌, ◌*◌, ◌≤◌, ◌<◌, ◌/◌, ◌%◌}
use native.Mathlib.Omega.{arith}
use lib.ListN.{length, get_or, set}
use lib.Seq.{get_or-set_same, get_or-set_other}
use borrow.Author.Tests.{lt-ltb, le-ltb}
use Rattle.memory.specs.Word.{word_at}
use Rattle.memory.proofs.Laws.Bytes.{bytes_from, word_bytes, bytes_agree}
use Rattle.memory.proofs.Laws.Words.{word_agree}
use Rattle.model.proofs.Laws.Base.{eq?, lt?, upd2_at, upd2_other}
use Rattle.model.specs.Base.{upd2}
use Rattle.model.specs.State.{put_byte}
use Rattle.model.specs.Machine.{stored}
use Rattle.ledger.specs.Layout.{word_of, state_in, state_of}
use Rattle.ledger.specs.Words.{Within}

-- another lowest byte; another byte further up
put_first : (d r x : ℕ) → d < 256 → x + 256 * r ≡ put_byte 0 (d + 256 * r) x
unfolding put_byte
put_first d r x l = omega arith

put_next : (k d r x : ℕ) → d < 256 → d + 256 * put_byte k r x ≡ put_byte (suc k) (d + 256 * r) x
unfolding put_byte
put_next k d r x l = let z : (d + 256 * r) / 256 ≡ r = omega arith in rw z (omega arith)

module _ (m : List ℕ) (low : (i : ℕ) → get_or m i 0 < 256) (x : ℕ) where
  bytes_put : (n at k : ℕ) → k ≤ n → at + k < length m → bytes_from n (set m (at + k) x) at ≡ put_byte k (bytes_from n m at) x
  unfolding bytes_from
  bytes_put zero at zero l room = only (low at) (ap (λ (i : ℕ). get_or (set m i x) at 0) (omega arith)
      ∙ get_or-set_same m at x 0 (omega arith))
    where
      only : get_or m at 0 < 256 → get_or (set m (at + 0) x) at 0 ≡ x → get_or (set m (at + 0) x) at 0 ≡ put_byte 0 (get_or m at 0) x
      only a e = unfold put_byte in omega arith
  bytes_put zero at (suc k) l room = absurd (omega arith)
  bytes_put (suc n) at zero l room =
      let here : get_or (set m (at + 0) x) at 0 ≡ x = ap (λ (i : ℕ). get_or (set m i x) at 0) (omega arith)
      ∙ get_or-set_same m at x 0 (omega arith) in
      let rest = bytes_agree n (set m (at + 0) x) m (at + 1) (at + 1)
      (λ i p. get_or-set_other m (at + 0) (at + 1 + i) x 0 (λ (e : at + 1 + i ≡ at + 0). omega arith)) in
      rw (here, rest) (put_first (get_or m at 0) (bytes_from n m (at + 1)) x (low at))
  bytes_put (suc n) at (suc k) l room =
      let here : get_or (set m (at + suc k) x) at 0 ≡
      get_or m at 0 = get_or-set_other m (at + suc k) at x 0 (λ (e : at ≡ at + suc k). omega arith) in
      let rest : bytes_from n (set m (at + suc k) x) (at + 1) ≡ put_byte k (bytes_from n m (at + 1)) x =
      ap (λ (i : ℕ). bytes_from n (set m i x) (at + 1)) (omega arith) ∙ bytes_put n (at + 1) k (omega arith) (omega arith) in
      rw (here, rest) (put_next k (get_or m at 0) (bytes_from n m (at + 1)) x (low at))

  -- the word that the byte is in
  word_put : (at k : ℕ) → k < 8 → at + k < length m → word_at (set m (at + k) x) at ≡ put_byte k (word_at m at) x
  word_put at k l room = rw (word_bytes (set m (at + k) x) at, word_bytes m at) (bytes_put 7 at k (omega arith) room)

  -- any other
  word_left : (to at : ℕ) → (at ≤ to → to < at + 8 → ⊥) → word_at (set m to x) at ≡ word_at m at
  word_left to at h = word_agree (set m to x) m at (λ i p q. get_or-set_other m to i x 0 (λ (e : i ≡ to). h (omega arith) (omega arith)))

  module _ (f o : ℕ) (room : Within m f) (inside : o < 4096) where
    words_put : word_of (set m (f * 4096 + o) x) ≡ upd2 (word_of m) f (o / 8) (put_byte (o % 8) (word_of m f (o / 8)) x)
    unfolding word_of
    words_put = fun_ext (λ a. fun_ext (λ b. elim (lt? b 512) [ inl l ↦ within a b l (eq? a f) (eq? b (o / 8)) | inr l ↦ outside a b l ]))
      where
        v : ℕ
        v = put_byte (o % 8) (word_of m f (o / 8)) x

        outside : (a b : ℕ) → 512 ≤ b → word_of (set m (f * 4096 + o) x) a b ≡ upd2 (word_of m) f (o / 8) v a b
        outside a b l = rw (upd2_other (word_of m) f (o / 8) v a b (λ p (q : b ≡ o / 8). omega arith), le-ltb b 512 l)

        away : (a b : ℕ) → b < 512 → (a ≡ f → b ≡ o / 8 → ⊥) →
            word_at (set m (f * 4096 + o) x) (a * 4096 + b * 8) ≡ word_at m (a * 4096 + b * 8)
        away a b l ne = word_left (f * 4096 + o) (a * 4096 + b * 8) (λ p q. ne (omega arith) (omega arith))

        here : word_at (set m (f * 4096 + o) x) (f * 4096 + o / 8 * 8) ≡ put_byte (o % 8) (word_at m (f * 4096 + o / 8 * 8)) x
        here =
            let at : f * 4096 + o ≡ f * 4096 + o / 8 * 8 + o % 8 = omega arith in
            ap (λ (i : ℕ). word_at (set m i x) (f * 4096 + o / 8 * 8)) at
            ∙ word_put (f * 4096 + o / 8 * 8) (o % 8) (omega arith) (omega arith)

        within : (a b : ℕ) → b < 512 → (a ≡ f) ⊎ (a ≡ f → ⊥) → (b ≡ o / 8) ⊎ (b ≡ o / 8 → ⊥) →
            word_of (set m (f * 4096 + o) x) a b ≡ upd2 (word_of m) f (o / 8) v a b
        within a b l (inl p) (inl q) =
            rw (upd2_at (word_of m) f (o / 8) v a b p q, lt-ltb b 512 l, p, q, lt-ltb (o / 8) 512 (omega arith)) here
        within a b l (inl p) (inr q) = rw (upd2_other (word_of m) f (o / 8) v a b (λ _ y. q y), lt-ltb b 512 l) (away a b l (λ _ y. q y))
        within a b l (inr p) q = rw (upd2_other (word_of m) f (o / 8) v a b (λ y _. p y), lt-ltb b 512 l) (away a b l (λ y _. p y))

    pub state_put : (l : List ℕ) → state_of (set m (f * 4096 + o) x) l ≡ stored (state_of m l) f o x
    unfolding state_in stored
    state_put l = rw words_put
