-- Bytes and words: a byte of the state is the byte in RAM, and the words of any bytes make a state.
use mathlib.Core.Path.{◌≡◌, refl, sym, ap, ◌∙◌}
use mathlib.Core.Bool.{true}
use mathlib.Core.List.{List, [], ◌∷◌}
use Prim.Native.Nat.{ℕ, zero, suc, ◌+◌, ◌*◌, ◌<◌, ◌/◌, ◌%◌, ◌^◌}
use native.Mathlib.Omega.{arith}
use native.Mathlib.Nat.{div-one}
use lib.ListN.{length, get_or}
use lib.Dec.{ltb}
use Rattle.memory.specs.Ram.{ram_fits}
use Rattle.memory.proofs.Laws.Ram.{fits_so}
use Rattle.memory.specs.Word.{word_at}
use Rattle.memory.proofs.Laws.Bytes.{word_bytes, byte_above, bytes_made, bytes_there}
use Rattle.model.proofs.Laws.Base.{and_true}
use Rattle.model.specs.State.{State, byte_of, byte}
use Rattle.model.specs.Operations.{done, started, set_up}
use Rattle.model.specs.Bytes.{Image}
use Rattle.model.proofs.Invariant.Answer.{Then, then_done, then_is, checked}
use Rattle.model.proofs.Invariant.Wide.{Wide}

-- byte k of a word, by one division
byte_is : (k w : ℕ) → byte_of k w ≡ w / 2 ^ (8 * k) % 256
unfolding byte_of
byte_is zero w = simp div-one
byte_is (suc k) w = rw byte_above (byte_is k (w / 256))

module _ {s : State} {b : ℕ} {m : List ℕ} (x : Image s b m) (h : (i : ℕ) → get_or m i 0 < 256) where
  pub byte_there : (f o : ℕ) → f < s.size → o < 4096 → byte s f o ≡ get_or m (4096 * f + o) 0
  unfolding byte
  byte_there f o l k =
      let at : 4096 * f + 8 * (o / 8) + o % 8 ≡ 4096 * f + o = omega arith in
      byte_is (o % 8) (s.word f (o / 8)) ∙ ap (λ (w : ℕ). w / 2 ^ (8 * (o % 8)) % 256)
      (x.words f (o / 8) l (omega arith) ∙ word_bytes m (4096 * f + 8 * (o / 8)))
      ∙ bytes_there m h 7 (4096 * f + 8 * (o / 8)) (o % 8) (omega arith) ∙ ap (λ (i : ℕ). get_or m i 0) at

-- set_up on any bytes
module _ (b n k : ℕ) (m : List ℕ) (long : length m ≡ 4096 * n) where
  started_image : b % 4096 ≡ 0 → Image (started b n k (λ f i. word_at m (4096 * f + 8 * i))) b m
  unfolding started
  started_image whole = record { base = omega arith; long = long; words = λ f i l j. refl }

  accepted : Then (λ s. Image s b m) (set_up true b n k (λ f i. word_at m (4096 * f + 8 * i)))
  unfolding set_up
  accepted = checked 4 λ q. then_done (started_image (fits_so b n (and_true (ram_fits b n) (ltb k n) q).0).aligned)

  pub set_up_image : (s : State) → set_up true b n k (λ f i. word_at m (4096 * f + 8 * i)) ≡ done s → Image s b m
  set_up_image s e = then_is (set_up true b n k (λ f i. word_at m (4096 * f + 8 * i))) s accepted e

-- the bytes of a state: numbers f a, f (a + 1), .. in a list
unfoldable pub numbers_from : (f : ℕ → ℕ) (a n : ℕ) → List ℕ
numbers_from f a zero = []
numbers_from f a (suc n) = f a ∷ numbers_from f (suc a) n

numbers_length : (f : ℕ → ℕ) (a n : ℕ) → length (numbers_from f a n) ≡ n
unfolding numbers_from
numbers_length f a zero = refl
numbers_length f a (suc n) = ap suc (numbers_length f (suc a) n)

numbers_at : (f : ℕ → ℕ) (a n i : ℕ) → i < n → get_or (numbers_from f a n) i 0 ≡ f (a + i)
unfolding numbers_from
numbers_at f a zero i l = absurd (omega arith)
numbers_at f a (suc n) zero l = ap f (omega arith)
numbers_at f a (suc n) (suc i) l = numbers_at f (suc a) n i (omega arith) ∙ ap f (omega arith)

numbers_low : (f : ℕ → ℕ) → ((j : ℕ) → f j < 256) → (a n i : ℕ) → get_or (numbers_from f a n) i 0 < 256
unfolding numbers_from
numbers_low f h a zero i = omega arith
numbers_low f h a (suc n) zero = h a
numbers_low f h a (suc n) (suc i) = numbers_low f h (suc a) n i

module _ (s : State) where
  abbrev pub bytes_of : List ℕ
  bytes_of = numbers_from (λ j. byte s (j / 4096) (j % 4096)) 0 (4096 * s.size)

  bytes_at : (f i k : ℕ) → f < s.size → i < 512 → k < 8 → get_or bytes_of (4096 * f + 8 * i + k) 0 ≡ byte_of k (s.word f i)
  unfolding byte
  bytes_at f i k lf li lk =
      let j = 4096 * f + 8 * i + k in
      let frame : (0 + j) / 4096 ≡ f = omega arith in
      let word : (0 + j) % 4096 / 8 ≡ i = omega arith in
      let last : (0 + j) % 4096 % 8 ≡ k = omega arith in
      numbers_at (λ j. byte s (j / 4096) (j % 4096)) 0 (4096 * s.size) j (omega arith) ∙ rw (frame, word, last)

  pub image_of : Wide s.word → Image s (4096 * s.first) bytes_of
  image_of h = record {
    base = refl;
    long = numbers_length (λ j. byte s (j / 4096) (j % 4096)) 0 (4096 * s.size);
    words = λ f i lf li. sym (word_bytes bytes_of (4096 * f + 8 * i)
        ∙ bytes_made 7 bytes_of (4096 * f + 8 * i) (s.word f i) (λ k lk. bytes_at f i k lf li (omega arith) ∙ byte_is k (s.word f i))
        (top (s.word f i) (h f i)));
  }
    where
      top : (w : ℕ) → w < 2 ^ 64 → w / 2 ^ 56 < 256
      top w l = omega arith

  pub bytes_low : (i : ℕ) → get_or bytes_of i 0 < 256
  unfolding byte
  bytes_low i = numbers_low (λ j. byte s (j / 4096) (j % 4096)) (λ j. rw byte_is (omega arith)) 0 (4096 * s.size) i
