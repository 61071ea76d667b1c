-- The words of a line, read one after the other.
use Prim.Native.Nat.{ℕ, zero, suc, ◌+◌, ◌-◌, ◌≤◌, ◌<◌}
use mathlib.Core.Path.{◌≡◌, refl, sym, ap, ◌∙◌, fun_ext}
use mathlib.Core.Bool.{cond}
use mathlib.Core.List.{List, [], ◌∷◌, ◌++◌, append-nil, append_assoc}
use native.Mathlib.Numerals.{add-one}
use native.Mathlib.Omega.{arith}
use lib.Dec.{eqb}
use lib.ListN.{length, get_or, set, take, drop, replicate, length-drop, length-set, drop_of_length-le}
use lib.Seq.{drop-cons, take-suc-set, get_or-set_other}
use borrow.Author.Tests.{eq-eqb, ne_eqb}
use Rattle.std.proofs.Common.{None, Result, Ok, Err}
use Rattle.script_language.specs.declared.Command.{Command}
use Rattle.script_language.specs.declared.names.CommandName.{CommandName}
use Rattle.script_language.specs.declared.names.Form.{Form}
use Rattle.script_language.specs.declared.names.Form.TheVariants.{Number}
use Rattle.script_language.specs.declared.Reason.{Reason}
use Rattle.script_language.specs.declared.Reason.TheVariants.{TooFewWords, TooManyWords}
use Rattle.script_text.specs.Words.{after_blanks, WordEnds}
use Rattle.script_text.proofs.Laws.Scanning.{rest}
use Rattle.script_language.specs.Names.{most_arguments, argument_at, command_with, first_word}
use Rattle.script_language.specs.Commands.{read_argument, Values, joined, values_of, read_from, asked, read_command, read_words}

-- the values p, and then those of the rest
unfoldable pub before : List ℕ → Values → Values
before p (Ok l) = Ok (p ++ l)
before p (Err r) = Err r

before_none : (x : Values) → x ≡ before [] x
unfolding before
before_none (Ok l) = refl
before_none (Err r) = refl

before_one : (p : List ℕ) (x : ℕ) (rest : Values) → before p (joined (Ok x) rest) ≡ before (p ++ (x ∷ [])) rest
unfolding before
before_one p x (Ok l) = rw append_assoc refl
before_one p x (Err r) = refl

-- i arguments of the words s are read, up to the place `at`: they are the first i of a, whose rest is 0
pub record Reading (fs : List Form) (s a : List ℕ) (at i : ℕ) : Type 0 where
  pub inside : at ≤ length s
  pub room : length a ≡ most_arguments
  pub unset : (k : ℕ) → i ≤ k → argument_at a k ≡ 0
  pub so_far : values_of fs s ≡ before (take i a) (values_of (drop i fs) (drop at s))

zeros : (n k : ℕ) → argument_at (replicate n 0) k ≡ 0
zeros zero k = refl
zeros (suc n) zero = refl
zeros (suc n) (suc k) = zeros n k

pub reading_none : (fs : List Form) (s : List ℕ) → Reading fs s (replicate most_arguments 0) 0 0
reading_none fs s = record { inside = omega arith; room = refl; unset = λ k h. zeros most_arguments k; so_far = before_none _ }

-- where no word is left
empty : (s : List ℕ) (at from : ℕ) → from ≡ length s → drop from s ≡ after_blanks (drop at s) → length (after_blanks (drop at s)) ≡ 0
empty s at from e u = ap length (sym u) ∙ length-drop from s ∙ omega arith

few_at : (fs : List Form) (i : ℕ) (s : List ℕ) (at from : ℕ) → i < length fs → from ≡ length s → drop from s ≡ after_blanks (drop at s)
    → values_of (drop i fs) (drop at s) ≡ Err TooFewWords
unfolding values_of
few_at fs i s at from h e u = rw (drop-cons fs i Number h, eq-eqb _ _ (empty s at from e u))

pub too_few : (v : CommandName) {fs : List Form} {s a : List ℕ} {at i from : ℕ} → Reading fs s a at i → i < length fs → from ≡ length s
    → drop from s ≡ after_blanks (drop at s) → Err TooFewWords ≡ read_from v (values_of fs s)
unfolding before
too_few v {fs} {s} {a} {at} {i} {from} p h e u = rw (p.so_far, few_at fs i s at from h e u)

-- the next word, and its argument
values_at : (fs : List Form) (i : ℕ) (s : List ℕ) (at from to : ℕ) (x : Result ℕ Reason) → i < length fs → from ≤ length s
    → (from ≡ length s → ⊥)
    → drop from s ≡ after_blanks (drop at s) → WordEnds s from to
    → x ≡ read_argument (get_or fs i Number) (take (to - from) (drop from s))
    → values_of (drop i fs) (drop at s) ≡ joined x (values_of (drop (i + 1) fs) (drop to s))
unfolding values_of
values_at fs i s at from to x h le some u w e =
    let n : length (drop from s) ≡ 0 → ⊥ = λ z. some (omega (arith, length-drop from s)) in
    rw (add-one i, drop-cons fs i Number h, ← u, ne_eqb _ _ n, e, w.word, w.after)

pub wrong_word : (v : CommandName) {fs : List Form} {s a : List ℕ} {at i from to : ℕ} {x : Result ℕ Reason} {r : Reason}
    → Reading fs s a at i → i < length fs → from ≤ length s → (from ≡ length s → ⊥)
    → drop from s ≡ after_blanks (drop at s) → WordEnds s from to
    → x ≡ read_argument (get_or fs i Number) (take (to - from) (drop from s)) → x ≡ Err r
    → Err r ≡ read_from v (values_of fs s)
unfolding before
wrong_word v {fs} {s} {a} {at} {i} {from} {to} {x} {r} p h le some u w e k =
    rw (p.so_far, values_at fs i s at from to x h le some u w e, k)

pub reading_more : {fs : List Form} {s a : List ℕ} {at i from to : ℕ} {x : Result ℕ Reason} {n : ℕ}
    → Reading fs s a at i → i < length fs → i < most_arguments
    → from ≤ length s → (from ≡ length s → ⊥)
    → drop from s ≡ after_blanks (drop at s) → WordEnds s from to
    → x ≡ read_argument (get_or fs i Number) (take (to - from) (drop from s)) → x ≡ Ok n
    → Reading fs s (set a i n) to (i + 1)
reading_more {fs} {s} {a} {at} {i} {from} {to} {x} {n} p h five le some u w e k =
    let room = p.room in
    let g : i < length a = omega arith in
    record {
      inside = w.inside;
      room = simp length-set room;
      unset = λ k l. get_or-set_other a i k n 0 (λ z. omega arith) ∙ p.unset k (omega arith);
      so_far =
          p.so_far
          ∙ rw (values_at fs i s at from to x h le some u w e, k, before_one (take i a) n (values_of (drop (i + 1) fs) (drop to s)))
          (rw (add-one i, take-suc-set a i n g));
    }

-- all arguments are read
last_at : (fs : List Form) (i : ℕ) (s : List ℕ) → length fs ≤ i
    → values_of (drop i fs) s ≡ cond (eqb (length (after_blanks s)) 0) (Ok []) (Err TooManyWords)
unfolding values_of
last_at fs i s h = rw (drop_of_length-le fs h)

pub too_many : (v : CommandName) {fs : List Form} {s a : List ℕ} {at i from : ℕ} → Reading fs s a at i → length fs ≤ i → from < length s
    → drop from s ≡ after_blanks (drop at s) → Err TooManyWords ≡ read_from v (values_of fs s)
unfolding before
too_many v {fs} {s} {a} {at} {i} {from} p h le u =
    let n : length (drop from s) ≡ 0 → ⊥ = λ z. omega (arith, length-drop from s) in
    rw (p.so_far, last_at fs i (drop at s) h, ← u, ne_eqb _ _ n)

-- what follows the first i is 0, as where nothing follows
taken : (i k : ℕ) (a : List ℕ) → (i ≤ k → argument_at a k ≡ 0) → argument_at a k ≡ argument_at (take i a) k
taken zero k a h = h (omega arith)
taken (suc i) k [] h = refl
taken (suc i) zero (x ∷ a) h = refl
taken (suc i) (suc k) (x ∷ a) h = taken i k a (λ p. h (omega arith))

same_places : (i : ℕ) (a : List ℕ) → ((k : ℕ) → i ≤ k → argument_at a k ≡ 0) → argument_at a ≡ argument_at (take i a)
same_places i a h = fun_ext (λ k. taken i k a (h k))

pub all_read : (v : CommandName) {fs : List Form} {s a : List ℕ} {at i from : ℕ} → Reading fs s a at i → length fs ≤ i → from ≡ length s
    → drop from s ≡ after_blanks (drop at s) → Ok (command_with v (argument_at a)) ≡ read_from v (values_of fs s)
unfolding before
all_read v {fs} {s} {a} {at} {i} {from} p h e u =
    rw (p.so_far, last_at fs i (drop at s) h, eq-eqb _ _ (empty s at from e u), append-nil (take i a))
    (rw (same_places i a p.unset) refl)

pub ruleset readings = (reading_none, too_few, too_many, all_read)

-- a line's first word
pub no_word : (s : List ℕ) {from : ℕ} → from ≡ length s → drop from s ≡ after_blanks s → Ok None ≡ read_words (after_blanks s)
unfolding read_words
no_word s {from} e u = rw (eq-eqb _ _ (empty s 0 from e u))

pub first_there : (s : List ℕ) {from to : ℕ} {x : Result Command Reason} → from ≤ length s → (from ≡ length s → ⊥)
    → drop from s ≡ after_blanks s → WordEnds s from to
    → x ≡ read_command (first_word (take (to - from) (drop from s))) (take (length s - to) (drop to s))
    → asked x ≡ read_words (after_blanks s)
unfolding read_words
first_there s {from} {to} le some u w e =
    let n : length (drop from s) ≡ 0 → ⊥ = λ z. some (omega (arith, length-drop from s)) in
    rw (e, rest to s, ← u, ne_eqb _ _ n, w.word, w.after)
