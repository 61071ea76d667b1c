-- Two computers that meet the hypotheses of ClosedLoop, and differ: RAM lies elsewhere, free frames hold other words, on the second
-- another guest has tables, and the host stores more there, and earlier.
-- Space 1 has a page of its own (frame 2 on the first, frame 7 on the second), and guest 2 lends it one for reading (frame 4, frame 3),
-- in which the host then stores 8 on both.
-- Its program stores 42 in its own page, reads it back, reads 8 from the other, asks for something and is told 6. (The root of its tables
-- has height 0, to be short.)
use mathlib.Core.Path.{◌≡◌, refl, sym, ◌∙◌}
use mathlib.Core.Bool.{Bool, true, false, cond}
use mathlib.Core.Logic.{◌⊎◌, inl, inr}
use mathlib.Core.List.{[], ◌∷◌}
use Prim.Native.Nat.{ℕ, ◌+◌, ◌-◌, ◌*◌, ◌<◌}
use native.Mathlib.Omega.{arith}
use lib.Dec.{eqb, ltb}
use borrow.Author.Tests.{le-ltb}
use Rattle.model.proofs.Laws.Base.{bool?}
use Rattle.model.specs.Base.{upd, upd2}
use Rattle.model.specs.State.{byte_of, put_byte}
use Rattle.model.specs.Entry.{rights_of}
use Rattle.model.specs.Translate.{upper}
use Rattle.model.specs.Operations.{shares}
use Rattle.model.specs.Cache.{descriptor, inside, reading}
use Rattle.model_moves.specs.Spaces.{Spaces, Space, FrameUse, monitor, free, table, claimed, page, with_kind, with_shared, with_space, store}
use Rattle.model_moves.specs.Cache.{from_root, read_off}
use Rattle.model_moves.specs.Moves.{put, enter, Enter, hand, lend, Lend, open_space, Open, rooted}
use Rattle.model_moves.specs.Machine.{Machine, byte_stored, moves}
use Rattle.model_moves.specs.Terms.{Bounded, Start}
use Rattle.model_two_computers.specs.Terms.{Frames, no_frames, SameWords, Repaired, LeavesSecond, Unpaired, Two, ends, left, right, both, repairs, entered, put_both, At}
use Rattle.model_two_computers.specs.Programs.{read, write, ask, got, done, told, Program, reads, writes, Loop, rests, acts, tells, meanwhile}
use Rattle.model_moves.proofs.Invariant.Core.{clash}
use Rattle.model_moves.proofs.Invariant.Ledger.{shares_none}

-- no space yet, 16 free frames
abbrev no_space : Space
no_space = record { exists = false; serves = 0; height = 0; wide = 1; root = 0 }

abbrev empty : (first : ℕ) (w : ℕ → ℕ → ℕ) → Spaces
empty first w = record {
  size = 16;
  first = first;
  kind = λ f. cond (ltb f 16) free monitor;
  shared = λ f c. 0;
  waits = λ f c j. false;
  space = λ c. no_space;
  stale = λ c j v. false;
  word = w;
}

abbrev on : Spaces → Machine
on s = record { spaces = s; caches = record { table_kept = λ c h p x. ⊥; page_kept = λ c v x r. ⊥; level_kept = λ c v l. ⊥ } }

-- space c, for guest c, with its root at frame t
abbrev new : (c t : ℕ) → Space
new c t = record { exists = true; serves = c; height = 0; wide = 1; root = t }

abbrev opened : (c t : ℕ) → Spaces → Spaces
opened c t s = with_kind (with_space s (upd s.space c (new c t))) (λ f. cond (rooted (new c t) f) (table c 0 (f - t)) (s.kind f))

abbrev handed : (f g : ℕ) → Spaces → Spaces
handed f g s = with_shared (with_kind s (upd s.kind f (page g))) (upd s.shared f (λ c. 0))

-- the word for a page, for reading and writing
abbrev word_for : (page : ℕ) → ℕ
word_for p = p * 4096 + 0x400000000000C3

abbrev word_to_read : (page : ℕ) → ℕ
word_to_read p = p * 4096 + 0x40000000000043

abbrev lent : (f c : ℕ) → Spaces → Spaces
lent f c s = with_shared s (upd2 s.shared f c 1)

abbrev a0 : Spaces
a0 = empty 0 (λ f i. 0)

abbrev b0 : Spaces
b0 = empty 100 (λ f i. cond (ltb f 8) 0 8)

-- the first computer: when the two pages are there; when they are entered; when the host has stored 8; when the program has stored
abbrev a1 : Spaces
a1 = opened 1 1 a0

abbrev a2 : Spaces
a2 = handed 2 1 a1

abbrev a3 : Spaces
a3 = handed 4 2 a2

abbrev a4 : Spaces
a4 = store a3 4 0 7

abbrev a5 : Spaces
a5 = lent 4 1 a4

abbrev a6 : Spaces
a6 = store a5 1 0 (word_for 2)

abbrev a7 : Spaces
a7 = store a6 1 1 (word_to_read 4)

abbrev a8 : Spaces
a8 = store a7 4 0 8

abbrev a9 : Spaces
a9 = byte_stored a8 2 5 42

-- the second: guest 2 comes first, and has tables
abbrev b1 : Spaces
b1 = opened 2 9 b0

abbrev b2 : Spaces
b2 = handed 3 2 b1

abbrev b3 : Spaces
b3 = opened 1 5 b2

abbrev b4 : Spaces
b4 = handed 7 1 b3

abbrev b5 : Spaces
b5 = store (store b4 3 0 9) 3 0 7

abbrev b6 : Spaces
b6 = lent 3 1 b5

abbrev b7 : Spaces
b7 = store b6 5 0 (word_for 107)

abbrev b8 : Spaces
b8 = store b7 5 1 (word_to_read 103)

abbrev b9 : Spaces
b9 = store b8 3 0 8

abbrev b10 : Spaces
b10 = byte_stored b9 7 5 42

abbrev b11 : Spaces
b11 = store b10 12 0 99

starts : (first : ℕ) (w : ℕ → ℕ → ℕ) → Start (on (empty first w))
starts first w = record {
  frames = λ f. elim (bool? (ltb f 16)) [ inl e ↦ inr (rw e refl) | inr e ↦ inl (rw e refl) ];
  spaces = λ c. refl;
  tables = λ c h p x a. a;
  pages = λ c v x r a. a;
  levels = λ c v l a. a;
}

bounded : (first : ℕ) (w : ℕ → ℕ → ℕ) → Bounded (on (empty first w))
bounded first w t l = rw (le-ltb t 16 l) refl

-- a frame that is free or the monitor's
none_yet : (x : Bool) (c h p : ℕ) → (cond x free monitor ≡ table c h p → ⊥) × (cond x free monitor ≡ claimed c h p → ⊥) ×
    (cond x free monitor ≡ page c → ⊥)
none_yet true c h p = (
  λ e. clash {x = free} {y = table c h p} e refl,
  λ e. clash {x = free} {y = claimed c h p} e refl,
  λ e. clash {x = free} {y = page c} e refl,
)
none_yet false c h p = (
  λ e. clash {x = monitor} {y = table c h p} e refl,
  λ e. clash {x = monitor} {y = claimed c h p} e refl,
  λ e. clash {x = monitor} {y = page c} e refl,
)

zero_only : (p : ℕ) → p < 1 → 0 ≡ p
zero_only p l = omega arith

a_opens : Open a0 1 (new 1 1)
unfolding descriptor
a_opens = record {
  new = refl;
  begins = refl;
  clean = λ j v. refl;
  none = λ t h p. let z = none_yet (ltb t 16) 1 h p in
      (z.0, z.1);
  spare = λ p l. rw (← zero_only p l) (refl, λ i. refl);
  unlent = λ f o e. refl;
  pageless = λ e f. (none_yet (ltb f 16) 1 0 0).2;
}

b_opens : Open b0 2 (new 2 9)
unfolding descriptor
b_opens = record {
  new = refl;
  begins = refl;
  clean = λ j v. refl;
  none = λ t h p. let z = none_yet (ltb t 16) 2 h p in
      (z.0, z.1);
  spare = λ p l. rw (← zero_only p l) (refl, λ i. refl);
  unlent = λ f o e. refl;
  pageless = λ e f. (none_yet (ltb f 16) 2 0 0).2;
}

-- a frame of the second then: the page of guest 2, its root, or as before
abbrev then_kind : (x y z : Bool) (n : ℕ) → FrameUse
then_kind x y z n = cond x (page 2) (cond y (table 2 0 n) (cond z free monitor))

then_none : (x y z : Bool) (n h p : ℕ) → (then_kind x y z n ≡ table 1 h p → ⊥) × (then_kind x y z n ≡ claimed 1 h p → ⊥) ×
    (then_kind x y z n ≡ page 1 → ⊥)
then_none true y b n h p = (
  λ e. clash {x = page 2} {y = table 1 h p} e refl,
  λ e. clash {x = page 2} {y = claimed 1 h p} e refl,
  λ e. let z : ◌≡◌ {A = ℕ} 2 1 = cc in omega arith,
)
then_none false true b n h p = (
  λ e. let z : ◌≡◌ {A = ℕ} 2 1 = cc in omega arith,
  λ e. clash {x = table 2 0 n} {y = claimed 1 h p} e refl,
  λ e. clash {x = table 2 0 n} {y = page 1} e refl,
)
then_none false false b n h p = none_yet b 1 h p

b_opens_1 : Open b2 1 (new 1 5)
unfolding descriptor upd
b_opens_1 = record {
  new = refl;
  begins = refl;
  clean = λ j v. refl;
  none = λ t h p. let z = then_none (eqb t 3) (rooted (new 2 9) t) (ltb t 16) (t - 9) h p in (z.0, z.1);
  spare = λ p l. rw (← zero_only p l) (refl, λ i. refl);
  unlent = λ f o e. shared_none (eqb f 3);
  pageless = λ e f. (then_none (eqb f 3) (rooted (new 2 9) f) (ltb f 16) (f - 9) 0 0).2;
}
  where
    shared_none : (x : Bool) → cond {A = ℕ → ℕ} x (λ c. 0) (λ c. 0) 1 ≡ 0
    shared_none true = refl
    shared_none false = refl

a_lends : Lend a4 4 1 1
unfolding upd
a_lends = record { allowed = inl (λ r e. absurd (shares_none r e)) }

b_lends : Lend b5 3 1 1
unfolding upd
b_lends = record { allowed = inl (λ r e. absurd (shares_none r e)) }

-- page 0 of space 1, its own, and page 1, which is lent to it
a_enters : Enter a5 1 1 0 0 (word_for 2) 2 3
unfolding descriptor rights_of upd upd2 upper inside
a_enters = record { live = refl; place = refl; empty = refl; fresh = λ j v e. refl; reads = refl; may = λ v e. (2, refl, inl refl) }

b_enters : Enter b6 5 1 0 0 (word_for 107) 107 3
unfolding descriptor rights_of upd upd2 upper inside
b_enters = record { live = refl; place = refl; empty = refl; fresh = λ j v e. refl; reads = refl; may = λ v e. (7, refl, inl refl) }

a_enters_1 : Enter a6 1 1 0 1 (word_to_read 4) 4 1
unfolding descriptor rights_of upd upd2 upper inside shares
a_enters_1 = record {
  live = refl;
  place = refl;
  empty = refl;
  fresh = λ j v e. refl;
  reads = refl;
  may = λ v e. (4, refl, inr (2, refl, refl));
}

b_enters_1 : Enter b7 5 1 0 1 (word_to_read 103) 103 1
unfolding descriptor rights_of upd upd2 upper inside shares
b_enters_1 = record {
  live = refl;
  place = refl;
  empty = refl;
  fresh = λ j v e. refl;
  reads = refl;
  may = λ v e. (3, refl, inr (2, refl, refl));
}

-- what corresponds: its own page, and the one that is lent to it
abbrev pub pair : Frames
pair f f' = ((f ≡ 2) × (f' ≡ 7)) ⊎ ((f ≡ 4) × (f' ≡ 3))

pair_right : (f a b : ℕ) → pair f a → pair f b → a ≡ b
pair_right f a b (inl x) (inl y) = x.1 ∙ sym y.1
pair_right f a b (inl x) (inr y) = let x0 = x.0 in let y0 = y.0 in absurd (omega arith)
pair_right f a b (inr x) (inl y) = let x0 = x.0 in let y0 = y.0 in absurd (omega arith)
pair_right f a b (inr x) (inr y) = x.1 ∙ sym y.1

pair_left : (a b f : ℕ) → pair a f → pair b f → a ≡ b
pair_left a b f (inl x) (inl y) = x.0 ∙ sym y.0
pair_left a b f (inl x) (inr y) = let x0 = x.1 in let y0 = y.1 in absurd (omega arith)
pair_left a b f (inr x) (inl y) = let x0 = x.1 in let y0 = y.1 in absurd (omega arith)
pair_left a b f (inr x) (inr y) = x.0 ∙ sym y.0

-- frame 4 of the first holds 7 and zeros, and so does frame 3 of the second, where 9 came before
pair_words : (f f' : ℕ) → pair f f' → SameWords (on a5) (on b6) f f'
unfolding upd upd2
pair_words f f' (inl x) i = rw x.0 (rw x.1 refl)
pair_words f f' (inr x) i = rw x.0 (rw x.1 (seven (eqb i 0)))
  where
    seven : (x : Bool) → cond {A = ℕ} x 7 0 ≡ cond {A = ℕ} x 7 (cond {A = ℕ} x 9 0)
    seven true = refl
    seven false = refl

paired : Repaired 1 no_frames pair (on a5) (on b6)
paired = record { one_right = pair_right; one_left = pair_left; new = λ f f' x. inr (pair_words f f' x); stays = λ f f' x. absurd x }

unpaired : Unpaired pair 1 5
unpaired = (
  λ f x. elim x [ inl z ↦ let z0 = z.0 in omega arith | inr z ↦ let z0 = z.0 in omega arith ],
  λ f x. elim x [ inl z ↦ let z0 = z.1 in omega arith | inr z ↦ let z0 = z.1 in omega arith ],
)

own_pair : (v f f' : ℕ) → upper 0 v ≡ 0 → inside 0 2 v ≡ 0 + f → inside 0 107 v ≡ 100 + f' → pair f f'
unfolding inside
own_pair v f f' e i j = inl (omega arith, omega arith)

lent_pair : (v f f' : ℕ) → upper 0 v ≡ 1 → inside 0 4 v ≡ 0 + f → inside 0 103 v ≡ 100 + f' → pair f f'
unfolding inside
lent_pair v f f' e i j = inr (omega arith, omega arith)

abbrev pub program : Program
program [] = write 0 5 42
program (x ∷ []) = read reading 0 5
program (x ∷ (y ∷ [])) = read reading 1 0
program (x ∷ (y ∷ (z ∷ xs))) = ask 9

-- before the program begins: each computer for itself, until there are two pairs; then both enter the pages, and the host stores to the
-- one that is lent
apart : Two 1 no_frames (on a0) (on b0) pair (on a5) (on b6)
unfolding inside upd
apart =
    right (moves b1 (open_space 2 (new 2 9) b_opens)) (λ a. a) (λ f f' i (x : no_frames f f'). absurd x) (
    right (moves b2 (hand 3 2 refl (λ i. refl))) (λ a. a) (λ f f' i (x : no_frames f f'). absurd x) (
    left (moves a1 (open_space 1 (new 1 1) a_opens)) (λ a. a) (λ f f' i (x : no_frames f f'). absurd x) (
    right (moves b3 (open_space 1 (new 1 5) b_opens_1)) (λ a. a) (λ f f' i (x : no_frames f f'). absurd x) (
    left (moves a2 (hand 2 1 refl (λ i. refl))) (λ a. a) (λ f f' i (x : no_frames f f'). absurd x) (
    left (moves a3 (hand 4 2 refl (λ i. refl))) (λ a. a) (λ f f' i (x : no_frames f f'). absurd x) (
    right (moves b4 (hand 7 1 refl (λ i. refl))) (λ a. a) (λ f f' i (x : no_frames f f'). absurd x) (
    right (moves (store b4 3 0 9) (put 3 0 9 refl)) (λ a. a) (λ f f' i (x : no_frames f f'). absurd x) (
    right (moves b5 (put 3 0 7 refl)) (λ a. a) (λ f f' i (x : no_frames f f'). absurd x) (
    left (moves a4 (put 4 0 7 refl)) (λ a. a) (λ f f' i (x : no_frames f f'). absurd x) (
    right (moves b6 (lend 3 1 1 b_lends)) (λ a. a) (λ f f' i (x : no_frames f f'). absurd x) (
    left (moves a5 (lend 4 1 1 a_lends)) (λ a. a) (λ f f' i (x : no_frames f f'). absurd x) (
    repairs paired ends))))))))))))

together : Two 1 pair (on a5) (on b6) pair (on a8) (on b9)
unfolding upd
together =
    both (moves a6 (enter 1 1 0 0 (word_for 2) 2 3 a_enters)) (moves b7 (enter 5 1 0 0 (word_for 107) 107 3 b_enters))
    (entered 1 5 0 0 (word_for 2) (word_for 107) 2 107 3 a_enters b_enters unpaired own_pair) (
    both (moves a7 (enter 1 1 0 1 (word_to_read 4) 4 1 a_enters_1)) (moves b8 (enter 5 1 0 1 (word_to_read 103) 103 1 b_enters_1))
    (entered 1 5 0 1 (word_to_read 4) (word_to_read 103) 4 103 1 a_enters_1 b_enters_1 unpaired lent_pair) (
    both {R = pair} (moves a8 (put 4 0 8 refl)) (moves b9 (put 3 0 8 refl)) (put_both 4 3 0 8 refl refl (inr (refl, refl))) ends))

-- its pages, when it stores and when it reads
a_at : At (on a8) 1 0 (0 + 2) 3
unfolding descriptor rights_of upd upd2 upper inside
a_at = read_off 0 1 1 2 (from_root {h = 0} {p = 0} refl refl (omega arith) refl) refl (omega arith) refl refl

b_at : At (on b9) 1 0 (100 + 7) 3
unfolding descriptor rights_of upd upd2 upper inside
b_at = read_off 0 105 5 107 (from_root {h = 0} {p = 0} refl refl (omega arith) refl) refl (omega arith) refl refl

a_at_0 : At (on a9) 1 0 (0 + 2) 3
unfolding descriptor rights_of upd upd2 upper inside
a_at_0 = read_off 0 1 1 2 (from_root {h = 0} {p = 0} refl refl (omega arith) refl) refl (omega arith) refl refl

b_at_0 : At (on b10) 1 0 (100 + 7) 3
unfolding descriptor rights_of upd upd2 upper inside
b_at_0 = read_off 0 105 5 107 (from_root {h = 0} {p = 0} refl refl (omega arith) refl) refl (omega arith) refl refl

a_at_1 : At (on a9) 1 1 (0 + 4) 1
unfolding descriptor rights_of upd upd2 upper inside
a_at_1 = read_off 0 1 1 4 (from_root {h = 0} {p = 0} refl refl (omega arith) refl) refl (omega arith) refl refl

b_at_1 : At (on b11) 1 1 (100 + 3) 1
unfolding descriptor rights_of upd upd2 upper inside
b_at_1 = read_off 0 105 5 103 (from_root {h = 0} {p = 0} refl refl (omega arith) refl) refl (omega arith) refl refl

-- the host stores to frame 12 of the second
elsewhere : LeavesSecond pair (on b10) (on b11)
unfolding upd upd2
elsewhere f f' i (inl x) = rw x.1 refl
elsewhere f f' i (inr x) = rw x.1 refl

after : Two 1 pair (on a9) (on b10) pair (on a9) (on b11)
unfolding upd upd2
after = right (moves b11 (put 12 0 99 refl)) (λ a. a) elsewhere ends

pub two_computers : Loop program 1 no_frames [] (on a0) [] (on b0) pair (told 6 ∷ (got 8 ∷ (got 42 ∷ (done ∷ [])))) (on a9)
    (told 6 ∷ (got 8 ∷ (got 42 ∷ (done ∷ [])))) (on b11)
unfolding upd upd2 byte_of put_byte apart together after
two_computers =
    meanwhile apart (tt, (tt, (tt, (tt, (tt, (tt, (tt, (tt, (tt, (tt, (tt, (tt, tt))))))))))))
    (meanwhile together (tt, (tt, (tt, (tt, (tt, (tt, tt))))))
    (acts (writes 0 5 42 2 3 refl (omega arith) a_at refl) (writes 0 5 42 7 3 refl (omega arith) b_at refl) (inl refl)
    (acts (reads reading 0 5 2 3 refl (omega arith) a_at_0 refl) (reads reading 0 5 7 3 refl (omega arith) b_at_0 refl) (inl refl)
    (meanwhile after (tt, tt)
    (acts (reads reading 1 0 4 1 refl (omega arith) a_at_1 refl) (reads reading 1 0 3 1 refl (omega arith) b_at_1 refl) (inl refl)
    (tells 6 rests))))))

-- they start as the theorem asks
pub first_starts : Start (on a0)
first_starts = starts 0 (λ f i. 0)

pub second_starts : Start (on b0)
second_starts = starts 100 (λ f i. cond (ltb f 8) 0 8)

pub first_bounded : Bounded (on a0)
first_bounded = bounded 0 (λ f i. 0)

pub second_bounded : Bounded (on b0)
second_bounded = bounded 100 (λ f i. cond (ltb f 8) 0 8)
