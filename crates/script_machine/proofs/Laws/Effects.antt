-- Where a word of RAM is in its slice; and what each command did, from what its callees ensure.
use Prim.Native.Nat.{ℕ, ◌+◌, ◌-◌, ◌*◌, ◌/◌, ◌%◌, ◌≤◌, ◌<◌, ◌^◌}
use mathlib.Core.Path.{◌≡◌, refl, sym, ap, subst, ◌∙◌}
use mathlib.Core.Bool.{Bool, true, false, not, cond, ◌&&◌, ◌||◌}
use mathlib.Core.List.{List, ◌++◌}
use native.Mathlib.Omega.{arith}
use Rattle.std.proofs.Common.{Some, None}
use lib.Dec.{leb, ltb}
use lib.ListN.{length, take, drop}
use lib.Seq.{length-take-le, length_front, take_at, drop_at, take-set-lt}
use borrow.Author.Tests.{leb-true, ltb-true}
use Rattle.memory.specs.Ram.{frame_bytes, ram_fits}
use Rattle.memory.proofs.Laws.Ram.{RamFits, fits as place_fits, fits_so}
use Rattle.memory.specs.Word.{stored_at, cleared_at}
use Rattle.memory.proofs.Laws.Words.{length_kept, cleared_length}
use Rattle.model.specs.State.{tabled}
use Rattle.ledger.specs.Layout.{words_for, first_of, kind_of}
use Rattle.ledger.specs.Sound.{Sound}
use Rattle.ledger.proofs.Laws.Beside.{word_beside}
use Rattle.monitor.specs.Answers as A
use Rattle.monitor.specs.SetUp as S
use Rattle.monitor.proofs.Laws.SetUp.{lengths_fit, fits_all}
use Rattle.script_language.specs.declared.Operation.{Operation}
use Rattle.script_language.specs.declared.Command.TheVariants.{SetUp, StoreWord, Operate}
use Rattle.script_machine.specs.declared.Machine.{Machine}
use Rattle.script_machine.specs.declared.Reply.TheVariants.{Done, Number}
use Rattle.script_machine.specs.Operations.{operation}
use Rattle.script_machine.specs.Machine.{word_bytes, RamLent, MachineSound, allowed_of, word_in_ram, word_in_table, ram_of, ledger_of, outcome, machine_of, SetupDone, OperationDone, Executed}
use Rattle.script_machine.proofs.Laws.Parts.{ledger_within}
use Rattle.script_machine.proofs.Laws.Based.{first_kept, started_so}

both : (x y : Bool) → (x && y) ≡ true → (x ≡ true) × (y ≡ true)
both true y e = (refl, e)
both false y e = (e, let z : ◌≡◌ {A = Bool} false true = e in cc)

neither : (x y : Bool) → not (x || y) ≡ true → (x ≡ false) × (y ≡ false)
neither true y e = (let z : ◌≡◌ {A = Bool} false true = e in cc, let z : ◌≡◌ {A = Bool} false true = e in cc)
neither false true e = (refl, let z : ◌≡◌ {A = Bool} false true = e in cc)
neither false false e = (refl, refl)

-- a word that has a place in RAM
pub placed : (m : Machine) (a at : ℕ) → Some at ≡ cond (word_in_ram m a) (Some (a - m.base)) None
    → (word_in_ram m a ≡ true) × (at ≡ a - m.base)
placed m a at e = go (word_in_ram m a) e
  where
    go : (t : Bool) → Some at ≡ cond t (Some (a - m.base)) None → (t ≡ true) × (at ≡ a - m.base)
    go true e = (refl, cc)
    go false e = cc

-- and where it is in the slice
pub place : (m : Machine) (a : ℕ) → word_in_ram m a ≡ true → (m.base ≤ a) × (a - m.base + word_bytes ≤ frame_bytes * m.frames)
unfolding word_in_ram
place m a e =
    let p = both (leb m.base a) (leb (a + word_bytes) (m.base + frame_bytes * m.frames)) e in
    let low : m.base ≤ a = leb-true _ _ p.0 in
    let high : a + word_bytes ≤ m.base + frame_bytes * m.frames = leb-true _ _ p.1 in
    (low, omega arith)

-- what `setup` takes
pub record Allowed (lent words n b k : ℕ) : Type 0 where
  pub ram : RamFits b n
  pub enough : n ≤ lent
  pub room : words_for n ≤ words
  pub fewer : k < n

pub allowed : (lent words n b k : ℕ) → allowed_of lent words n b k ≡ true → Allowed lent words n b k
unfolding allowed_of
allowed lent words n b k e =
    let p3 = both (ram_fits b n && leb n lent && leb (words_for n) words) (ltb k n) e in
    let p2 = both (ram_fits b n && leb n lent) (leb (words_for n) words) p3.0 in
    let p1 = both (ram_fits b n) (leb n lent) p2.0 in
    record {
      ram = fits_so b n p1.0;
      enough = leb-true _ _ p1.1;
      room = leb-true _ _ p2.1;
      fewer = ltb-true _ _ p3.1;
    }

-- a part that was lent is back: it is in its place, and the rest is as it was
module _ (n : ℕ) (xs ys : List ℕ) (low : n ≤ length xs) (len : length ys ≡ length (take n xs)) where
  back : take n (ys ++ drop n xs) ≡ ys
  back = take_at ys (drop n xs) n (len ∙ length-take-le n xs low)

  rest : drop n (ys ++ drop n xs) ≡ drop n xs
  rest = drop_at ys (drop n xs) n (len ∙ length-take-le n xs low)

module _ (o : Operation) (m : Machine) (ram l : List ℕ) (kept : MachineSound m ram l) (h : m.ready ≡ true) where
  pub operated : (k : ℕ) (ram₁ l₁ ram' l' : List ℕ)
      → A.Answers (operation o) (ram_of m ram) (ledger_of m l) k ram₁ l₁
      → length ram₁ ≡ length (ram_of m ram) → length l₁ ≡ length (ledger_of m l)
      → ram' ≡ ram₁ ++ drop (frame_bytes * m.frames) ram → l' ≡ l₁ ++ drop (words_for m.frames) l
      → Executed (Operate o) m ram l ram' l' (outcome m (Number k))
  operated k ram₁ l₁ ram' l' x a b e f = record {
    effect = rw h (k, refl, record { answers = done.answers; ram_rest = done.ram_rest; ledger_rest = done.ledger_rest });
    machine_sound = record { within = within; sound = λ _. rw (ram_is, ledger_is) x.sound; based = λ _. rw ledger_is based };
  }
    where
      within : RamLent m ram'
      within =
          let w = kept.within in
          let n = ap (λ (z : List ℕ). length z) e ∙ length_front ram ram₁ (frame_bytes * m.frames) a in
          omega arith

      ram_is : take (frame_bytes * m.frames) ram' ≡ ram₁
      ram_is = rw e (back _ ram ram₁ kept.within a)

      ledger_is : take (words_for m.frames) l' ≡ l₁
      ledger_is = rw f (back _ l l₁ (ledger_within kept h) b)

      done : OperationDone o m ram l k ram' l'
      done = record {
        answers = rw (ram_is, ledger_is) x;
        ram_rest = rw e (rest _ ram ram₁ kept.within a);
        ledger_rest = rw f (rest _ l l₁ (ledger_within kept h) b);
      }

      based : m.base ≡ frame_bytes * first_of l₁
      based =
          kept.based h
          ∙ ap (λ (z : ℕ). frame_bytes * z) (sym (first_kept (ram_of m ram) (ledger_of m l) (kept.sound h) o k ram₁ l₁ x))

-- the monitor's set-up of what was allowed is answered with 0
module _ (n b k : ℕ) (m : Machine) (ram l : List ℕ) (e : allowed_of (length ram / frame_bytes) (length l) n b k ≡ true) where
  abbrev fits : Allowed (length ram / frame_bytes) (length l) n b k
  fits = allowed (length ram / frame_bytes) (length l) n b k e

  pub begun : (answer : ℕ) (ram' l₁ l' : List ℕ) → ram' ≡ cleared_at ram 0 (frame_bytes * n)
      → S.SetUp b n k (take (frame_bytes * n) ram') (take (words_for n) l) answer l₁
      → length l₁ ≡ length (take (words_for n) l) → l' ≡ l₁ ++ drop (words_for n) l
      → Executed (SetUp n b k) m ram l ram' l' (outcome (machine_of b n true) (Number answer))
  begun answer ram' l₁ l' c x len f = record {
    effect = rw e (ap (λ (z : ℕ). outcome (machine_of b n true) (Number z)) zero, done);
    machine_sound = record { within = ram_within; sound = λ _. rw ledger_is (x.sound zero); based = λ _. rw ledger_is based };
  }
    where
      ledger_is : take (words_for n) l' ≡ l₁
      ledger_is = rw f (back _ l l₁ fits.room len)

      ram_within : frame_bytes * n ≤ length ram'
      ram_within =
          let a = fits.enough in
          let b = ap (λ (z : List ℕ). length z) c ∙ cleared_length ram 0 (frame_bytes * n) in
          omega arith

      made : (answer ≡ 0) × (first_of l₁ ≡ b / frame_bytes)
      made =
          let a = length-take-le (frame_bytes * n) ram' ram_within in
          let d = length-take-le (words_for n) l fits.room in
          started_so b n k (take (frame_bytes * n) ram') (take (words_for n) l) answer l₁
          (sym (fits_all b n k (take (frame_bytes * n) ram') (take (words_for n) l)
          (lengths_fit b n k (take (frame_bytes * n) ram') (take (words_for n) l) (omega arith) d)
          (place_fits b n fits.ram) fits.fewer)) x

      zero : answer ≡ 0
      zero = made.0

      done : SetupDone b n k ram l ram' l'
      done = record {
        cleared = c;
        started =
            rw ledger_is
            (subst (λ (z : ℕ). S.SetUp b n k (take (frame_bytes * n) ram') (take (words_for n) l) z l₁) zero x);
        rest = rw f (rest _ l l₁ fits.room len);
      }

      based : b ≡ frame_bytes * first_of l₁
      based = let e = made.1 in let f = fits.ram.aligned in omega arith

-- a word that is stored in a part
stored_part : (n : ℕ) (xs : List ℕ) (at v : ℕ) → at + word_bytes ≤ n → take n (stored_at xs at v) ≡ stored_at (take n xs) at v
unfolding stored_at
stored_part n xs at v h =
    rw (
      take-set-lt n _ (at + 7) (v / 2 ^ 56 % 256) (omega arith),
      take-set-lt n _ (at + 6) (v / 2 ^ 48 % 256) (omega arith),
      take-set-lt n _ (at + 5) (v / 2 ^ 40 % 256) (omega arith),
      take-set-lt n _ (at + 4) (v / 2 ^ 32 % 256) (omega arith),
      take-set-lt n _ (at + 3) (v / 2 ^ 24 % 256) (omega arith),
      take-set-lt n _ (at + 2) (v / 2 ^ 16 % 256) (omega arith),
      take-set-lt n _ (at + 1) (v / 2 ^ 8 % 256) (omega arith),
      take-set-lt n xs at (v % 256) (omega arith),
    )

module _ (m : Machine) (ram l : List ℕ) (kept : MachineSound m ram l) (a : ℕ) (e : word_in_ram m a ≡ true) where
  pub written : (v : ℕ) (t : Bool) → t ≡ (m.ready && not (word_in_table m l a))
      → Executed (StoreWord a v) m ram l (stored_at ram (a - m.base) v) l (outcome (machine_of m.base m.frames t) Done)
  written v t q = record {
    effect = rw e (ap (λ (z : Bool). outcome (machine_of m.base m.frames z) Done) q, refl, refl);
    machine_sound = record {
      within = let w = kept.within in let c = length_kept ram (a - m.base) v in omega arith;
      sound = λ z. sound (still z);
      based = λ z. kept.based (still z).0;
    };
  }
    where
      still : t ≡ true → (m.ready ≡ true) × (not (word_in_table m l a) ≡ true)
      still z = both m.ready (not (word_in_table m l a)) (sym q ∙ z)

      sound : (m.ready ≡ true) × (not (word_in_table m l a) ≡ true)
          → Sound (ram_of m (stored_at ram (a - m.base) v)) (ledger_of m l)
      sound z =
          let at = a - m.base in
          let n = neither (tabled (kind_of (ledger_of m l) (at / frame_bytes))) (tabled (kind_of (ledger_of m l) ((at + 7) / frame_bytes)))
          (unfold word_in_table in z.1) in
          rw (stored_part (frame_bytes * m.frames) ram at v (place m a e).1)
          (word_beside (ram_of m ram) (ledger_of m l) (kept.sound z.0) at v n.0 n.1)
