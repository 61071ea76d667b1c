-- Laws of specs/SetUp.
use mathlib.Core.Path.{◌≡◌, refl, ap}
use mathlib.Core.Bool.{Bool, true, ◌&&◌}
use mathlib.Core.List.{List}
use Prim.Native.Nat.{ℕ, ◌+◌, ◌*◌, ◌<◌, ◌≤◌, ◌/◌}
use native.Mathlib.Omega.{arith}
use lib.Dec.{eqb, ltb}
use lib.ListN.{length}
use borrow.Author.Tests.{ltb-true, eqb-true, lt-ltb, eq-eqb}
use Rattle.memory.specs.Ram.{frame_bytes, most_frames, ram_fits}
use Rattle.memory.proofs.Laws.Ram.{fits_so}
use Rattle.model.proofs.Laws.Base.{and_true}
use Rattle.model.specs.State.{State, page_count}
use Rattle.model.specs.Operations.{done, refusal, check, set_up, started}
use Rattle.model.proofs.Invariant.Holds.{started_core}
use Rattle.ledger.specs.Layout.{words_for, size_of, word_of, state_in}
use Rattle.ledger.specs.Columns.{room_for_frames}
use Rattle.ledger_free.specs.Start.{LaidOut}
use Rattle.monitor_contract.proofs.Laws.Answers.{goes_on, through, and_both}
use Rattle.monitor.specs.SetUp.{slices_fit, setting_up, SetUp}

pub few_enough : (b n : ℕ) → ram_fits b n ≡ true → n ≤ most_frames
few_enough b n e = (fits_so b n e).most

-- one of the tests fails, or all hold
module _ (b n k : ℕ) (m l : List ℕ) where
  abbrev Slices : Bool
  Slices = slices_fit n m l

  pub lengths_fit : length m ≡ n * frame_bytes → length l ≡ words_for n → Slices ≡ true
  unfolding slices_fit
  lengths_fit ram ledger = and_both _ _ (eq-eqb (length m) (n * frame_bytes) ram) (eq-eqb (length l) (words_for n) ledger)

  abbrev All : Bool
  All = Slices && ram_fits b n && ltb k n

  pub fits_all : Slices ≡ true → ram_fits b n ≡ true → k < n → 0 ≡ refusal (setting_up b n k m l)
  unfolding set_up
  fits_all slices place few =
      goes_on All 4 (done (started b n k (word_of m))) (and_both _ _ (and_both _ _ slices place) (lt-ltb k n few)) refl

  module _ (h : refusal (setting_up b n k m l) ≡ 0) where
    all_fit : All ≡ true
    unfolding set_up
    all_fit = (through All 4 _ (omega arith) h).0

    tests : (Slices ≡ true) × (ram_fits b n ≡ true)
    tests = and_true Slices (ram_fits b n) (and_true (Slices && ram_fits b n) (ltb k n) all_fit).0

    lengths : (length m ≡ n * frame_bytes) × (length l ≡ words_for n)
    unfolding slices_fit
    lengths =
        let a = and_true (eqb (length m) (n * frame_bytes)) (eqb (length l) (words_for n)) tests.0 in
        (eqb-true (length m) (n * frame_bytes) a.0, eqb-true (length l) (words_for n) a.1)

    pub set_up_ready : (length l ≡ words_for n) × (n ≤ room_for_frames) × (k < n)
    set_up_ready =
        let c = few_enough b n tests.1 in
        (lengths.1, omega arith, ltb-true k n (and_true (Slices && ram_fits b n) (ltb k n) all_fit).1)

    pub set_up_end : (l' : List ℕ) → LaidOut b n k l' → SetUp b n k m l 0 l'
    set_up_end l' x = record {
      sound = λ _. record {
        ledger_sound = x.ledger_sound;
        ram_fits = fits;
        core = rw (x.state m) (started_core n k b (word_of m) room);
      };
      outcome = rw made (refl, x.state m);
    }
      where
        made : setting_up b n k m l ≡ done (started b n k (word_of m))
        made = unfold set_up check in rw all_fit

        room : b / frame_bytes + n ≤ page_count
        room = let e = (fits_so b n tests.1).low in omega arith

        fits : length m ≡ size_of l' * frame_bytes
        fits =
            let e : size_of l' ≡ n = unfold state_in started in ap (λ (s : State). s.size) (x.state m) in
            let a = lengths.0 in
            omega arith
