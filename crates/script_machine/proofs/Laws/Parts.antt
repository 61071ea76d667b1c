-- The machine's parts of the lent slices: how long they are, and that there are none before a `setup`.
use mathlib.Core.Path.{◌≡◌, sym, ap, ◌∙◌}
use mathlib.Core.Bool.{true, false}
use mathlib.Core.Logic.{inl, inr}
use mathlib.Core.List.{List}
use Prim.Native.Nat.{ℕ, ◌*◌, ◌≤◌}
use native.Mathlib.Omega.{arith}
use lib.ListN.{length}
use lib.Seq.{length-take-le, take_all}
use Rattle.memory.specs.Ram.{frame_bytes}
use Rattle.model.proofs.Laws.Base.{lt?}
use Rattle.ledger.specs.Layout.{words_for, size_of}
use Rattle.script_machine.specs.declared.Machine.{Machine}
use Rattle.script_machine.specs.Machine.{ram_of, ledger_of, MachineSound}

-- how long the machine's part of a slice is
pub ram_part : {m : Machine} {ram l : List ℕ} → MachineSound m ram l → frame_bytes * m.frames ≡ length (ram_of m ram)
ram_part {m} {ram} k = sym (length-take-le (frame_bytes * m.frames) ram k.within)

-- of a machine that is ready: the ledger has a row for each of its frames, and is in the lent slice
module _ {m : Machine} {ram l : List ℕ} (k : MachineSound m ram l) (h : m.ready ≡ true) where
  pub size_is : size_of (ledger_of m l) ≡ m.frames
  size_is =
      let a : length (ram_of m ram) ≡ size_of (ledger_of m l) * frame_bytes = (k.sound h).ram_fits in
      let b = length-take-le (frame_bytes * m.frames) ram k.within in
      omega arith

  pub ledger_within : words_for m.frames ≤ length l
  ledger_within = elim (lt? (length l) (words_for m.frames)) [
    | inl s ↦
        let a : length (ledger_of m l) ≡ words_for (size_of (ledger_of m l)) = (k.sound h).ledger_sound.length_fits in
        let b = ap (λ (x : List ℕ). length x) (take_all (words_for m.frames) l (omega arith)) in
        let c = size_is in
        omega arith
    | inr s ↦ s
  ]

  pub ledger_part : words_for m.frames ≡ length (ledger_of m l)
  ledger_part = sym (length-take-le (words_for m.frames) l ledger_within)

-- before a `setup` there is nothing to count on
pub sound_before_setup : (m : Machine) (ram l : List ℕ) → m.frames ≡ 0 → m.ready ≡ false → MachineSound m ram l
sound_before_setup m ram l e h =
    record { within = omega arith; sound = λ t. absurd (no_bool (sym h ∙ t)); based = λ t. absurd (no_bool (sym h ∙ t)) }
  where
    no_bool : false ≡ true → ⊥
    no_bool e = let z : ◌≡◌ {A = ℕ} 0 1 = cc in omega arith
