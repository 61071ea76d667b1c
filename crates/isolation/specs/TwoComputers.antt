-- The words of the theorem on two computers, which stands in proofs/Theorems/TwoComputers: steps of the two, and what corresponds.
use Rattle.std.specs.Prelude.{◌≡◌, false, ◌⊎◌, ℕ}
use Rattle.model.specs.State.{State}
use Rattle.model.specs.Machine as M
use Rattle.model_noninterference.specs.TwoRunsTerms.{shown}
use Rattle.model_noninterference.specs.ApartTerms as T
use Rattle.ledger.specs.Layout.{state_of, pick_of}
use Rattle.isolation_runs.specs.Calls.{Call, in_model}
use Rattle.isolation_runs.specs.Coarse.{Slices, Called, Stored}

-- the state of the slices, and the model's name for a call on them
abbrev pub state : Slices → State
state x = state_of x.ram x.ledger

abbrev pub asked : Slices → Call → M.Operation
asked x c = in_model c (pick_of x.ledger)

-- Steps of the two, and which frame of one corresponds to which of the other before and after them.
-- One alone: a call that does not concern g, or that is refused; a store to a frame that g may not read.
-- Both: calls for g that match, each answered with 0; the same store to frames that correspond.
pub data Apart (g : ℕ) : (R : T.Frames) (x y : Slices) (R' : T.Frames) (x' y' : Slices) → Type 1 where
  first_calls : {R : T.Frames} {x y x' : Slices} (c : Call) (r : ℕ) → Called c r x x' → (T.concerns g (asked x c) ≡ false) ⊎ (r ≡ 0 → ⊥) →
      Apart g R x y R x' y
  second_calls : {R : T.Frames} {x y y' : Slices} (c : Call) (r : ℕ) → Called c r y y' →
      (T.concerns g (asked y c) ≡ false) ⊎ (r ≡ 0 → ⊥) → Apart g R x y R x y'
  both_call : {R : T.Frames} {x y x' y' : Slices} (c c' : Call) → Called c 0 x x' → Called c' 0 y y' →
      T.Matches g R (state x) (state y) (asked x c) (asked y c') →
      Apart g R x y (T.after g R (asked x c) (asked y c') (state x') (state y')) x' y'
  first_stores : {R : T.Frames} {x y x' : Slices} (h f o b : ℕ) → Stored h f o b x x' → shown (state x) g f ≡ false → Apart g R x y R x' y
  second_stores : {R : T.Frames} {x y y' : Slices} (h f o b : ℕ) → Stored h f o b y y' → shown (state y) g f ≡ false → Apart g R x y R x y'
  both_store : {R : T.Frames} {x y x' y' : Slices} (h h' f f' o b : ℕ) → Stored h f o b x x' → Stored h' f' o b y y' → R f f' →
      Apart g R x y R x' y'

pub data RunsApart (g : ℕ) : (R : T.Frames) (x y : Slices) (R' : T.Frames) (x' y' : Slices) → Type 1 where
  stop : {R : T.Frames} {x y : Slices} → RunsApart g R x y R x y
  then : {R R' R'' : T.Frames} {x y x' y' x'' y'' : Slices} → Apart g R x y R' x' y' → RunsApart g R' x' y' R'' x'' y'' →
      RunsApart g R x y R'' x'' y''
