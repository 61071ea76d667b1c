-- The steps can be made: where a guest reaches a byte for writing it can store there; the host can load a byte where no table is; and
-- where a
-- function has answered, there is the step of its call, whatever the processor had kept: the operation's stores are a path of moves.
use Rattle.std.specs.Prelude.{◌≡◌, refl, List, ℕ, ◌+◌, ◌*◌, ◌<◌, length, get_or, set}
use Rattle.std.proofs.Common.{arith, get_or-set_same}
use Rattle.model.specs.Cache.{writing}
use Rattle.ledger.specs.Layout.{size_of, first_of}
use Rattle.monitor.specs.Answers.{Answers}
use Rattle.isolation_runs.specs.Calls.{Call, defined}
use Rattle.isolation_runs.specs.Slices.{Slices, Reaches, Byte, Beside, Step, called, stored, loaded_byte, Run, Begun}
use Rattle.isolation_runs.proofs.Laws.Runs.{always_fits, always_sound}
use Rattle.isolation_runs.proofs.Laws.Possible.{still_bytes, call_goes}

module _ {x y : Slices} (begun : Begun x) (run : Run x y) where
  -- the slices with byte o of frame f stored
  with_byte : (f o b : ℕ) → f < size_of y.ledger → o < 4096 → b < 256 →
      (z : Slices) × Byte f o b y z × (get_or z.ram (f * 4096 + o) 0 ≡ b)
  with_byte f o b low inside small = (
    record {
      ram = set y.ram (f * 4096 + o) b;
      ledger = y.ledger;
      bytes = still_bytes y.ram (f * 4096 + o) b room small y.bytes;
      caches = y.caches;
    },
    record { in_ram = low; in_frame = inside; is_byte = small; ram_after = refl; ledger_after = refl; caches_after = refl },
    get_or-set_same y.ram (f * 4096 + o) b 0 room,
  )
    where
      room : f * 4096 + o < length y.ram
      room = let a = (always_sound begun run).ram_fits in omega arith

  pub can_store : (g f o b : ℕ) → f < size_of y.ledger → o < 4096 → b < 256 →
      Reaches y g writing ((first_of y.ledger + f) * 4096 + o) →
      (z : Slices) × Step y z × (get_or z.ram (f * 4096 + o) 0 ≡ b)
  can_store g f o b low inside small r = let a = with_byte f o b low inside small in (a.0, stored g f o b a.1 r, a.2)

  pub can_load : (f o b : ℕ) → f < size_of y.ledger → o < 4096 → b < 256 → Beside y f →
      (z : Slices) × Step y z × (get_or z.ram (f * 4096 + o) 0 ≡ b)
  can_load f o b low inside small s = let a = with_byte f o b low inside small in (a.0, loaded_byte f o b a.1 s, a.2)

  pub can_call : (c : Call) (r : ℕ) (ram ledger : List ℕ) → ((i : ℕ) → get_or ram i 0 < 256) →
      Answers (defined c) y.ram y.ledger r ram ledger →
      (z : Slices) × Step y z × (z.ram ≡ ram) × (z.ledger ≡ ledger)
  can_call c r ram ledger bytes a =
      let s = call_goes y (always_fits begun run) c r ram ledger bytes a in (s.0, called c r s.1, s.2, s.3)
