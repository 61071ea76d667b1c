-- Contents, down to the bytes: byte o of frame f, of which the theorems on contents speak, is byte 4096 f + o of RAM.
-- Any state; any bytes m from physical address b on that hold its words, each below 256, as a slice of bytes has them; every frame and
-- offset.
-- Not empty: any RAM that set_up accepts holds the words of the state that set_up makes of it; and after any run some bytes hold the
-- state's words, if words were numbers of 64 bits at set_up.
use Rattle.std.specs.Prelude.{◌≡◌, true, List, ℕ, ◌+◌, ◌*◌, ◌<◌, ◌^◌, length, get_or}
use Rattle.memory.specs.Word.{word_at}
use Rattle.model.specs.State.{State, byte}
use Rattle.model.specs.Operations.{done, set_up}
use Rattle.model.specs.Machine.{Machine, SetUp, Run}
use Rattle.model.specs.Bytes.{Image}
use Rattle.model.proofs.Invariant.Holds.{set_up_holds}
use Rattle.model.proofs.Invariant.Numbers.{placed}
use Rattle.model.proofs.Invariant.Wide.{run_wide}
use Rattle.model.proofs.Invariant.Image.{byte_there, set_up_image, bytes_of, image_of, bytes_low}

pub ram_byte : {s : State} {b : ℕ} {m : List ℕ} → Image s b m → ((i : ℕ) → get_or m i 0 < 256) → (f o : ℕ) → f < s.size → o < 4096 →
    byte s f o ≡ get_or m (4096 * f + o) 0
ram_byte x h f o l k = byte_there x h f o l k

pub ram_at_set_up : (b n k : ℕ) (m : List ℕ) → length m ≡ 4096 * n → (s : State) →
    set_up true b n k (λ f i. word_at m (4096 * f + 8 * i)) ≡ done s → Image s b m
ram_at_set_up b n k m l s e = set_up_image b n k m l s e

pub ram_after : {y z : Machine} (x : SetUp y) → Run y z → ((f i : ℕ) → y.state.word f i < 2 ^ 64) →
    (m : List ℕ) × Image z.state x.b m × ((i : ℕ) → get_or m i 0 < 256)
ram_after {z} x r h = (
  bytes_of z.state,
  rw (placed x r).base (image_of z.state (run_wide r (set_up_holds x) h)),
  bytes_low z.state,
)
