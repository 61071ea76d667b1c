-- What set_up checked stays: where RAM begins, and the number of its frames.
use mathlib.Core.Path.{◌≡◌, refl, sym, ap, ◌∙◌}
use mathlib.Core.Bool.{true, ◌&&◌}
use Prim.Native.Nat.{ℕ, ◌*◌, ◌≤◌}
use native.Mathlib.Omega.{arith}
use lib.Dec.{ltb}
use Rattle.memory.specs.Ram.{frame_bytes, fewest_frames, most_frames, ram_fits}
use Rattle.memory.proofs.Laws.Ram.{RamFits, fits_so}
use Rattle.model.proofs.Laws.Base.{and_true}
use Rattle.model.specs.State.{State}
use Rattle.model.specs.Operations.{done, started, set_up}
use Rattle.model.specs.Machine.{Machine, answer, stored, Run, SetUp}
use Rattle.model.proofs.Invariant.Answer.{Then, then_done, then_is, then_more, checked}
use Rattle.model.proofs.Invariant.Orderly.{orderly}
use Rattle.model.proofs.Invariant.Holds.{Holds, AnswersKeep, StoresKeep, run_keeps, set_up_holds}

-- RAM lies in the same place in both states
pub record SamePlace (s s' : State) : Type 0 where
  pub first : s'.first ≡ s.first
  pub size : s'.size ≡ s.size

run_same : {m z : Machine} → Run m z → Holds m → SamePlace m.state z.state
run_same {m} r h = run_keeps (SamePlace m.state) answered written r h (record { first = refl; size = refl })
  where
    answered : AnswersKeep (SamePlace m.state)
    answered s c p o ch = then_more (answer s o) (λ s' x. record { first = x.first ∙ p.first; size = x.size ∙ p.size })
        (orderly s c o ch)

    written : StoresKeep (SamePlace m.state)
    written m h p g f o x n b a = unfold stored in record { first = p.first; size = p.size }

-- RAM is one that document 01, section 1 describes
pub record Place (b n : ℕ) (s : State) : Type 0 where
  pub ram : RamFits b n
  pub base : b ≡ frame_bytes * s.first
  pub size : s.size ≡ n

module _ (b n k : ℕ) (w : ℕ → ℕ → ℕ) where
  started_place : (true && ram_fits b n && ltb k n) ≡ true → Place b n (started b n k w)
  unfolding started
  started_place q =
      let ram = fits_so b n (and_true (ram_fits b n) (ltb k n) q).0 in
      let whole = ram.aligned in
      record { ram = ram; base = omega arith; size = refl }

  set_up_place : (s : State) → set_up true b n k w ≡ done s → Place b n s
  set_up_place s e = then_is (set_up true b n k w) s accepted e
    where
      accepted : Then (Place b n) (set_up true b n k w)
      accepted = unfold set_up in checked 4 λ q. then_done (started_place q)

pub placed : {m z : Machine} (x : SetUp m) → Run m z → Place x.b x.n z.state
placed {m} {z} x r =
    let a = set_up_place x.b x.n x.k x.word m.state x.accepted in
    let b = run_same r (set_up_holds x) in
    record { ram = a.ram; base = a.base ∙ ap (λ (u : ℕ). frame_bytes * u) (sym b.first); size = b.size ∙ a.size }

-- so a number of frames that document 01 describes
pub frames_fit : {m z : Machine} → SetUp m → Run m z → (fewest_frames ≤ z.state.size) × (z.state.size ≤ most_frames)
frames_fit x r =
    let p = placed x r in
    let n = p.size in
    let l = p.ram.least in
    let h = p.ram.most in
    (omega arith, omega arith)
