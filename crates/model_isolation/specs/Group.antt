-- The loop closed for a group of spaces, each with a program of its own: guests that share pages with one another. Of members' stores
-- nothing is assumed; where whoever may write what a member reads is a member, of guests' stores nothing at all (outsiders_leave).
use Rattle.std.specs.Prelude.{◌≡◌, refl, [], ℕ}
use Rattle.model_moves.specs.Machine.{Machine}
use Rattle.model_moves.specs.Terms.{Bounded, Start}
use Rattle.model_two_computers.specs.Terms.{Frames, no_frames, At, Corresponds}
use Rattle.model_two_computers.proofs.Reading.{start_paired, both_read}
use Rattle.model_two_computers.specs.Programs.{Program}
use Rattle.model_two_computers.specs.Group.{Group, Learnt, Loops}
use Rattle.model_two_computers.proofs.Group.{loops_same}

-- Every member learns the same on both computers.
pub all_learn_the_same : {p : ℕ → Program} {C : Group} {R : Frames} {xs ys : Learnt} {m n y z : Machine} → Start m → Start n → Bounded m →
    Bounded n → Loops p C no_frames (λ c. []) m (λ c. []) n R xs y ys z →
    (c : ℕ) → C c → xs c ≡ ys c
all_learn_the_same {p} {C} u w by bz l = (loops_same p C (λ c i. refl) (λ c i. start_paired c u w) by bz l).0

-- And what each of them reads at a page lies at frames that correspond, which hold the same.
pub all_read_the_same : {p : ℕ → Program} {C : Group} {R : Frames} {xs ys : Learnt} {m n y z : Machine} → Start m → Start n → Bounded m →
    Bounded n → Loops p C no_frames (λ c. []) m (λ c. []) n R xs y ys z →
    (c : ℕ) → C c → (v x r x' r' : ℕ) → At y c v x r → At z c v x' r' → (r ≡ r') × Corresponds R y z x x'
all_read_the_same {p} {C} u w by bz l c i = both_read ((loops_same p C (λ c i. refl) (λ c i. start_paired c u w) by bz l).1 c i)
