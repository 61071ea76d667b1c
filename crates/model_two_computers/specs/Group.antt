-- Words for a group C of spaces, each with a program of its own: guests that share pages with one another, or a guest with its devices.
-- One correspondence of frames serves all members.
use Rattle.std.specs.Prelude.{◌≡◌, ◌⊎◌, List, ◌∷◌, ℕ}
use Rattle.model.specs.Base.{upd}
use Rattle.model_moves.specs.Machine.{Machine, Step}
use Rattle.model.specs.Cache.{reading, writing}
use Rattle.model_moves.specs.Terms.{Allowed}
use Rattle.model_two_computers.specs.Terms.{Frames, Repaired, Aside, LeavesFirst, LeavesSecond, Same}
use Rattle.model_two_computers.specs.Programs.{News, told, Program, Outcome, Acts, SettledOn, NotBy}

abbrev pub Group : Type 1
Group = ℕ → Type 0

-- as Two, for every member: a step of one computer alone is aside for all of them; a step of both is the same for one of them
pub data All (C : Group) : (R : Frames) (y z : Machine) (R' : Frames) (y' z' : Machine) → Type 1 where
  ends : {R : Frames} {y z : Machine} → All C R y z R y z
  left : {R R' : Frames} {y y₁ z y' z' : Machine} (t : Step y y₁) → ((c : ℕ) → C c → Aside t c) → LeavesFirst R y y₁ →
      All C R y₁ z R' y' z' → All C R y z R' y' z'
  right : {R R' : Frames} {y z z₁ y' z' : Machine} (t : Step z z₁) → ((c : ℕ) → C c → Aside t c) → LeavesSecond R z z₁ →
      All C R y z₁ R' y' z' → All C R y z R' y' z'
  both : {R R' : Frames} {y y₁ z z₁ y' z' : Machine} (t : Step y y₁) (u : Step z z₁) (c : ℕ) → C c → Same c R y z y₁ z₁ t u →
      All C R y₁ z₁ R' y' z' → All C R y z R' y' z'
  repairs : {R R₁ R' : Frames} {y z y' z' : Machine} → ((c : ℕ) → C c → Repaired c R R₁ y z) → All C R₁ y z R' y' z' → All C R y z R' y' z'

-- in which no member stores anything
abbrev pub Meanwhile : {C : Group} {R R' : Frames} {y z y' z' : Machine} → All C R y z R' y' z' → Type 0
Meanwhile ends = Unit {0}
Meanwhile {C} (left t n w k) = ((c : ℕ) → C c → NotBy t c) × Meanwhile k
Meanwhile {C} (right t n w k) = ((c : ℕ) → C c → NotBy t c) × Meanwhile k
Meanwhile {C} (both t u c i s k) = ((c : ℕ) → C c → NotBy t c) × (((c : ℕ) → C c → NotBy u c) × Meanwhile k)
Meanwhile (repairs q k) = Meanwhile k

-- what each member has learnt
abbrev pub Learnt : Type 0
Learnt = ℕ → List News

-- One member acts, on each computer by what it has learnt there; one is told something; and in between come other steps.
pub data Loops (p : ℕ → Program) (C : Group) : (R : Frames) (xs : Learnt) (y : Machine) (ys : Learnt) (z : Machine) (R' : Frames)
    (xs' : Learnt) (y' : Machine) (ys' : Learnt) (z' : Machine) → Type 1 where
  rests : {R : Frames} {xs ys : Learnt} {y z : Machine} → Loops p C R xs y ys z R xs y ys z
  acts : {R R' : Frames} {xs ys xs' ys' : Learnt} {us ws : List News} {y z y₁ z₁ y' z' : Machine} {k k' : Outcome} (c : ℕ) → C c →
      Acts (p c) c (xs c) y k us y₁ → Acts (p c) c (ys c) z k' ws z₁ → (k ≡ k') ⊎ SettledOn y z c (p c (xs c)) →
      Loops p C R (upd xs c us) y₁ (upd ys c ws) z₁ R' xs' y' ys' z' → Loops p C R xs y ys z R' xs' y' ys' z'
  tells : {R R' : Frames} {xs ys xs' ys' : Learnt} {y z y' z' : Machine} (c a : ℕ) → C c →
      Loops p C R (upd xs c (told a ∷ xs c)) y (upd ys c (told a ∷ ys c)) z R' xs' y' ys' z' → Loops p C R xs y ys z R' xs' y' ys' z'
  meanwhile : {R R₁ R' : Frames} {xs ys xs' ys' : Learnt} {y z y₁ z₁ y' z' : Machine} (t : All C R y z R₁ y₁ z₁) → Meanwhile t →
      Loops p C R₁ xs y₁ ys z₁ R' xs' y' ys' z' → Loops p C R xs y ys z R' xs' y' ys' z'

-- Where whoever may write what a member may read is a member, nobody outside stores to what a member may read: of guests' stores, nothing
-- is assumed.
abbrev pub Closed : (C : Group) → Machine → Type 0
Closed C m = (c d f : ℕ) → C c → Allowed m.spaces c f reading → Allowed m.spaces d f writing → C d
