-- Words for the loop closed: a guest is a program, which acts by what it has learnt; and two computers on which it runs.
use Rattle.std.specs.Prelude.{◌≡◌, true, ◌⊎◌, List, ◌∷◌, ℕ, ◌+◌, ◌<◌}
use Rattle.model.specs.Cache.{Access, writing, grants}
use Rattle.model_moves.specs.Machine.{Machine, with_spaces, byte_stored, Step, moves, reports, looks, stores}
use Rattle.model_two_computers.specs.Terms.{Frames, Two, ends, left, right, both, repairs, At, Settled, byte}

-- read byte o of page v, for this access (reading, or executing); store b there; ask the monitor, or the host, for something, or wait
pub data Act : Type 0 where
  read : (w : Access) (v o : ℕ) → Act
  write : (v o b : ℕ) → Act
  ask : (n : ℕ) → Act

-- what it learns: a byte that it read; that it has stored; that a page is not there for it; what it is told
pub data News : Type 0 where
  got : (b : ℕ) → News
  done fault : News
  told : (a : ℕ) → News

-- what it does next, by what it has learnt, the last first
abbrev pub Program : Type 0
Program = List News → Act

-- the act needs page v for access w
abbrev pub Needs : Act → (w : Access) (v : ℕ) → Type 0
Needs (read w v o) w' v' = (w ≡ w') × (v ≡ v')
Needs (write v o b) w' v' = (writing ≡ w') × (v ≡ v')
Needs (ask n) w' v' = ⊥

pub data Outcome : Type 0 where
  served refused : Outcome

-- The program, having learnt xs, does on machine m what it does next; then it has learnt this, and the machine is that.
-- It is refused where neither the tables nor anything that was kept grant it.
pub data Acts (p : Program) (c : ℕ) (xs : List News) (m : Machine) : Outcome → List News → Machine → Type 1 where
  reads : (w : Access) (v o f r : ℕ) → p xs ≡ read w v o → o < 4096 → At m c v (m.spaces.first + f) r → grants r w ≡ true →
      Acts p c xs m served (got (byte m.spaces f o) ∷ xs) m
  writes : (v o b f r : ℕ) → p xs ≡ write v o b → o < 4096 → At m c v (m.spaces.first + f) r → grants r writing ≡ true →
      Acts p c xs m served (done ∷ xs) (with_spaces m (byte_stored m.spaces f o b))
  faults : (w : Access) (v : ℕ) → Needs (p xs) w v → ((x r : ℕ) → At m c v x r → grants r w ≡ true → ⊥) →
      Acts p c xs m refused (fault ∷ xs) m

-- the page that the act needs is settled on both
abbrev pub SettledOn : (y z : Machine) (c : ℕ) → Act → Type 0
SettledOn y z c (read w v o) = Settled y c v × Settled z c v
SettledOn y z c (write v o b) = Settled y c v × Settled z c v
SettledOn y z c (ask n) = ⊥

-- not a store of c
abbrev pub NotBy : {m z : Machine} → Step m z → (c : ℕ) → Type 0
NotBy (moves s a) c = Unit {0}
NotBy (reports d R D r) c = Unit {0}
NotBy (looks k l) c = Unit {0}
NotBy (stores d f o b l a) c = d ≡ c → ⊥

-- steps of two computers in which c stores nothing
abbrev pub Meanwhile : {c : ℕ} {R R' : Frames} {y z y' z' : Machine} → Two c R y z R' y' z' → Type 0
Meanwhile ends = Unit {0}
Meanwhile {c} (left t n w k) = NotBy t c × Meanwhile k
Meanwhile {c} (right t n w k) = NotBy t c × Meanwhile k
Meanwhile {c} (both t u s k) = NotBy t c × (NotBy u c × Meanwhile k)
Meanwhile (repairs q k) = Meanwhile k

-- Two computers with the program: it acts on each, by what it has learnt there, xs on the first and ys on the second; it is told
-- something; and in between come steps as in TwoComputers.
pub data Loop (p : Program) (c : ℕ) : (R : Frames) (xs : List News) (y : Machine) (ys : List News) (z : Machine) (R' : Frames)
    (xs' : List News) (y' : Machine) (ys' : List News) (z' : Machine) → Type 1 where
  rests : {R : Frames} {xs ys : List News} {y z : Machine} → Loop p c R xs y ys z R xs y ys z
  acts : {R R' : Frames} {xs ys xs₁ ys₁ xs' ys' : List News} {y z y₁ z₁ y' z' : Machine} {k k' : Outcome} → Acts p c xs y k xs₁ y₁ →
      Acts p c ys z k' ys₁ z₁ → (k ≡ k') ⊎ SettledOn y z c (p xs) →
      Loop p c R xs₁ y₁ ys₁ z₁ R' xs' y' ys' z' → Loop p c R xs y ys z R' xs' y' ys' z'
  tells : {R R' : Frames} {xs ys xs' ys' : List News} {y z y' z' : Machine} (a : ℕ) →
      Loop p c R (told a ∷ xs) y (told a ∷ ys) z R' xs' y' ys' z' → Loop p c R xs y ys z R' xs' y' ys' z'
  meanwhile : {R R₁ R' : Frames} {xs ys xs' ys' : List News} {y z y₁ z₁ y' z' : Machine} (t : Two c R y z R₁ y₁ z₁) → Meanwhile t →
      Loop p c R₁ xs y₁ ys z₁ R' xs' y' ys' z' → Loop p c R xs y ys z R' xs' y' ys' z'
