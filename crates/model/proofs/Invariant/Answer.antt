-- A property of the state after an operation, where it is answered: proofs follow the operation's text, check by check.
use mathlib.Core.Path.{◌≡◌, refl}
use mathlib.Core.Bool.{Bool, true, false, ◌&&◌, ◌||◌}
use mathlib.Core.Logic.{inl, inr}
use Prim.Native.Nat.{ℕ}
use native.Mathlib.Omega.{arith}
use Rattle.model.proofs.Laws.Base.{and_true}
use Rattle.model.specs.State.{State, is_page, is_page_of}
use Rattle.model.specs.Operations.{Out, refuse, done, check, shares, may_map}
use Rattle.model.specs.Cache.{Caches, nothing_kept}
use Rattle.model.proofs.Invariant.Kinds.{page_of_is, page_is}
use Rattle.model.specs.Invariant.{May, Core, Kept}

pub data Then (P : State → Type 0) : Out → Type 0 where
  then_refuse : {a : ℕ} → Then P (refuse a)
  then_done : {s : State} → P s → Then P (done s)

pub checked : {P : State → Type 0} {b : Bool} (a : ℕ) {o : Out} → (b ≡ true → Then P o) → Then P (check b a o)
unfolding check
checked {P} {b} a {o} h = go b h
  where
    go : (b : Bool) → (b ≡ true → Then P o) → Then P (check b a o)
    go true h = h refl
    go false h = then_refuse

pub then_is : {P : State → Type 0} (o : Out) (s : State) → Then P o → o ≡ done s → P s
then_is {P} (refuse a) s h e = let z : ◌≡◌ {A = ℕ} 0 1 = cc in absurd (omega arith)
then_is {P} (done s') s (then_done h) e = let q : s' ≡ s = cc in rw q at h

pub then_more : {P Q : State → Type 0} (o : Out) → ((s : State) → P s → Q s) → Then P o → Then Q o
then_more (refuse a) f h = then_refuse
then_more (done s) f (then_done h) = then_done (f s h)

-- the ledger, the tables and what is kept, after an operation
pub record Sound (k : Caches) (s : State) : Type 0 where
  pub core : Core s
  pub kept : Kept s k

abbrev pub Good : Caches → Out → Type 0
Good k o = Then (Sound k) o

-- no cache is needed to keep Core
pub core_alone : (s : State) (o : Out) → ((k : Caches) → Kept s k → Good k o) → Then Core o
core_alone s o h = then_more o (λ s x. x.core) (h nothing_kept
    (record {
      table_ok = λ g h p x a. absurd a;
      page_ok = λ g v x r a. absurd a;
      table_now = λ g h p x d a. absurd a;
      page_now = λ g v x r d a. absurd a;
    }))

-- what the test of map says
pub may_is : (s : State) (g f r : ℕ) → may_map s f g r ≡ true → May s g f r
unfolding may_map
may_is s g f r e = go (is_page_of (s.kind f) g) refl e
  where
    go : (b : Bool) → is_page_of (s.kind f) g ≡ b → (b || (is_page (s.kind f) && shares (s.shared f g) r)) ≡ true → May s g f r
    go true q e = inl (page_of_is (s.kind f) g q)
    go false q e =
        let a = and_true (is_page (s.kind f)) (shares (s.shared f g) r) e in
        let b = page_is (s.kind f) a.0 in
        inr (b.0, b.1, a.1)
