-- The view of a state in which one frame has changed; and what the nine paths share.
use mathlib.Core.Path.{◌≡◌, refl}
use mathlib.Core.Bool.{Bool, true, false, ◌&&◌, cond}
use mathlib.Core.Logic.{inl, inr}
use Prim.Native.Nat.{ℕ, ◌+◌, ◌≤◌}
use native.Mathlib.Omega.{arith}
use lib.Dec.{eqb}
use Rattle.model.proofs.Laws.Base.{lt?}
use Rattle.model.specs.Base.{upd}
use Rattle.model.specs.State
use Rattle.model_paths.specs.View.{whole_slot, use_of, waits_of}

pub above : (u t : ℕ) → t ≤ u → (u ≡ t → ⊥) → t + 1 ≤ u
above u t l n = elim (lt? t u) [ inl a ↦ omega arith | inr a ↦ absurd (n (omega arith)) ]

pub no_word : (b : Bool) → ◌≡◌ {A = ℕ} (cond b 0 0) 0
no_word true = refl
no_word false = refl

pub and_false : (a b : Bool) → b ≡ false → (a && b) ≡ false
and_false true b e = e
and_false false b e = refl

pub and_yes : (a b : Bool) → b ≡ true → (a && b) ≡ a
and_yes true b e = e
and_yes false b e = refl

-- what a guest's dirty mark makes stale
abbrev pub all_of : ℕ → (c j : ℕ) → Bool
all_of g c j = eqb c g && eqb j whole_slot

-- the kind of one frame is changed
pub kind_set : (kind : ℕ → State.KindOfFrame) (f : ℕ) (x : State.KindOfFrame) (t : ℕ) →
    cond (eqb t f) (use_of x) (use_of (kind t)) ≡ use_of (upd kind f x t)
unfolding upd
kind_set kind f x t = go (eqb t f)
  where
    go : (b : Bool) → cond b (use_of x) (use_of (kind t)) ≡ use_of (cond b x (kind t))
    go true = refl
    go false = refl

pub waits_set : (kind : ℕ → State.KindOfFrame) (f : ℕ) (x : State.KindOfFrame) (t d j : ℕ) →
    cond (eqb t f) (waits_of x) (waits_of (kind t)) d j ≡ waits_of (upd kind f x t) d j
unfolding upd
waits_set kind f x t d j = go (eqb t f)
  where
    go : (b : Bool) → cond b (waits_of x) (waits_of (kind t)) d j ≡ waits_of (cond b x (kind t)) d j
    go true = refl
    go false = refl
