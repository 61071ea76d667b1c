-- What holds after any run from Start.
use mathlib.Core.Path.{◌≡◌, refl}
use mathlib.Core.Logic.{inl, inr}
use Prim.Native.Nat.{ℕ, ◌+◌, ◌<◌, ◌/◌}
use Rattle.model.proofs.Laws.Base.{lt?}
use Rattle.model.specs.Cache.{Access}
use Rattle.model_moves.specs.Spaces.{monitor}
use Rattle.model_moves.specs.Cache.{Reach}
use Rattle.model_moves.specs.Machine.{Machine, Run}
use Rattle.model_moves.specs.Terms.{Start, Reaches, Allowed, Hidden, Bounded}
use Rattle.model_moves.proofs.Invariant.Holds.{Good, belongs, run_good}
use Rattle.model_moves.proofs.Invariant.Allowed.{belongs_allowed, reach_allowed, hidden_not, start_good}
use Rattle.model_moves.proofs.Invariant.Levels.{Levels}
use Rattle.model_moves.proofs.Invariant.LevelsKept.{run_levels}
use Rattle.model_moves.proofs.Invariant.Monitors.{monitors_stay}

pub good : {m z : Machine} → Start m → Run m z → Good z
good x r = run_good r (start_good x)

nothing_yet : {m : Machine} → Start m → Levels m.spaces m.caches
nothing_yet st = record {
  level_ok = λ c v l a. absurd (st.levels c v l a);
  one_level = λ c v l l' a b. absurd (st.levels c v l a);
  unblocked = λ c h p x v l a e n b. st.tables c h p x a;
  apart = λ c h p x v l a e n b. st.tables c h p x a;
  level_gone = λ c v l a. absurd (st.levels c v l a);
}

pub levels : {m z : Machine} → Start m → Run m z → Levels z.spaces z.caches
levels st r = (run_levels r (start_good st) (nothing_yet st)).1

module _ {z : Machine} (g : Good z) where
  pub reached : (c : ℕ) (w : Access) (a : ℕ) → Reaches z c w a → (f : ℕ) × (a / 4096 ≡ z.spaces.first + f) × Allowed z.spaces c f w
  unfolding Reach
  reached c w a y = let b = belongs z.spaces z.caches g y.2 in
      (b.0, b.1, belongs_allowed z.spaces c b.0 y.1 w y.3 b.2)

  pub unreached : (f : ℕ) → Hidden (z.spaces.kind f) → (c : ℕ) (w : Access) (a : ℕ) → a / 4096 ≡ z.spaces.first + f →
      Reaches z c w a → ⊥
  unreached f h c w a i y = hidden_not z.spaces c f w (z.spaces.kind f) refl h (reach_allowed g c w a f i y)

pub in_ram : {m z : Machine} → Start m → Bounded m → Run m z → (c f : ℕ) (w : Access) → Allowed z.spaces c f w → f < m.spaces.size
in_ram {m} {z} st beyond r c f w a = elim (lt? f m.spaces.size) [
  | inl l ↦ l
  | inr l ↦ absurd (hidden_not z.spaces c f w monitor (monitors_stay r f (beyond f l)).0 tt a)
]
