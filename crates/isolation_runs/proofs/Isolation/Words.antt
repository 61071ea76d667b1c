-- From the words of moves to the ledger's.
use mathlib.Core.Path.{◌≡◌, refl, ap}
use mathlib.Core.Logic.{inl, inr}
use Prim.Native.Nat.{ℕ, ◌<◌}
use Rattle.model.proofs.Laws.Base.{lt?}
use Rattle.model.specs.State.{KindOfFrame, monitor, free, table, draining_table, page, draining_page}
use Rattle.model.specs.Cache.{Access}
use Rattle.model_moves.specs.Spaces as S
use Rattle.model_moves.specs.Terms as T
use Rattle.model_moves.proofs.Invariant.Core.{clash}
use Rattle.model_moves.proofs.Invariant.Allowed.{hidden_not, reach_allowed}
use Rattle.model_moves.proofs.Invariant.Always.{reached}
use Rattle.model_paths.specs.View.{use_of}
use Rattle.model_paths.proofs.Laws.Reads.{kind_page}
use Rattle.ledger.specs.Layout.{size_of, kind_of, state_in}
use Rattle.isolation_runs.specs.Slices.{Slices, spaces, Reaches}
use Rattle.isolation_runs.specs.Terms.{In, Allowed, Hidden, Unreached}
use Rattle.isolation_runs.proofs.Laws.Steps.{Fit}

kind_draining : (x : KindOfFrame) (g : ℕ) → use_of x ≡ S.draining g → x ≡ draining_page g
kind_draining monitor g e = absurd (clash {x = S.monitor} {y = S.draining g} e refl)
kind_draining free g e = absurd (clash {x = S.free} {y = S.draining g} e refl)
kind_draining (table a b d) g e = absurd (clash {x = S.table a b d} {y = S.draining g} e refl)
kind_draining (draining_table a b d) g e = absurd (clash {x = S.table a b d} {y = S.draining g} e refl)
kind_draining (page h) g e = absurd (clash {x = S.page h} {y = S.draining g} e refl)
kind_draining (draining_page h) g e = cc

pub hidden_so : (x : KindOfFrame) → Hidden x → T.Hidden (use_of x)
hidden_so monitor h = tt
hidden_so free h = tt
hidden_so (table a b d) h = tt
hidden_so (draining_table a b d) h = tt
hidden_so (page g) h = absurd h
hidden_so (draining_page g) h = absurd h

pub page_so : (x : Slices) (f o : ℕ) → (spaces x).kind f ≡ S.page o → kind_of x.ledger f ≡ page o
unfolding state_in
page_so x f o e = kind_page (kind_of x.ledger f) o e

pub allowed_so : (x : Slices) (g f : ℕ) (w : Access) → T.Allowed (spaces x) g f w → Allowed x g f w
unfolding state_in
allowed_so x g f w (inl a) = inl (g, kind_page (kind_of x.ledger f) g a, inl refl)
allowed_so x g f w (inr (inl a)) = inl (a.0, kind_page (kind_of x.ledger f) a.0 a.1, inr a.2)
allowed_so x g f w (inr (inr a)) = inr (kind_draining (kind_of x.ledger f) g a.0)

-- what is reached lies in RAM
pub reach_so : (x : Slices) → Fit x → (g : ℕ) (w : Access) (a : ℕ) → Reaches x g w a →
    (f : ℕ) × In x a f × (f < size_of x.ledger) × Allowed x g f w
unfolding state_in
reach_so x h g w a r = let b = reached h.good g w a r in (
  b.0,
  b.1,
  elim (lt? b.0 (size_of x.ledger)) [
    | inl l ↦ l
    | inr l ↦ absurd (hidden_not (spaces x) g b.0 w S.monitor (ap use_of (h.sound.core.beyond b.0 l)) tt b.2)
  ],
  allowed_so x g b.0 w b.2,
)

pub unreached_so : (x : Slices) → Fit x → (f : ℕ) (k : KindOfFrame) → kind_of x.ledger f ≡ k → Hidden k → Unreached x f
unfolding state_in
unreached_so x h f k e i g w a at r =
    hidden_not (spaces x) g f w (use_of k) (ap use_of e) (hidden_so k i) (reach_allowed h.good g w a f at r)
