-- Laws of specs/Invariant: what an entry may be stays so when other frames change, and where a frame of a kind lies.
use mathlib.Core.Path.{◌≡◌, refl, sym, ◌∙◌}
use mathlib.Core.Bool.{false}
use mathlib.Core.Logic.{inl, inr}
use Prim.Native.Nat.{ℕ, zero, suc, ◌+◌, ◌<◌}
use native.Mathlib.Omega.{arith}
use lib.Dec.{eqb}
use Rattle.model.proofs.Laws.Base.{lt?}
use Rattle.model.specs.State.{State, KindOfFrame, monitor, table, draining_table, draining_page, page_count}
use Rattle.model.specs.Entry.{Entry, empty, to_table, to_page, other}
use Rattle.model.specs.Invariant.{LeadsTo, Fits, Stale, Core}
use Rattle.model.specs.State.{kind_number, MONITOR}
use Rattle.model.proofs.Invariant.Kinds.{clash}

leads_keep : (T T' : (t h q : ℕ) → Type 0) (P P' : (f r : ℕ) → Type 0) → ((t h q : ℕ) → T t h q → T' t h q) →
    (h q : ℕ) (e : Entry) → ((f r : ℕ) → h ≡ 0 → e ≡ to_page f r → P f r → P' f r) → LeadsTo T P h q e → LeadsTo T' P' h q e
leads_keep T T' P P' a h q empty b x = tt
leads_keep T T' P P' a zero q (to_table t) b x = x
leads_keep T T' P P' a (suc h) q (to_table t) b x = a t h q x
leads_keep T T' P P' a zero q (to_page f r) b x = b f r refl refl x
leads_keep T T' P P' a (suc h) q (to_page f r) b x = x
leads_keep T T' P P' a h q (other y) b x = x

pub fits_keep : (kind kind' : ℕ → KindOfFrame) (M M' : (g f r : ℕ) → Type 0) (g : ℕ) →
    ((t h p : ℕ) → kind t ≡ table g h p → kind' t ≡ table g h p) →
    (h q : ℕ) (e : Entry) → ((f r : ℕ) → h ≡ 0 → e ≡ to_page f r → M g f r → M' g f r) → Fits kind M g h q e → Fits kind' M' g h q e
fits_keep kind kind' M M' g = leads_keep (λ t h q. kind t ≡ table g h q) (λ t h q. kind' t ≡ table g h q) (M g) (M' g)

pub stale_keep : (kind kind' : ℕ → KindOfFrame) (g : ℕ) →
    ((t h p : ℕ) → kind t ≡ draining_table g h p → kind' t ≡ draining_table g h p) →
    ((f : ℕ) → kind f ≡ draining_page g → kind' f ≡ draining_page g) →
    (h q : ℕ) (e : Entry) → Stale kind g h q e → Stale kind' g h q e
stale_keep kind kind' g a b h q e =
    leads_keep (λ t h q. kind t ≡ draining_table g h q) (λ t h q. kind' t ≡ draining_table g h q) (λ f r. kind f ≡ draining_page g)
    (λ f r. kind' f ≡ draining_page g) a h q e (λ f r _ _. b f)

pub low : (s : State) → Core s → (t : ℕ) (x : KindOfFrame) → s.kind t ≡ x → eqb MONITOR (kind_number x) ≡ false → t < s.size
low s c t x h q = elim (lt? t s.size) [ inl l ↦ l | inr l ↦ absurd (clash {x = monitor} {y = x} (sym (c.beyond t l) ∙ h) q) ]

pub in_room : (s : State) → Core s → (t : ℕ) (x : KindOfFrame) → s.kind t ≡ x → eqb MONITOR (kind_number x) ≡ false →
    s.first + t < page_count
in_room s c t x h q = let l = low s c t x h q in let r = c.room in omega arith
