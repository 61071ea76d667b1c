-- The monitor's frames stay the monitor's.
use mathlib.Core.Path.{◌≡◌, refl, sym, ◌∙◌}
use mathlib.Core.Logic.{inl, inr}
use Prim.Native.Nat.{ℕ}
use Rattle.model_moves.specs.Spaces.{Spaces, monitor, free, claimed, table, emptied, page, draining}
use Rattle.model_moves.specs.Moves.{Move, put, claim, link, enter, clear, unhook, hand, lend, retire, release, open_space, end, dissolve}
use Rattle.model_moves.specs.Machine.{Machine, Step, moves, reports, looks, stores, Run, stop, then}
use Rattle.model_moves.proofs.Invariant.Core.{clash}
use Rattle.model_moves.proofs.Invariant.Ledger.{kind_keep}
use Rattle.model_moves.proofs.Invariant.Draining.{set_keep}
use Rattle.model_moves.proofs.Invariant.Open.{keep}
use Rattle.model_moves.proofs.Invariant.Dissolve.{keep'}

pub move_monitor : {s s' : Spaces} → Move s s' → (t : ℕ) → s.kind t ≡ monitor → s'.kind t ≡ monitor
move_monitor (put f i x u) t e = e
move_monitor {s} (claim u c h p m) t e = kind_keep s.kind u free (claimed c h p) m.was t monitor e refl
move_monitor {s} (link u u' c h q x m) t e = kind_keep s.kind u' (claimed c h q) (table c h q) m.was t monitor e refl
move_monitor (enter u c h q x y r m) t e = e
move_monitor (clear u c h q x y r S j m) t e = e
move_monitor {s} (unhook u u' c h q x S j W m) t e = kind_keep s.kind u' (table c h q) (emptied c h q) m.was t monitor e refl
move_monitor {s} (hand f g k z) t e = kind_keep s.kind f free (page g) k t monitor e refl
move_monitor (lend f c how m) t e = e
move_monitor {s} (retire P g W m) t e =
    set_keep P s.kind (draining g) t monitor e (λ p. clash {x = page g} {y = monitor} (sym (m t p).was ∙ e) refl)
move_monitor {s} (release P m) t e = set_keep P s.kind free t monitor e (λ p. elim (m t p).0 [
  | inl x ↦ clash {x = draining x.0} {y = monitor} (sym x.1 ∙ e) refl
  | inr x ↦ clash {x = emptied x.0 x.1 x.2} {y = monitor} (sym x.3 ∙ e) refl
])
move_monitor {s} (open_space c n m) t e = keep s c n m t monitor e refl
move_monitor (end c S j l g a) t e = e
move_monitor {s} (dissolve c l w) t e = keep' s c l w t monitor e refl

pub move_size : {s s' : Spaces} → Move s s' → (s'.size ≡ s.size)
move_size (put f i x u) = refl
move_size (claim u c h p m) = refl
move_size (link u u' c h q x m) = refl
move_size (enter u c h q x y r m) = refl
move_size (clear u c h q x y r S j m) = refl
move_size (unhook u u' c h q x S j W m) = refl
move_size (hand f g k z) = refl
move_size (lend f c how m) = refl
move_size (retire P g W m) = refl
move_size (release P m) = refl
move_size (open_space c n m) = refl
move_size (end c S j l g a) = refl
move_size (dissolve c l w) = refl

step_monitor : {m z : Machine} → Step m z → (t : ℕ) → m.spaces.kind t ≡ monitor →
    (z.spaces.kind t ≡ monitor) × (z.spaces.size ≡ m.spaces.size)
step_monitor (moves s a) t e = (move_monitor a t e, move_size a)
step_monitor (reports c R D r) t e = (e, refl)
step_monitor (looks k l) t e = (e, refl)
step_monitor (stores c f o b l a) t e = (e, refl)

pub monitors_stay : {m z : Machine} → Run m z → (t : ℕ) → m.spaces.kind t ≡ monitor →
    (z.spaces.kind t ≡ monitor) × (z.spaces.size ≡ m.spaces.size)
monitors_stay stop t e = (e, refl)
monitors_stay (then a b) t e = let x = step_monitor a t e in let y = monitors_stay b t x.0 in (y.0, y.1 ∙ x.1)
