-- Every step keeps the invariant; what is found belongs to the space.
use mathlib.Core.Path.{◌≡◌, ap}
use mathlib.Core.Bool.{true, false}
use mathlib.Core.Logic.{◌⊎◌, inl, inr}
use Prim.Native.Nat.{ℕ, ◌+◌, ◌*◌, ◌<◌, ◌/◌}
use native.Mathlib.Omega.{arith}
use Rattle.model.proofs.Laws.Base.{bool?}
use Rattle.model.specs.Cache.{writing, grants, inside}
use Rattle.model_moves.specs.Spaces.{Spaces, draining, exists, May, Leads}
use Rattle.model_moves.specs.Cache.{nothing_kept, Caches, Translation, Reach}
use Rattle.model_moves.specs.Moves.{untabled, Move, put, claim, link, enter, clear, unhook, hand, lend, retire, release, open_space, end, dissolve}
use Rattle.model_moves.specs.Machine.{Machine, Step, moves, reports, looks, stores, Run, stop, then}
use Rattle.model_moves.proofs.Invariant.Core.{Core, Kept, Held}
use Rattle.model_moves.proofs.Invariant.Found.{page_found, page_found_gone, looks_kept}
use Rattle.model_moves.proofs.Invariant.Ledger.{Holds, put_holds, hand_holds, claim_holds}
use Rattle.model_moves.proofs.Invariant.Draining.{lend_holds, retire_holds, release_holds}
use Rattle.model_moves.proofs.Invariant.Entries.{same_frame}
use Rattle.model_moves.proofs.Invariant.Enter.{enter_holds}
use Rattle.model_moves.proofs.Invariant.Clear.{clear_holds}
use Rattle.model_moves.proofs.Invariant.Link.{link_holds}
use Rattle.model_moves.proofs.Invariant.Unhook.{unhook_holds}
use Rattle.model_moves.proofs.Invariant.Open.{open_holds}
use Rattle.model_moves.proofs.Invariant.End.{end_holds}
use Rattle.model_moves.proofs.Invariant.Dissolve.{dissolve_holds}
use Rattle.model_moves.proofs.Invariant.Report.{report_core, report_holds}
use Rattle.model_moves.specs.Path.{Path, here, move, report}

-- what the space may have, or what drains for it
abbrev pub Belongs : Spaces → (c f r : ℕ) → Type 0
Belongs s c f r = May s c f r ⊎ ((s.kind f ≡ draining (s.space c).serves) × ((j : ℕ) × (s.waits f c j ≡ true)))

pub held_belongs : (s : Spaces) (c f r j : ℕ) → Held s c f r j → Belongs s c f r
held_belongs s c f r j (inl a) = inl a
held_belongs s c f r j (inr a) = inr (a.0, (j, a.1))

module _ (s : Spaces) (k : Caches) (y : Holds s k) where
  pub led_belongs : (c v f r : ℕ) → Leads s c v f r → (exists s c ≡ false → (j : ℕ) × ((v : ℕ) → s.stale c j v ≡ true)) → Belongs s c f r
  led_belongs c v f r a g =
      let u = a.3 in
      let n = y.core.leaves c v a.0 a.1 u.0 r (inl a.2) u.1 in
      let f= = same_frame s.first n.0 f (inside a.0 u.0 v) n.1 u.2 in
      let b = rw f= at n.2 in
      elim (bool? (exists s c)) [ inl l ↦ inl (b.may l) | inr l ↦ let j = g l in held_belongs s c f r j.0 (b.held l j.0 j.1) ]

  pub belongs : {c v x r : ℕ} → Translation s k c v x r → (f : ℕ) × (x ≡ s.first + f) × Belongs s c f r
  belongs {c} {v} {x} {r} a =
      let p = page_found s k y.core y.kept a in (
        p.0,
        p.1,
        elim p.2 [
          | inl l ↦ led_belongs c v p.0 r l (page_found_gone s k y.core y.kept a)
          | inr o ↦ let j = o.1 in held_belongs s c p.0 r j.0 j.2
        ],
      )

  pub belongs_at : {c v x r : ℕ} → Translation s k c v x r → (f : ℕ) → x ≡ s.first + f → Belongs s c f r
  belongs_at {c} {v} {x} {r} a f e = let b = belongs a in let f= = same_frame s.first b.0 f x b.1 e in rw f= at b.2

-- a frame that belongs to some space is no table
pub belongs_untabled : (s : Spaces) (c f r : ℕ) → Belongs s c f r → untabled (s.kind f) ≡ true
belongs_untabled s c f r (inl (inl a)) = ap untabled a
belongs_untabled s c f r (inl (inr a)) = ap untabled a.1
belongs_untabled s c f r (inr a) = ap untabled a.0

pub move_holds : {s s' : Spaces} (k : Caches) → Move s s' → Holds s k → Holds s' k
move_holds {s} k (put f i x u) y = put_holds s f i x u k y
move_holds {s} k (claim t c h p m) y = claim_holds s t c h p m k y
move_holds {s} k (link t t' c h q x m) y = link_holds s t t' c h q x m k y
move_holds {s} k (enter t c h q x a r m) y = enter_holds s t c h q x a r m k y
move_holds {s} k (clear t c h q x a r S j m) y = clear_holds s t c h q x a r S j m k y
move_holds {s} k (unhook t t' c h q x S j W m) y = unhook_holds s t t' c h q x S j W m k y
move_holds {s} k (hand f g e z) y = hand_holds s k f g e y
move_holds {s} k (lend f c how m) y = lend_holds s f c how m k y
move_holds {s} k (retire P g W m) y = retire_holds s P g W m k y
move_holds {s} k (release P m) y = release_holds s P m k y
move_holds {s} k (open_space c n m) y = open_holds s c n m k y
move_holds {s} k (end c S j l g a) y = end_holds s c S j l g a k y
move_holds {s} k (dissolve c l e) y = dissolve_holds s c l e k y

abbrev pub Good : Machine → Type 0
Good m = Holds m.spaces m.caches

pub store_frame : (m : Machine) → Good m → (c f o : ℕ) → o < 4096 →
    Reach m.spaces m.caches c writing ((m.spaces.first + f) * 4096 + o) →
    (r : ℕ) × Belongs m.spaces c f r × (grants r writing ≡ true)
unfolding Reach
store_frame m y c f o l a =
    let e : ((m.spaces.first + f) * 4096 + o) / 4096 ≡ m.spaces.first + f = omega arith in
    (a.1, belongs_at m.spaces m.caches y a.2 f e, a.3)

pub step_good : {m z : Machine} → Step m z → Good m → Good z
step_good {m} (moves s a) y = move_holds m.caches a y
step_good {m} (reports c R D r) y = report_holds m.spaces c R D r m.caches y
step_good {m} (looks k l) y = record { core = y.core; kept = looks_kept m.spaces m.caches y.core y.kept k l }
step_good {m} (stores c f o b l a) y =
    let w = store_frame m y c f o l a in
    put_holds m.spaces f (o / 8) _ (belongs_untabled m.spaces c f w.0 w.1) m.caches y

pub run_good : {m z : Machine} → Run m z → Good m → Good z
run_good stop y = y
run_good (then a b) y = run_good b (step_good a y)

-- a path keeps what holds of the ledger and the tables
pub nothing_ok : (s : Spaces) → Kept s nothing_kept
nothing_ok s = record {
  table_ok = λ c h p x a. absurd a;
  page_ok = λ c v x r a. absurd a;
  one = λ c v x r x' r' a b. absurd a;
  one_table = λ c h p x x' a b. absurd a;
  table_gone = λ c h p x a. absurd a;
  page_gone = λ c v x r a. absurd a;
}

pub path_core : {a b : Spaces} → Path a b → Core a → Core b
path_core here c = c
path_core (move {s = s} m p) c = path_core p (move_holds nothing_kept m (record { core = c; kept = nothing_ok s })).core
path_core (report {s = s} c R D r p) k = path_core p (report_core s c R D r k)
