-- Document 03, section 2: every refusal has a number from 1 on. So where a call answers 0 it was done, and where it answers anything else
-- it was refused and nothing has changed.
use mathlib.Core.Path.{◌≡◌, sym, ap}
use mathlib.Core.Bool.{Bool, true, false}
use mathlib.Core.List.{List}
use Prim.Native.Nat.{ℕ, ◌<◌}
use native.Mathlib.Omega.{arith}
use Rattle.model.specs.State.{State}
use Rattle.model.specs.Operations.{Out, refuse, done, check, create, give, map, unmap, share, unshare, take, destroy, invalidated}
use Rattle.ledger.specs.Layout.{state_of, pick_of}
use Rattle.monitor.specs.Answers.{Answers, Outcome}
use Rattle.isolation_runs.specs.Calls.{Call, Create, Give, Take, Map, Unmap, Share, Unshare, Destroy, Invalidated, defined}

abbrev pub Numbered : Out → Type 0
Numbered (refuse k) = 0 < k
Numbered (done s) = Unit {0}

checked : (b : Bool) (k : ℕ) (o : Out) → 0 < k → Numbered o → Numbered (check b k o)
unfolding check
checked true k o low n = n
checked false k o low n = low

pub numbered : (c : Call) (s : State) (pick : ℕ → ℕ) → Numbered (defined c s pick)
unfolding create give map unmap share unshare take destroy invalidated
numbered (Create g) s pick = checked _ 1 _ (omega arith) (checked _ 2 _ (omega arith) (checked _ 3 _ (omega arith) tt))
numbered (Give f g) s pick = checked _ 5 _ (omega arith) (checked _ 4 _ (omega arith) (checked _ 6 _ (omega arith) tt))
numbered (Take f g) s pick =
    checked _ 5 _ (omega arith) (checked _ 4 _ (omega arith) (checked _ 9 _ (omega arith) (checked _ 13 _ (omega arith) tt)))
numbered (Map f g a r) s pick =
    checked _ 5 _ (omega arith) (checked _ 14 _ (omega arith) (checked _ 7 _ (omega arith) (checked _ 8 _ (omega arith)
    (checked _ 4 _ (omega arith) (checked _ 9 _ (omega arith) (checked _ 10 _ (omega arith) (checked _ 3 _ (omega arith) tt)))))))
numbered (Unmap a g) s pick = checked _ 5 _ (omega arith) (checked _ 7 _ (omega arith) (checked _ 11 _ (omega arith) tt))
numbered (Share g f h w) s pick =
    checked _ 5 _ (omega arith) (checked _ 12 _ (omega arith)
    (checked _ 4 _ (omega arith) (checked _ 9 _ (omega arith) (checked _ 13 _ (omega arith) (checked _ 14 _ (omega arith) tt)))))
numbered (Unshare g f h) s pick =
    checked _ 5 _ (omega arith) (checked _ 4 _ (omega arith)
    (checked _ 9 _ (omega arith) (checked _ 13 _ (omega arith) (checked _ 14 _ (omega arith) tt))))
numbered (Destroy g) s pick = checked _ 5 _ (omega arith) (checked _ 13 _ (omega arith) tt)
numbered (Invalidated g) s pick = checked _ 1 _ (omega arith) tt

module _ (c : Call) (m l : List ℕ) {r : ℕ} {m' l' : List ℕ} (a : Answers (defined c) m l r m' l') where
  pub done_at_0 : r ≡ 0 → defined c (state_of m l) (pick_of l) ≡ done (state_of m' l')
  done_at_0 e = go (defined c (state_of m l) (pick_of l)) (numbered c (state_of m l) (pick_of l)) a.outcome
    where
      go : (u : Out) → Numbered u → Outcome u m l r m' l' → u ≡ done (state_of m' l')
      go (refuse k) low o = let z = o.0 in let l : 0 < k = low in absurd (omega arith)
      go (done s) low o = ap done (sym o.1)

  pub unchanged_else : (r ≡ 0 → ⊥) → (defined c (state_of m l) (pick_of l) ≡ refuse r) × (m' ≡ m) × (l' ≡ l)
  unchanged_else ne = go (defined c (state_of m l) (pick_of l)) a.outcome
    where
      go : (u : Out) → Outcome u m l r m' l' → (u ≡ refuse r) × (m' ≡ m) × (l' ≡ l)
      go (refuse k) o = (ap refuse (sym o.0), o.1, o.2)
      go (done s) o = absurd (ne o.0)
