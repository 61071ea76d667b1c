-- Each of the nine operations, answered 0, goes along a path of moves; and what that needs holds after set_up, and after each of them.
use mathlib.Core.Path.{◌≡◌, refl, subst}
use mathlib.Core.Bool.{Bool, true, false, ◌&&◌, ◌||◌, cond}
use mathlib.Core.Logic.{◌⊎◌, inl, inr}
use Prim.Native.Nat.{ℕ}
use native.Mathlib.Omega.{arith}
use lib.Dec.{ltb, leb}
use Rattle.memory.specs.Ram.{ram_fits}
use Rattle.model.specs.State
use Rattle.model.specs.Operations.{Out, refuse, done, set_up, check, at_first, started}
use Rattle.model.specs.Cache
use Rattle.model.specs.Machine.{Operation, Create, Give, Take, Map, Unmap, Share, Unshare, Destroy, Invalidated, answer, Chooses}
use Rattle.model.specs.Invariant.{Core as LedgerCore}
use Rattle.model.proofs.Invariant.Holds
use Rattle.model.proofs.Invariant.Holds.{answer_good, set_up_core, neither}
use Rattle.model.proofs.Invariant.Answer.{Then, then_refuse, then_done, then_more}
use Rattle.model_moves.specs.Spaces.{monitor, free}
use Rattle.model_moves.specs.Cache.{nothing_kept}
use Rattle.model_moves.proofs.Invariant.Core.{Core}
use Rattle.model_moves.proofs.Invariant.Holds.{path_core}
use Rattle.model_moves.proofs.Invariant.Allowed.{start_good}
use Rattle.model_moves.specs.Terms.{Start}
use Rattle.model_paths.specs.View.{use_of, view}
use Rattle.model_paths.proofs.Operations.GiveTake.{give_goes, take_goes}
use Rattle.model_paths.proofs.Operations.Create.{create_goes}
use Rattle.model_paths.proofs.Operations.Unmap.{unmap_goes}
use Rattle.model_paths.proofs.Operations.Share.{share_goes, unshare_goes}
use Rattle.model_paths.proofs.Operations.Destroy.{destroy_goes}
use Rattle.model_paths.proofs.Operations.Invalidated.{invalidated_goes}
use Rattle.model_paths.proofs.Operations.Map.{map_goes}
use Rattle.model_paths.specs.Goes.{Goes, Ended, Ready}
use Rattle.model_paths.proofs.Ended.{answer_ended}

-- the path of an operation that is answered 0
pub answer_goes : (s : State.State) → LedgerCore s → Ended s → Core (view s) → (o : Operation) → Chooses s o →
    Then (Goes s o) (answer s o)
unfolding answer
answer_goes s c n k (Create g pick) ch = create_goes s c n g pick ch
answer_goes s c n k (Give f g) ch = give_goes s c f g
answer_goes s c n k (Take f g) ch = take_goes s c n f g
answer_goes s c n k (Map f g a r pick) ch = map_goes s c f g a r pick ch
answer_goes s c n k (Unmap a g) ch = unmap_goes s c g a
answer_goes s c n k (Share g f h w) ch = share_goes s c n g f h w
answer_goes s c n k (Unshare g f h) ch = unshare_goes s c n g f h
answer_goes s c n k (Destroy g) ch = destroy_goes s c n k g
answer_goes s c n k (Invalidated g) ch = invalidated_goes s c n g

pub ready_goes : (s : State.State) → Ready s → (o : Operation) → Chooses s o → Then (λ s'. Goes s o s' × Ready s') (answer s o)
ready_goes s y o ch =
    go (answer s o) (answer_goes s y.ledger y.ended y.spaces o ch)
    (then_more (answer s o) (λ s x. x.core) (answer_good s y.ledger Cache.nothing_kept (Holds.nothing_ok s) o ch))
    (answer_ended s y.ledger y.ended o ch)
  where
    go : (x : Out) → Then (Goes s o) x → Then LedgerCore x → Then Ended x → Then (λ s'. Goes s o s' × Ready s') x
    go (refuse n) a b d = then_refuse
    go (done s') (then_done a) (then_done b) (then_done d) =
        then_done (a, record { ledger = b; ended = d; spaces = path_core a.0 y.spaces })

-- right after set_up
module _ (b n m : ℕ) (w : ℕ → ℕ → ℕ) where
  frames_first : (f : ℕ) → (use_of (at_first n m f) ≡ monitor) ⊎ (use_of (at_first n m f) ≡ free)
  unfolding at_first
  frames_first f = go (ltb f m || leb n f)
    where
      go : (t : Bool) → (use_of (cond t State.monitor State.free) ≡ monitor) ⊎ (use_of (cond t State.monitor State.free) ≡ free)
      go true = inl refl
      go false = inr refl

  started_start : Start (record { spaces = view (started b n m w); caches = nothing_kept })
  unfolding started
  started_start = record {
    frames = frames_first;
    spaces = λ c. refl;
    tables = λ c h p x a. a;
    pages = λ c v x r a. a;
    levels = λ c v l a. a;
  }

  started_ended : Ended (started b n m w)
  unfolding started
  started_ended = record { gone = λ t g h p e. absurd (neither n m t (State.draining_table g h p) e refl refl) }

pub set_up_ready : (fits : Bool) (b n m : ℕ) (w : ℕ → ℕ → ℕ) (s : State.State) → set_up fits b n m w ≡ done s →
    Start (record { spaces = view s; caches = nothing_kept }) × Ready s
unfolding set_up check
set_up_ready fits b n m w s e = go (fits && ram_fits b n && ltb m n) e
  where
    go : (t : Bool) → check t 4 (done (started b n m w)) ≡ done s → Start (record { spaces = view s; caches = nothing_kept }) × Ready s
    go true e' =
        let z : started b n m w ≡ s = cc in
        let y : Start (record { spaces = view s; caches = nothing_kept }) = subst
        (λ x. Start (record { spaces = view x; caches = nothing_kept })) z
        (started_start b n m w) in
        (y, record { ledger = set_up_core fits b n m w s e; ended = subst Ended z (started_ended b n m w); spaces = (start_good y).core })
    go false e' = let z : ◌≡◌ {A = ℕ} 0 1 = cc in absurd (omega arith)
