-- RAM stays where it is: the ledger's b is the machine's base, so that `translate` is the walk that `stage2` makes.
use mathlib.Core.Path.{◌≡◌, refl, sym, ap, ◌∙◌}
use mathlib.Core.Bool.{Bool, true, false, cond}
use mathlib.Core.List.{List}
use Prim.Native.Nat.{ℕ, ◌+◌, ◌*◌, ◌/◌}
use native.Mathlib.Omega.{arith}
use Rattle.memory.specs.Ram.{frame_bytes}
use Rattle.walk.specs.Both.{answer_2}
use Rattle.walk.specs.declared.Answer.{Answer}
use Rattle.walk.specs.declared.Answer.TheVariants.{Refused}
use Rattle.model.specs.State.{State}
use Rattle.model.specs.Operations.{Out, refuse, done, refusal, check, set_up, started}
use Rattle.model.specs.Machine as M
use Rattle.model.proofs.Invariant.Answer.{Then, then_done}
use Rattle.model.proofs.Invariant.Orderly.{Orderly, orderly}
use Rattle.ledger.specs.Layout.{first_of, size_of, root_of, exists_of, word_of, pick_of, state_in, state_of}
use Rattle.ledger.specs.Sound.{Sound}
use Rattle.ledger.proofs.Laws.Sound.{chosen}
use Rattle.monitor.specs.Answers as A
use Rattle.monitor.specs.SetUp as S
use Rattle.monitor_query.specs.Questions.{translated}
use Rattle.script_language.specs.declared.Operation.{Operation}
use Rattle.script_language.specs.declared.Operation.TheVariants.{Create, Give, Map, Unmap, Share, Unshare, Take, Destroy, Invalidated}
use Rattle.script_machine.specs.declared.Machine.{Machine}
use Rattle.script_machine.specs.declared.Reply.TheVariants.{Number, Walked}
use Rattle.script_machine.specs.Operations.{operation}
use Rattle.script_machine.specs.Machine.{no_such_guest, MachineSound, ram_of, ledger_of, stage2_reply, translate_reply}
use Rattle.script_machine.proofs.Laws.Parts.{size_is}

module _ (m l : List ℕ) (ok : Sound m l) where
  -- it is answered in good order
  in_order : (o : Operation) → Then (Orderly (state_of m l)) (operation o (state_of m l) (pick_of l))
  unfolding M.answer
  in_order (Create g) = orderly (state_of m l) ok.core (M.Create g (pick_of l)) (chosen l ok.ledger_sound m)
  in_order (Give f g) = orderly (state_of m l) ok.core (M.Give f g) tt
  in_order (Map f g a r) = orderly (state_of m l) ok.core (M.Map f g a r (pick_of l)) (chosen l ok.ledger_sound m)
  in_order (Unmap a g) = orderly (state_of m l) ok.core (M.Unmap a g) tt
  in_order (Share g f h w) = orderly (state_of m l) ok.core (M.Share g f h w) tt
  in_order (Unshare g f h) = orderly (state_of m l) ok.core (M.Unshare g f h) tt
  in_order (Take f g) = orderly (state_of m l) ok.core (M.Take f g) tt
  in_order (Destroy g) = orderly (state_of m l) ok.core (M.Destroy g) tt
  in_order (Invalidated g) = orderly (state_of m l) ok.core (M.Invalidated g) tt

  pub first_kept : (o : Operation) (r : ℕ) (m' l' : List ℕ) → A.Answers (operation o) m l r m' l' → first_of l' ≡ first_of l
  first_kept o r m' l' x = go (operation o (state_of m l) (pick_of l)) (in_order o) x.outcome
    where
      go : (y : Out) → Then (Orderly (state_of m l)) y → A.Outcome y m l r m' l' → first_of l' ≡ first_of l
      go (refuse k) a z = ap (λ (q : List ℕ). first_of q) z.2
      go (done s) (then_done a) z = unfold state_in in ap (λ (q : State). q.first) z.1 ∙ a.first

-- what set_up made where it refused nothing
settled : (t : Bool) (s : State) (m l : List ℕ) (r : ℕ) (m' l' : List ℕ) → refusal (check t 4 (done s)) ≡ 0
    → A.Outcome (check t 4 (done s)) m l r m' l' → (r ≡ 0) × (state_of m' l' ≡ s)
unfolding check
settled true s m l r m' l' h x = x
settled false s m l r m' l' h x = absurd (omega arith)

pub started_so : (b n k : ℕ) (m l : List ℕ) (r : ℕ) (l' : List ℕ) → refusal (S.setting_up b n k m l) ≡ 0
    → S.SetUp b n k m l r l' → (r ≡ 0) × (first_of l' ≡ b / frame_bytes)
unfolding set_up
started_so b n k m l r l' h x =
    let y = settled _ (started b n k (word_of m)) m l r m l' h x.outcome in
    (y.0, unfold state_in started in ap (λ (q : State). q.first) y.1)

-- the walk of the monitor's question is the machine's
same_walk : (x : List ℕ) {b b' n n' r r' : ℕ} (a w : ℕ) → b ≡ b' → n ≡ n' → r ≡ r' → answer_2 x b n r a w ≡ answer_2 x b' n' r' a w
same_walk x a w p q s = λ i. answer_2 x (p i) (q i) (s i) a w

pub translated_so : {m : Machine} {ram l : List ℕ} → MachineSound m ram l → m.ready ≡ true → (g a w : ℕ)
    → cond (exists_of (ledger_of m l) g) (Walked (translated (ram_of m ram) (ledger_of m l) g a w)) (Number no_such_guest)
    ≡ translate_reply m ram l g a w
unfolding translate_reply translated
translated_so {m} {ram} {l} k h g a w = go (exists_of (ledger_of m l) g)
  where
    root : frame_bytes * (first_of (ledger_of m l) + root_of (ledger_of m l) g) ≡ m.base + frame_bytes * root_of (ledger_of m l) g
    root = let b = k.based h in omega arith

    go : (t : Bool) →
        cond t
        (Walked (cond t
        (answer_2 (ram_of m ram) (frame_bytes * first_of (ledger_of m l)) (size_of (ledger_of m l))
        (frame_bytes * (first_of (ledger_of m l) + root_of (ledger_of m l) g)) a w) Refused)) (Number no_such_guest)
        ≡ cond t (stage2_reply m ram (m.base + frame_bytes * root_of (ledger_of m l) g) a w) (Number no_such_guest)
    go true = ap (λ (z : Answer). Walked z) (same_walk (ram_of m ram) a w (sym (k.based h)) (size_is k h) root)
    go false = refl
