-- Why it holds of a group: what is the same for one member is aside for the others.
use mathlib.Core.Path.{◌≡◌, refl, sym, ap, ◌∙◌}
use mathlib.Core.Logic.{inl, inr}
use mathlib.Core.List.{List, ◌∷◌}
use Prim.Native.Nat.{ℕ}
use Rattle.model.proofs.Laws.Base.{eq?, upd_at, upd_other}
use Rattle.model.specs.Base.{upd}
use Rattle.model_moves.specs.Machine.{Machine, Step, Run, stop, then, moves, reports, looks, stores}
use Rattle.model.specs.Cache.{reading, writing}
use Rattle.model_moves.specs.Terms.{Bounded, Start, Allowed, HostStores}
use Rattle.model_moves.proofs.Invariant.Always.{good}
use Rattle.model_moves.proofs.Invariant.Holds.{store_frame}
use Rattle.model_moves.proofs.Invariant.Allowed.{belongs_allowed}
use Rattle.model_two_computers.specs.Terms as T
use Rattle.model_two_computers.specs.Terms.{Frames, SameWords, Aside, Same}
use Rattle.model_two_computers.proofs.Paired.{Paired, first_step, second_step, same_step}
use Rattle.model_two_computers.proofs.Half.{half_first, half_second}
use Rattle.model_two_computers.proofs.Side.{step_stays}
use Rattle.model_two_computers.proofs.Reading.{repair_step, run_bounded}
use Rattle.model_two_computers.proofs.TwoComputers.{leaves}
use Rattle.model_two_computers.specs.Programs.{News, told, Program, NotBy}
use Rattle.model_two_computers.proofs.Acts.{Store, nothing, one, act_same}
use Rattle.model_two_computers.specs.Group.{Group, All, ends, left, right, both, repairs, Learnt, Loops, rests, acts, tells, meanwhile, Closed}

-- a step that is the same for c on both is aside for any other
same_aside : {c : ℕ} {R : Frames} {y z y₁ z₁ : Machine} {t : Step y y₁} {u : Step z z₁} → Same c R y z y₁ z₁ t u → (d : ℕ) → (d ≡ c → ⊥) →
    Aside t d × Aside u d
same_aside (T.entered t t' h q x x' b b' r m n u pairs) d ne = (ne, ne)
same_aside (T.cleared t t' h q x x' b r b' r' S S' j j' m n u) d ne = (ne, ne)
same_aside (T.linked t u t' u' h q x x' m n un to from) d ne = (λ z. ne z.0, λ z. ne z.0)
same_aside (T.dissolved l w l' w') d ne = (ne, ne)
same_aside (T.reported P D D' m n e) d ne = (ne, ne)
same_aside (T.stored e e' f f' o b l w w' q) d ne = (tt, tt)
same_aside (T.put_both f f' i x u u' q) d ne = (λ a. a, λ a. a)

aside_both : {c : ℕ} {R : Frames} {y z y₁ z₁ : Machine} (t : Step y y₁) (u : Step z z₁) → Aside t c → Aside u c →
    ((f f' : ℕ) → R f f' → SameWords y₁ z₁ f f') → Paired c R y z → Paired c R y₁ z₁
aside_both t u n m w p = let st = step_stays t n p.first in let st' = step_stays u m p.second in record {
  G = p.G;
  G' = p.G';
  first = st.side;
  second = st'.side;
  forth = half_second st' (half_first st p.forth);
  back = half_first st' (half_second st p.back);
  one_right = p.one_right;
  one_left = p.one_left;
  words = w;
}

abbrev pub AllPaired : (C : Group) (R : Frames) (y z : Machine) → Type 1
AllPaired C R y z = (c : ℕ) → C c → Paired c R y z

both_paired : {C : Group} {R : Frames} {y z y₁ z₁ : Machine} (t : Step y y₁) (u : Step z z₁) (c : ℕ) → C c → Same c R y z y₁ z₁ t u →
    AllPaired C R y z → AllPaired C R y₁ z₁
both_paired t u c i s p d j = let q = same_step s (p c i) in elim (eq? d c) [
  | inl e ↦ rw e q
  | inr ne ↦ let n = same_aside s d ne in aside_both t u n.0 n.1 q.words (p d j)
]

all_paired : {C : Group} {R R' : Frames} {y z y' z' : Machine} → All C R y z R' y' z' → AllPaired C R y z → AllPaired C R' y' z'
all_paired ends p = p
all_paired (left t n w k) p = all_paired k (λ c i. first_step t (n c i) (p c i) (λ f f' q j. w f f' j q ∙ (p c i).words f f' q j))
all_paired (right t n w k) p = all_paired k (λ c i. second_step t (n c i) (p c i) (λ f f' q j. (p c i).words f f' q j ∙ sym (w f f' j q)))
all_paired (both t u c i s k) p = all_paired k (both_paired t u c i s p)
all_paired (repairs q k) p = all_paired k (λ c i. repair_step (q c i) (p c i))

pub are_runs : {C : Group} {R R' : Frames} {y z y' z' : Machine} → All C R y z R' y' z' → Run y y' × Run z z'
are_runs ends = (stop, stop)
are_runs (left t n w k) = let x = are_runs k in (then t x.0, x.1)
are_runs (right t n w k) = let x = are_runs k in (x.0, then t x.1)
are_runs (both t u c i s k) = let x = are_runs k in (then t x.0, then u x.1)
are_runs (repairs q k) = are_runs k

-- a store of one member
store_all : {C : Group} {R : Frames} {y z y₁ z₁ : Machine} (c : ℕ) → C c → Store R y z y₁ z₁ → All C R y z R y₁ z₁
store_all c i nothing = ends
store_all c i (one d f f' o b l w w' k) = both _ _ c i (T.stored d d f f' o b l w w' k) ends

learn_same : (xs ys : Learnt) (c : ℕ) (us ws : List News) → us ≡ ws → (d : ℕ) → xs d ≡ ys d → upd xs c us d ≡ upd ys c ws d
learn_same xs ys c us ws e d k = elim (eq? d c) [
  | inl p ↦ upd_at xs c us d p ∙ e ∙ sym (upd_at ys c ws d p)
  | inr p ↦ upd_other xs c us d p ∙ k ∙ sym (upd_other ys c ws d p)
]

module _ (p : ℕ → Program) (C : Group) where
  pub loops_same : {R R' : Frames} {xs ys xs' ys' : Learnt} {y z y' z' : Machine} → ((c : ℕ) → C c → xs c ≡ ys c) → AllPaired C R y z →
      Bounded y → Bounded z → Loops p C R xs y ys z R' xs' y' ys' z' →
      ((c : ℕ) → C c → xs' c ≡ ys' c) × AllPaired C R' y' z'
  loops_same e q by bz rests = (e, q)
  loops_same {xs = xs} {ys = ys} e q by bz (acts {us = us} {ws = ws} c i a b h k) =
      let s = act_same (p c) c (e c i) (q c i) by bz a b h in
      let u = store_all {C = C} c i s.1 in
      let r = are_runs u in
      loops_same (λ d j. learn_same xs ys c us ws s.0 d (e d j)) (all_paired u q) (run_bounded r.0 by) (run_bounded r.1 bz) k
  loops_same {xs = xs} {ys = ys} e q by bz (tells c a i k) =
      loops_same (λ d j. learn_same xs ys c _ _ (ap (λ (t : List News). told a ∷ t) (e c i)) d (e d j)) q by bz k
  loops_same e q by bz (meanwhile u n k) =
      let r = are_runs u in loops_same e (all_paired u q) (run_bounded r.0 by) (run_bounded r.1 bz) k

pub outsiders_leave : {C : Group} {m z z' : Machine} → Start m → Run m z → (t : Step z z') → ((c : ℕ) → C c → NotBy t c) → Closed C z →
    (c f i : ℕ) → C c → Allowed z.spaces c f reading → (HostStores t f → ⊥) →
    z'.spaces.word f i ≡ z.spaces.word f i
outsiders_leave {z = z} st r (moves s a) n k c f i j w h = leaves {m = z} (moves s a) c f i w h
outsiders_leave st r (reports d R D p) n k c f i j w h = refl
outsiders_leave st r (looks q l) n k c f i j w h = refl
outsiders_leave {C} {m} {z} st r (stores d a o b l u) n k c f i j w h = leaves {m = z} (stores d a o b l u) c f i w (λ e.
    let s = store_frame z (good st r) d a o l u in
    let x : Allowed z.spaces d f writing = rw e (belongs_allowed z.spaces d a s.0 writing s.2 s.1) in
    n d (k c d f j w x) refl)
