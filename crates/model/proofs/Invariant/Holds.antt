-- The invariant of a machine: it holds after set_up, and every step keeps it.
use mathlib.Core.Path.{◌≡◌, refl, sym}
use mathlib.Core.Bool.{true≢false, Bool, true, false, ◌&&◌, ◌||◌, cond}
use mathlib.Core.Logic.{◌⊎◌}
use Prim.Native.Nat.{ℕ, ◌+◌, ◌*◌, ◌≤◌, ◌<◌, ◌/◌}
use native.Mathlib.Omega.{arith}
use lib.Dec.{eqb, ltb, leb}
use borrow.Author.Tests.{le-leb}
use Rattle.memory.specs.Ram.{frame_bytes, ram_fits}
use Rattle.memory.proofs.Laws.Ram.{fits_so}
use Rattle.model.proofs.Laws.Base.{and_true, sum_none}
use Rattle.model.specs.Base.{sum}
use Rattle.model.specs.State.{State, KindOfFrame, monitor, free, table, draining_table, page, draining_page, page_count}
use Rattle.model.specs.Entry.{Entry, entry}
use Rattle.model.specs.Operations.{Out, refuse, done, check, at_first, started, set_up}
use Rattle.model.specs.Cache.{Caches, nothing_kept, Access, writing, grants, Reach}
use Rattle.model.specs.Machine.{Machine, Operation, Create, Give, Take, Map, Unmap, Share, Unshare, Destroy, Invalidated, answer, Chooses, keeps, settle, call, stored, write, Step, calls, stores, Run, stop, then, SetUp}
use Rattle.model.specs.State.{kind_number, FREE, MONITOR}
use Rattle.model.proofs.Invariant.Kinds.{clash}
use Rattle.model.specs.Invariant.{May, hit, places, Core, Kept}
use Rattle.model.proofs.Invariant.Answer.{Then, then_done, Good}
use Rattle.model.proofs.Invariant.GiveTake.{give_good, take_good}
use Rattle.model.proofs.Invariant.Share.{share_good, unshare_good}
use Rattle.model.proofs.Invariant.MapUnmap.{map_good, unmap_good}
use Rattle.model.proofs.Invariant.Create.{create_good}
use Rattle.model.proofs.Invariant.Destroy.{destroy_good}
use Rattle.model.proofs.Invariant.Invalidated.{invalidated_good}
use Rattle.model.proofs.Invariant.Store.{stored_core, stored_kept}
use Rattle.model.proofs.Invariant.Found.{page_found, grown_kept}

pub record Holds (m : Machine) : Type 0 where
  pub core : Core m.state
  pub kept : Kept m.state m.caches

pub answer_good : (s : State) (c : Core s) (k : Caches) (q : Kept s k) (o : Operation) → Chooses s o → Good (keeps k o) (answer s o)
unfolding answer keeps
answer_good s c k q (Create g pick) ch = create_good s c k q g pick ch
answer_good s c k q (Give f g) ch = give_good s c k q f g
answer_good s c k q (Take f g) ch = take_good s c k q f g
answer_good s c k q (Map f g a r pick) ch = map_good s c k q f g a r pick ch
answer_good s c k q (Unmap a g) ch = unmap_good s c k q g a
answer_good s c k q (Share g f h w) ch = share_good s c k q g f h w
answer_good s c k q (Unshare g f h) ch = unshare_good s c k q g f h
answer_good s c k q (Destroy g) ch = destroy_good s c k q g
answer_good s c k q (Invalidated g) ch = invalidated_good s c k q g

settled : (m : Machine) → Holds m → (k : Caches) (o : Out) → Good k o → Holds (settle m k o)
unfolding settle
settled m h k (refuse a) x = record { core = h.core; kept = grown_kept m.state m.caches h.core h.kept }
settled m h k (done s) (then_done x) = record { core = x.core; kept = grown_kept s k x.core x.kept }

-- what is reached lies in a frame that is the guest's, or shared with it so, or drains for it
pub reached : (s : State) (k : Caches) → Core s → Kept s k → (g : ℕ) (w : Access) (a : ℕ) → Reach s k g w a →
    (f r : ℕ) × (a / 4096 ≡ s.first + f) × (grants r w ≡ true) × (May s g f r ⊎ (s.kind f ≡ draining_page g))
unfolding Reach
reached s k c q g w a x = let b = page_found s k c q g x.2 in (b.0, x.1, b.1, x.3, b.2)

pub step_holds : {m m' : Machine} → Step m m' → Holds m → Holds m'
unfolding call write
step_holds (calls {m} o ch) h = settled m h (keeps m.caches o) (answer m.state o)
    (answer_good m.state h.core m.caches h.kept o ch)
step_holds (stores {m} g f o x e l n b a) h = record {
  core = core;
  kept = grown_kept (stored m.state f o x) m.caches core (stored_kept m.state g f r o x may m.caches h.kept);
}
  where
    to : (f r : ℕ) × (((m.state.first + f) * 4096 + o) / 4096 ≡ m.state.first + f) × (grants r writing ≡ true) ×
        (May m.state g f r ⊎ (m.state.kind f ≡ draining_page g))
    to = let z = reached m.state m.caches h.core h.kept g writing ((m.state.first + f) * 4096 + o) a in
        let z2 = z.2 in
        let f= : z.0 ≡ f = omega arith in
        (f, z.1, omega arith, z.3, rw f= at z.4)

    r : ℕ
    r = to.1

    may : May m.state g f r ⊎ (m.state.kind f ≡ draining_page g)
    may = to.4

    core : Core (stored m.state f o x)
    core = stored_core m.state g f r o x may h.core

pub run_holds : {m z : Machine} → Run m z → Holds m → Holds z
run_holds stop h = h
run_holds (then x y) h = run_holds y (step_holds x h)

-- a property of the state that every answer keeps, and every store of a guest
abbrev pub AnswersKeep : (State → Type 0) → Type 0
AnswersKeep P = (s : State) → Core s → P s → (o : Operation) → Chooses s o → Then P (answer s o)

abbrev pub StoresKeep : (State → Type 0) → Type 1
StoresKeep P = (m : Machine) → Holds m → P m.state → (g f o x : ℕ) → o < 4096 → x < 256 →
    Reach m.state m.caches g writing ((m.state.first + f) * 4096 + o) → P (stored m.state f o x)

module _ (P : State → Type 0) (answered : AnswersKeep P) (written : StoresKeep P) where
  step_keeps : {m m' : Machine} → Step m m' → Holds m → P m.state → P m'.state
  unfolding call settle write
  step_keeps (calls {m} o ch) h p = go (answer m.state o) (answered m.state h.core p o ch)
    where
      go : (x : Out) → Then P x → P (settle m (keeps m.caches o) x).state
      go (refuse n) t = p
      go (done s) (then_done t) = t
  step_keeps (stores {m} g f o x e l n b a) h p = written m h p g f o x n b a

  pub run_keeps : {m z : Machine} → Run m z → Holds m → P m.state → P z.state
  run_keeps stop h p = p
  run_keeps (then x y) h p = run_keeps y (step_holds x h) (step_keeps x h p)

-- set-up: nobody is there
module _ (n k : ℕ) where
  pub neither : (f : ℕ) (x : KindOfFrame) → at_first n k f ≡ x → eqb MONITOR (kind_number x) ≡ false → eqb FREE (kind_number x) ≡ false → ⊥
  unfolding at_first
  neither f x e a b = go (ltb f k || leb n f) refl
    where
      go : (t : Bool) → (ltb f k || leb n f) ≡ t → ⊥
      go true q = clash {x = monitor} {y = x} (rw q at e) a
      go false q = clash {x = free} {y = x} (rw q at e) b

  no_hit : (f : ℕ) (e : Entry) (f' h : ℕ) → hit (at_first n k f) e f' h ≡ 0
  unfolding at_first hit
  no_hit f e f' h = go (ltb f k || leb n f)
    where
      go : (t : Bool) → hit (cond t monitor free) e f' h ≡ 0
      go true = refl
      go false = refl

  beyond : (t : ℕ) → n ≤ t → at_first n k t ≡ monitor
  unfolding at_first
  beyond t l = rw (le-leb n t l) (go (ltb t k))
    where
      go : (b : Bool) → cond (b || true) monitor free ≡ monitor
      go true = refl
      go false = refl

  pub started_core : (b : ℕ) (w : ℕ → ℕ → ℕ) → b / 4096 + n ≤ page_count → Core (started b n k w)
  unfolding started places
  started_core b w l = record {
    room = l;
    beyond = beyond;
    table_exists = λ t g h p e. absurd (neither t (table g h p) e refl refl);
    tables = λ t g h p e. absurd (neither t (table g h p) e refl refl);
    draining = λ t g h p e. absurd (neither t (draining_table g h p) e refl refl);
    roots = λ g l. absurd (true≢false (sym l));
    page_exists = λ f g e. absurd (neither f (page g) e refl refl);
    strangers = λ f o h a l. refl;
    guests_only = λ g l. absurd (true≢false (sym l));
    counts = λ f h. sym (sum_none n (λ t. sum 512 (λ i. hit (at_first n k t) (entry (b / 4096) (w t i)) f h))
        (λ t. sum_none 512 (λ i. hit (at_first n k t) (entry (b / 4096) (w t i)) f h) (λ i. no_hit t (entry (b / 4096) (w t i)) f h)));
  }

pub nothing_ok : (s : State) → Kept s nothing_kept
nothing_ok s = record {
  table_ok = λ g h p x a. absurd a;
  page_ok = λ g v x r a. absurd a;
  table_now = λ g h p x d a. absurd a;
  page_now = λ g v x r d a. absurd a;
}

fits_room : (fits : Bool) (b n k : ℕ) → (fits && ram_fits b n && ltb k n) ≡ true → b / frame_bytes + n ≤ page_count
fits_room fits b n k e =
    let both = (and_true (fits && ram_fits b n) (ltb k n) e).0 in
    let low = (fits_so b n (and_true fits (ram_fits b n) both).1).low in
    omega arith

pub set_up_core : (fits : Bool) (b n k : ℕ) (w : ℕ → ℕ → ℕ) (s : State) → set_up fits b n k w ≡ done s → Core s
unfolding set_up check
set_up_core fits b n k w s e = go (fits && ram_fits b n && ltb k n) refl e
  where
    go : (t : Bool) → (fits && ram_fits b n && ltb k n) ≡ t → check t 4 (done (started b n k w)) ≡ done s → Core s
    go true q e = let z : started b n k w ≡ s = cc in rw z at (started_core n k b w (fits_room fits b n k q))
    go false q e = let z : ◌≡◌ {A = ℕ} 0 1 = cc in absurd (omega arith)

pub set_up_holds : {m : Machine} → SetUp m → Holds m
set_up_holds {m} x = record {
  core = set_up_core true x.b x.n x.k x.word m.state x.accepted;
  kept = rw x.fresh (nothing_ok m.state);
}

-- after any run from set_up
pub holds : {m z : Machine} → SetUp m → Run m z → Holds z
holds x r = run_holds r (set_up_holds x)
