-- What a processor that has kept all it can find keeps after a step: what was kept, and what the tables say now. Nothing else, also
-- where tables drain.
use mathlib.Core.Path.{◌≡◌, refl, sym, ap, ◌∙◌}
use mathlib.Core.Bool.{Bool, true, false, cond}
use mathlib.Core.Logic.{◌⊎◌, inl, inr}
use mathlib.Core.Option.{some}
use Prim.Native.Nat.{ℕ, ◌+◌, ◌<◌, ◌/◌, ◌%◌}
use native.Mathlib.Omega.{arith}
use lib.Dec.{eqb}
use borrow.Author.Tests.{leb-true, eq-eqb, ne_eqb}
use Rattle.model.specs.Base.{upd, upd2}
use Rattle.model.specs.State.{State, KindOfFrame, free, table, draining_table, page, draining_page, free_frames, page_count}
use Rattle.model.specs.Entry.{to_page, entry}
use Rattle.model.specs.Translate.{entry_at, translate, missing}
use Rattle.model.specs.Changes.{Choice, zeros, becomes, with_root, with_page, with_mapping, without_page, drained, without_guest, released, clean}
use Rattle.model.specs.Operations.{Out, refuse, done, create, give, map, unmap, share, unshare, take, destroy, invalidated}
use Rattle.model.specs.Cache.{Caches, nothing_kept, Translation}
use Rattle.model.specs.Machine.{Machine, Operation, Create, Give, Take, Map, Unmap, Share, Unshare, Destroy, Invalidated, answer, Chooses, keeps, Run, SetUp}
use Rattle.model.specs.State.{kind_number, DRAINING_TABLE}
use Rattle.model.proofs.Invariant.Kinds.{clash, kind_from}
use Rattle.model.specs.Invariant.{Core, Kept}
use Rattle.model.proofs.Invariant.Way.{translate_from}
use Rattle.model.proofs.Invariant.Found.{traced}
use Rattle.model.proofs.Invariant.Destroy.{Was, stays, was_table, was_page, was}
use Rattle.model.proofs.Invariant.Invalidated.{released_from}
use Rattle.model.proofs.Invariant.MapUnmap.{address_low, some_is, grown_for, without_is}
use Rattle.model.proofs.Invariant.Answer.{Then, then_refuse, then_done, then_is, checked, Sound}
use Rattle.model.proofs.Invariant.Holds.{Holds, holds, answer_good, nothing_ok}
use Rattle.model.proofs.Invariant.Orderly.{Orderly, orderly}
use Rattle.model.proofs.Invariant.Linked.{Linked}
use Rattle.model.proofs.Invariant.Reaching.{reported, kept_after, found}
use Rattle.model.proofs.Invariant.LinkedAlways.{linked_always, last_low, entry_translates}
use Rattle.model_noninterference.proofs.Invariant.Alike.{Closed}

-- only destroy makes tables drain, and what drains keeps its words; a report for g leaves no table that drains for g. Such a table was
-- there before
pub record WasThere (g : ℕ) (s : State) (o : Operation) (s' : State) : Type 0 where
  pub table_there : (t h p : ℕ) → s'.kind t ≡ draining_table g h p → (s.kind t ≡ draining_table g h p) ⊎ (s.kind t ≡ table g h p)
  pub words : (t h p : ℕ) → s'.kind t ≡ draining_table g h p → (i : ℕ) → s'.word t i ≡ s.word t i
  pub no_report : (t h p : ℕ) → s'.kind t ≡ draining_table g h p → reported g o ≡ false

module _ (g : ℕ) (s : State) (c : Core s) where
  -- where no table begins to drain
  drains_as_before : (o : Operation) (s' : State) → Orderly s s' → reported g o ≡ false →
      ((t h p : ℕ) → s'.kind t ≡ draining_table g h p → s.kind t ≡ draining_table g h p) → WasThere g s o s'
  drains_as_before o s' x n d = record {
    table_there = λ t h p a. inl (d t h p a);
    words = λ t h p a. x.words t (draining_table g h p) (d t h p a) refl refl;
    no_report = λ t h p a. n;
  }

  abbrev KindsFrom : State → Type 0
  KindsFrom s' = (t h p : ℕ) → s'.kind t ≡ draining_table g h p → s.kind t ≡ draining_table g h p

  becomes_from : (f : ℕ) (y : KindOfFrame) (w sh : ℕ → ℕ → ℕ) → eqb (kind_number y) DRAINING_TABLE ≡ false → KindsFrom (becomes s f y w sh)
  unfolding becomes
  becomes_from f y w sh n t h p a = kind_from s.kind f y t (draining_table g h p) a n

  taken_from : (f h : ℕ) (b : Bool) → KindsFrom (becomes s f (cond b (draining_page h) free) s.word s.shared)
  taken_from f h true = becomes_from f (draining_page h) s.word s.shared refl
  taken_from f h false = becomes_from f free s.word s.shared refl

  map_from : (f h a r : ℕ) (pick : ℕ → ℕ) → Choice s pick → Then KindsFrom (map s f h a r pick)
  unfolding map with_mapping with_page
  map_from f h a r pick ch =
      checked 5 λ e1. checked 14 λ e2. checked 7 λ e3. checked 8 λ e4. checked 4 λ e5. checked 9 λ e6. checked 10 λ e7. checked 3 λ e8.
      let z = grown_for s c nothing_kept (nothing_ok s) h (a / 4096) pick e1 (address_low a e3) ch
      (leb-true (missing s h (a / 4096)) (free_frames s) e8) in
      then_done (λ t n p b. elim (z.from t (draining_table g n p) b) [ inl x ↦ x | inr x ↦ let x1 = x.1 in absurd (no_bool x1) ])
    where
      no_bool : false ≡ true → ⊥
      no_bool e = let z : ◌≡◌ {A = ℕ} 0 1 = cc in omega arith

  unmap_from : (h a : ℕ) → Then KindsFrom (unmap s a h)
  unfolding unmap without_page
  unmap_from h a =
      checked 5 λ e1. checked 7 λ e2. checked 11 λ e3.
      let o = some_is (translate s h (a / 4096)) e3 in
      let w = translate_from s h (a / 4096) o.0 o.1 o.2 in
      rw (without_is s c h (a / 4096) w.0 o.0 o.1 w.1 o.2) (then_done (λ t n p b. b))

  create_from : (h : ℕ) (pick : ℕ → ℕ) → Then KindsFrom (create s h pick)
  unfolding create with_root
  create_from h pick = checked 1 λ e1. checked 2 λ e2. checked 3 λ e3. then_done
      (λ t n p a. kind_from s.kind (pick 0) (table h 3 0) t (draining_table g n p) a refl)

  give_from : (f h : ℕ) → Then KindsFrom (give s f h)
  unfolding give
  give_from f h = checked 5 λ e1. checked 4 λ e2. checked 6 λ e3. then_done
      (becomes_from f (page h) (upd s.word f zeros) (upd s.shared f zeros) refl)

  take_from : (f h : ℕ) → Then KindsFrom (take s f h)
  unfolding take
  take_from f h = checked 5 λ e1. checked 4 λ e2. checked 9 λ e3. checked 13 λ e4. then_done (taken_from f h (s.dirty h))

  share_from : (o f h w : ℕ) → Then KindsFrom (share s o f h w)
  unfolding share
  share_from o f h w = checked 5 λ e1. checked 12 λ e2. checked 4 λ e3. checked 9 λ e4. checked 13 λ e5. checked 14 λ e6.
      then_done (becomes_from f (page o) s.word (upd2 s.shared f h (cond (eqb w 0) 1 2)) refl)

  unshare_from : (o f h : ℕ) → Then KindsFrom (unshare s o f h)
  unfolding unshare
  unshare_from o f h = checked 5 λ e1. checked 4 λ e2. checked 9 λ e3. checked 13 λ e4. checked 14 λ e5. then_done
      (becomes_from f (page o) s.word (upd2 s.shared f h 0) refl)

  destroy_there : (h : ℕ) → Then (WasThere g s (Destroy h)) (destroy s h)
  unfolding destroy without_guest
  destroy_there h = checked 5 λ e1. checked 13 λ e2. then_done (record {
    table_there = λ t n p a. before t n p a (was h (s.kind t));
    words = λ t n p a i. refl;
    no_report = λ t n p a. refl;
  })
    where
      before : (t n p : ℕ) → drained h (s.kind t) ≡ draining_table g n p → Was h (s.kind t) →
          (s.kind t ≡ draining_table g n p) ⊎ (s.kind t ≡ table g n p)
      before t n p a (stays b d e) = inl (sym b ∙ a)
      before t n p a (was_table n' p' b d) = inr (cc)
      before t n p a (was_page b d) = absurd (clash {x = draining_page h} {y = draining_table g n p} (sym d ∙ a) refl)

  invalidated_there : (h : ℕ) → Then (WasThere g s (Invalidated h)) (invalidated s h)
  unfolding invalidated clean
  invalidated_there h = checked 1 λ e1. then_done (record {
    table_there = λ t n p a. inl (released_from h (s.kind t) (draining_table g n p) a refl);
    words = λ t n p a i. refl;
    no_report = λ t n p a. ne_eqb h g (λ (e : h ≡ g). mine t n p a (released_from h (s.kind t) (draining_table g n p) a refl) e);
  })
    where
      mine : (t n p : ℕ) → released h (s.kind t) ≡ draining_table g n p → s.kind t ≡ draining_table g n p → h ≡ g → ⊥
      mine t n p a b e = clash {x = free} {y = draining_table g n p} (unfold released in (rw (b, eq-eqb g h (sym e)) at a)) refl

  there : (o : Operation) → Chooses s o → Then KindsFrom (answer s o) → reported g o ≡ false → Then (WasThere g s o) (answer s o)
  there o ch x n = both (answer s o) (orderly s c o ch) x
    where
      both : (y : Out) → Then (Orderly s) y → Then KindsFrom y → Then (WasThere g s o) y
      both (refuse k) a b = then_refuse
      both (done s') (then_done a) (then_done b) = then_done (drains_as_before o s' a n b)

  pub answer_there : (o : Operation) → Chooses s o → Then (WasThere g s o) (answer s o)
  answer_there (Create h pick) ch = there (Create h pick) ch (unfold answer in create_from h pick) refl
  answer_there (Give f h) ch = there (Give f h) ch (unfold answer in give_from f h) refl
  answer_there (Take f h) ch = there (Take f h) ch (unfold answer in take_from f h) refl
  answer_there (Map f h a r pick) ch = there (Map f h a r pick) ch (unfold answer in map_from f h a r pick ch) refl
  answer_there (Unmap a h) ch = there (Unmap a h) ch (unfold answer in unmap_from h a) refl
  answer_there (Share o f h w) ch = there (Share o f h w) ch (unfold answer in share_from o f h w) refl
  answer_there (Unshare o f h) ch = there (Unshare o f h) ch (unfold answer in unshare_from o f h) refl
  answer_there (Destroy h) ch = unfold answer in destroy_there h
  answer_there (Invalidated h) ch = unfold answer in invalidated_there h

-- what stands in a last table that drains has been kept
pub record Recalls (s : State) (k : Caches) : Type 0 where
  pub drained_entry : (t g v f r : ℕ) → s.kind t ≡ draining_table g 0 (v / 512) → entry_at s t (v % 512) ≡ to_page f r →
      k.page_kept g v (s.first + f) r

-- a machine after any run from set_up
pub record Sane (m : Machine) : Type 1 where
  pub start : Machine
  pub set_up : SetUp start
  pub run : Run start m
  pub closed : Closed m.state m.caches
  pub recalls : Recalls m.state m.caches

pub sane_holds : {m : Machine} → Sane m → Holds m
sane_holds x = holds x.set_up x.run

pub sane_linked : {m : Machine} → Sane m → Linked m.state
sane_linked x = linked_always x.set_up x.run

module _ {m : Machine} (x : Sane m) where
  -- what the tables say now has been kept
  pub now_kept : (g v f r : ℕ) → v < page_count → translate m.state g v ≡ some (f, r) → m.caches.page_kept g v (m.state.first + f) r
  now_kept g v f r l e = x.closed.page_count g v (m.state.first + f) r (found m.state (sane_holds x).core m.caches g v f r l e)

  -- and so has what stands in any last table
  entry_kept : (t g v f r : ℕ) → (m.state.kind t ≡ draining_table g 0 (v / 512)) ⊎ (m.state.kind t ≡ table g 0 (v / 512)) →
      entry_at m.state t (v % 512) ≡ to_page f r → m.caches.page_kept g v (m.state.first + f) r
  entry_kept t g v f r (inl k) e = x.recalls.drained_entry t g v f r k e
  entry_kept t g v f r (inr k) e =
      let c = (sane_holds x).core in
      let l = sane_linked x in
      now_kept g v f r (last_low m.state c l t g v k) (entry_translates m.state c l t g v f r k e)

  module _ (o : Operation) (ch : Chooses m.state o) (s' : State) (e : answer m.state o ≡ done s') where
    pub same_first : s'.first ≡ m.state.first
    same_first = (then_is (answer m.state o) s' (orderly m.state (sane_holds x).core o ch) e).first

    pub sound : Sound (keeps m.caches o) s'
    sound = then_is (answer m.state o) s' (answer_good m.state (sane_holds x).core m.caches (sane_holds x).kept o ch) e

    pub stale_kept : (t g v f r : ℕ) → s'.kind t ≡ draining_table g 0 (v / 512) → entry_at s' t (v % 512) ≡ to_page f r →
        (keeps m.caches o).page_kept g v (s'.first + f) r
    stale_kept t g v f r k n =
        let w = then_is (answer m.state o) s' (answer_there g m.state (sane_holds x).core o ch) e in
        let f= = same_first in
        let same : entry_at s' t (v % 512) ≡ entry_at m.state t (v % 512) = ap (λ (z : ℕ). entry z (s'.word t (v % 512))) f=
        ∙ ap (entry m.state.first) (w.words t 0 (v / 512) k (v % 512)) in
        rw f= (kept_after m.caches o g v (m.state.first + f) r (w.no_report t 0 (v / 512) k)
        (entry_kept t g v f r (w.table_there t 0 (v / 512) k) (sym same ∙ n)))

-- what is found was kept, or the tables say it now
module _ (s : State) (k : Caches) (c : Core s) (q : Kept s k) (l : Linked s) (g : ℕ)
    (stale : (t v f r : ℕ) → s.kind t ≡ draining_table g 0 (v / 512) → entry_at s t (v % 512) ≡ to_page f r →
    k.page_kept g v (s.first + f) r) where
  abbrev KeptOrNow : (v f r : ℕ) → Type 0
  KeptOrNow v f r = k.page_kept g v (s.first + f) r ⊎ ((v < page_count) × (translate s g v ≡ some (f, r)))

  pub found_is : {v x r : ℕ} → Translation s k g v x r → (f : ℕ) → x ≡ s.first + f → KeptOrNow v f r
  found_is {v} {x} {r} y f x= = elim (traced s k c q g y) [
    | inl a ↦ inl (rw x= at a)
    | inr b ↦
        let b2 = b.2 in
        let f= : b.1 ≡ f = omega arith in
        let n = b.3 ∙ ap (λ (i : ℕ). to_page i r) f= in
        elim b.4 [
          | inl m ↦ inr (last_low s c l b.0 g v m.0, entry_translates s c l b.0 g v f r m.0 n)
          | inr m ↦ inl (stale b.0 v f r m.0 n)
        ]
  ]
