-- What the tables say, the processor finds; and what it has kept stays until the report.
use mathlib.Core.Path.{◌≡◌, refl, sym, ap, ◌∙◌}
use mathlib.Core.Bool.{Bool, true, false}
use mathlib.Core.Option.{none, some}
use Prim.Native.Nat.{ℕ, zero, suc, ◌+◌, ◌*◌, ◌<◌, ◌/◌, ◌%◌}
use native.Mathlib.Omega.{arith}
use lib.Dec.{eqb}
use borrow.Author.Tests.{eqb-false, ne_eqb}
use native.Mathlib.Nat.{div-add-mod'}
use Rattle.model.specs.State.{State, table, page_count}
use Rattle.model.specs.Entry.{Entry, empty, to_table, to_page, other}
use Rattle.model.proofs.Laws.Entry.{is_table, is_to_page, page_low, descriptor_table, descriptor_page}
use Rattle.model.specs.Translate.{upper, index, entry_at, into, descend, translate}
use Rattle.model.specs.Operations.{Out, refuse, done}
use Rattle.model.specs.Cache.{next, output, descriptor, inside, Caches, forget, Table, from_root, from_word, Translation, kept, read_off, grown, Access, grants, Reach}
use Rattle.model.specs.Machine.{Machine, Operation, Create, Give, Take, Map, Unmap, Share, Unshare, Destroy, Invalidated, answer, keeps, settle, call, Reaches}
use Rattle.model.specs.Invariant.{Core}
use Rattle.model.proofs.Invariant.Core.{low, in_room}
use Rattle.model.proofs.Invariant.Way.{root_serves, step_kind, leaf_from, leaf_kind, translate_from}
use Rattle.model.proofs.Invariant.Pages.{may_room}

module _ (s : State) (c : Core s) (k : Caches) (g v : ℕ) where
  way_down : (h t : ℕ) → s.kind t ≡ table g h (upper (suc h) v) → Table s k g h (upper (suc h) v) (s.first + t) → (u : ℕ) →
      descend s h t v ≡ some u → Table s k g 0 (upper 1 v) (s.first + u)
  unfolding descend
  way_down zero t a x u e = let z : t ≡ u = cc in rw z at x
  way_down (suc h) t a x u e = go (way_down h) (entry_at s t i) refl e
    where
      i : ℕ
      i = index (suc h) v

      down : (t' : ℕ) → entry_at s t i ≡ to_table t' → s.kind t' ≡ table g h (upper (suc h) v) →
          Table s k g h (upper (suc h) v) (s.first + t')
      down t' q b = unfold upper in
          let room = in_room s c t' (table g h (upper (suc h) v)) b refl in
          let d : descriptor (suc h) (s.word t i) ≡ next (s.first + t') =
          ap (descriptor (suc h)) (is_table s.first (s.word t i) t' q) ∙ descriptor_table s.first t' room h in
          let w = from_word x t i refl (low s c t (table g (suc h) (upper (suc (suc h)) v)) a refl) (omega arith) d in
          rw (div-add-mod' (upper h v / 512) 512) at w

      go : ((t : ℕ) → s.kind t ≡ table g h (upper (suc h) v) → Table s k g h (upper (suc h) v) (s.first + t) → (u : ℕ) →
          descend s h t v ≡ some u → Table s k g 0 (upper 1 v) (s.first + u)) →
          (y : Entry) → entry_at s t i ≡ y → into y none (λ t'. descend s h t' v) ≡ some u → Table s k g 0 (upper 1 v) (s.first + u)
      go ih empty q e = let z : ◌≡◌ {A = ℕ} 0 1 = cc in absurd (omega arith)
      go ih (to_table t') q e = let b = step_kind s c g h t v t' a q in ih t' b (down t' q b) u e
      go ih (to_page f r) q e = let z : ◌≡◌ {A = ℕ} 0 1 = cc in absurd (omega arith)
      go ih (other y) q e = let z : ◌≡◌ {A = ℕ} 0 1 = cc in absurd (omega arith)

  root_table : s.exists g ≡ true → v < page_count → Table s k g 3 (upper 4 v) (s.first + s.root g)
  unfolding upper
  root_table e l = let z : v / 512 / 512 / 512 / 512 ≡ 0 = omega arith in rw z (from_root e refl)

  pub found : (f r : ℕ) → v < page_count → translate s g v ≡ some (f, r) → Translation s k g v (s.first + f) r
  unfolding upper inside
  found f r l e =
      let w = translate_from s g v f r e in
      let t = w.0 in
      let lf = leaf_from s c g v t w.1 in
      let kt = leaf_kind s c g v t l w.1 in
      let m = rw w.2 at (c.tables t g 0 (v / 512) kt (v % 512) (omega arith)) in
      let d : descriptor 0 (s.word t (v % 512)) ≡ output (s.first + f) r =
      ap (descriptor 0) (is_to_page s.first (s.word t (v % 512)) f r w.2)
      ∙ descriptor_page s.first f r (may_room s c g f r m) (page_low s.first (s.word t (v % 512)) f r w.2) in
      let x = way_down 3 (s.root g) (root_serves (s.kind (s.root g)) g v (c.roots g lf.0) l) (root_table lf.0 l) t lf.1 in
      read_off 0 (s.first + t) t (s.first + f) x refl (low s c t (table g 0 (v / 512)) kt refl) d refl

pub reaches_mapped : (m : Machine) → Core m.state → (g v f r : ℕ) (w : Access) (o : ℕ) → v < page_count →
    translate m.state g v ≡ some (f, r) → grants r w ≡ true → o < 4096 →
    Reaches m g w ((m.state.first + f) * 4096 + o)
unfolding Reach
reaches_mapped m c g v f r w o l e a b =
    let d : ((m.state.first + f) * 4096 + o) / 4096 ≡ m.state.first + f = omega arith in
    (v, r, rw d (found m.state c m.caches g v f r l e), a)

-- an operation that reports g's invalidation: nothing else makes the processor forget
abbrev pub reported : (g : ℕ) → Operation → Bool
reported g (Create h pick) = false
reported g (Give f h) = false
reported g (Take f h) = false
reported g (Map f h a r pick) = false
reported g (Unmap a h) = false
reported g (Share o f h w) = false
reported g (Unshare o f h) = false
reported g (Destroy h) = false
reported g (Invalidated h) = eqb h g

pub kept_before : (k : Caches) (o : Operation) (g v x r : ℕ) → (keeps k o).page_kept g v x r → (reported g o ≡ false) × k.page_kept g v x r
unfolding keeps forget
kept_before k (Create h pick) g v x r a = (refl, a)
kept_before k (Give f h) g v x r a = (refl, a)
kept_before k (Take f h) g v x r a = (refl, a)
kept_before k (Map f h b q pick) g v x r a = (refl, a)
kept_before k (Unmap b h) g v x r a = (refl, a)
kept_before k (Share o f h w) g v x r a = (refl, a)
kept_before k (Unshare o f h) g v x r a = (refl, a)
kept_before k (Destroy h) g v x r a = (refl, a)
kept_before k (Invalidated h) g v x r a = (ne_eqb h g (λ (e : h ≡ g). a.0 (sym e)), a.1)

pub kept_after : (k : Caches) (o : Operation) (g v x r : ℕ) → reported g o ≡ false → k.page_kept g v x r → (keeps k o).page_kept g v x r
unfolding keeps forget
kept_after k (Create h pick) g v x r e a = a
kept_after k (Give f h) g v x r e a = a
kept_after k (Take f h) g v x r e a = a
kept_after k (Map f h b q pick) g v x r e a = a
kept_after k (Unmap b h) g v x r e a = a
kept_after k (Share o f h w) g v x r e a = a
kept_after k (Unshare o f h) g v x r e a = a
kept_after k (Destroy h) g v x r e a = a
kept_after k (Invalidated h) g v x r e a = (λ (p : g ≡ h). eqb-false h g e (sym p), a)

pub call_keeps : (m : Machine) (o : Operation) (g : ℕ) → reported g o ≡ false → (v x r : ℕ) → m.caches.page_kept g v x r →
    (call m o).caches.page_kept g v x r
unfolding call
call_keeps m o g n v x r a = go (answer m.state o)
  where
    go : (y : Out) → (settle m (keeps m.caches o) y).caches.page_kept g v x r
    go (refuse b) = unfold settle grown in kept a
    go (done s) = unfold settle grown in kept (kept_after m.caches o g v x r n a)
