-- map and unmap keep the invariant.
use mathlib.Core.Path.{◌≡◌, refl, ◌∙◌}
use mathlib.Core.Bool.{true, false}
use mathlib.Core.Logic.{inl, inr}
use mathlib.Core.Option.{Option, none, some}
use Prim.Native.Nat.{ℕ, ◌+◌, ◌*◌, ◌≤◌, ◌<◌, ◌/◌, ◌%◌}
use native.Mathlib.Omega.{arith}
use lib.Dec.{eqb, ltb}
use borrow.Author.Tests.{eqb-true, ltb-true, leb-true}
use Rattle.model.proofs.Laws.Base.{bool?, and_true, not_true}
use Rattle.model.specs.State.{State, table, page_count, free_frames}
use Rattle.model.specs.Entry.{Entry, empty, to_table, to_page, other}
use Rattle.model.specs.Translate.{entry_at, Page, page_in, leaf, translate, is_some, mapped, missing}
use Rattle.model.specs.Changes.{Choice, Grown, grow, with_mapping, without_page, without_mapping}
use Rattle.model.specs.Operations.{page_address, is_rights, map, unmap}
use Rattle.model.specs.Cache.{Caches}
use Rattle.model.specs.Invariant.{May, Fits, Core, Kept}
use Rattle.model.proofs.Invariant.Way.{root_serves, leaf_kind, leaf_there, translate_from}
use Rattle.model.proofs.Invariant.Pages.{page_core, page_kept, empty_core, empty_kept}
use Rattle.model.proofs.Invariant.Grow.{Grew, grow_grew}
use Rattle.model.proofs.Invariant.Answer.{Good, then_done, checked, may_is}

-- what the tests on the arguments say
pub address_low : (a : ℕ) → page_address a ≡ true → a / 4096 < page_count
address_low a e = let l = ltb-true a 0x1000000000000 (and_true (eqb (a % 4096) 0) (ltb a 0x1000000000000) e).1 in omega arith

pub rights_low : (r : ℕ) → is_rights r ≡ true → r < 8
rights_low r e = elim (bool? (eqb r 1)) [
  | inl a ↦ omega (arith, eqb-true r 1 a)
  | inr a ↦ elim (bool? (eqb r 3)) [
    | inl b ↦ omega (arith, eqb-true r 3 b)
    | inr b ↦ elim (bool? (eqb r 5)) [
      | inl d ↦ omega (arith, eqb-true r 5 d)
      | inr d ↦ omega (arith, eqb-true r 7 (rw (a, b, d) at e))
    ]
  ]
]

pub none_is : {A : Type 0} (o : Option A) → is_some o ≡ false → o ≡ none
none_is none e = refl
none_is (some a) e = cc

pub some_is : (o : Option Page) → is_some o ≡ true → (f r : ℕ) × (o ≡ some (f, r))
some_is none e = (0, 0, cc)
some_is (some p) e = (p.0, p.1, refl)

-- a last table's entry is empty where nothing is mapped
empty_is : (s : State) (g v u : ℕ) → Core s → s.kind u ≡ table g 0 (v / 512) → page_in (entry_at s u (v % 512)) ≡ none →
    entry_at s u (v % 512) ≡ empty
empty_is s g v u c a e = go (entry_at s u (v % 512)) (c.tables u g 0 (v / 512) a (v % 512) (omega arith)) e
  where
    go : (x : Entry) → Fits s.kind (May s) g 0 (v / 512 * 512 + v % 512) x → page_in x ≡ none → x ≡ empty
    go empty k e = refl
    go (to_table t) k e = absurd k
    go (to_page f r) k e = cc
    go (other x) k e = absurd k

module _ (s : State) (c : Core s) where
  -- what map finds when the tables are there: the state before the entry is written
  module _ (k : Caches) (q : Kept s k) (g v : ℕ) (pick : ℕ → ℕ) (lg : s.exists g ≡ true) (lv : v < page_count) (ch : Choice s pick)
      (room : missing s g v ≤ free_frames s) where
    pub grown_for : Grew k s 3 g (s.root g) v (grow 3 s g (s.root g) v pick).state (grow 3 s g (s.root g) v pick).last
    grown_for = grow_grew k 3 s c g (s.root g) v pick ch room (root_serves (s.kind (s.root g)) g v (c.roots g lg) lv) q

    pub grown_empty : translate s g v ≡ none → entry_at (grow 3 s g (s.root g) v pick).state (grow 3 s g (s.root g) v pick).last
        (v % 512) ≡ empty
    unfolding translate
    grown_empty n =
        let z = grown_for in
        let m = z.moves g 3 (s.root g) v (root_serves (s.kind (s.root g)) g v (c.roots g lg) lv) in
        empty_is (grow 3 s g (s.root g) v pick).state g v (grow 3 s g (s.root g) v pick).last z.core z.last
        ((rw z.way at m) ∙ (rw (leaf_there s c g v lg) at n))

  pub map_good : (k : Caches) (q : Kept s k) (f g a r : ℕ) (pick : ℕ → ℕ) → Choice s pick → Good k (map s f g a r pick)
  unfolding map with_mapping
  map_good k q f g a r pick ch =
      checked 5 λ e1. checked 14 λ e2. checked 7 λ e3. checked 8 λ e4. checked 4 λ e5. checked 9 λ e6. checked 10 λ e7. checked 3 λ e8.
      let l = address_low a e3 in
      let room = leb-true (missing s g v) (free_frames s) e8 in
      let z = grown_for k q g v pick e1 l ch room in
      let m = z.may g f r (may_is s g f r e6) in
      let w = grown_empty k q g v pick e1 l ch room (none_is (translate s g v) (not_true (mapped s g v) e7)) in
      then_done (record {
        core = page_core x.state z.core x.last g (v / 512) (v % 512) z.last (omega arith) f r w m (rights_low r e4);
        kept = page_kept x.state z.core x.last g (v / 512) (v % 512) z.last (omega arith) f r w m (rights_low r e4) k
            z.kept;
      })
    where
      v : ℕ
      v = a / 4096

      x : Grown
      x = grow 3 s g (s.root g) v pick

  -- the state after unmap, by the place that was found
  pub without_is : (g v t f r : ℕ) → leaf s g v ≡ some t → translate s g v ≡ some (f, r) →
      without_mapping s g v ≡ without_page s t (v % 512) f g
  unfolding without_mapping
  without_is g v t f r a b = rw (a, b)

  pub unmap_good : (k : Caches) (q : Kept s k) (g a : ℕ) → Good k (unmap s a g)
  unfolding unmap
  unmap_good k q g a =
      checked 5 λ e1. checked 7 λ e2. checked 11 λ e3.
      let o = some_is (translate s g (a / 4096)) e3 in
      let w = translate_from s g (a / 4096) o.0 o.1 o.2 in
      let ht = leaf_kind s c g (a / 4096) w.0 (address_low a e2) w.1 in
      rw (without_is g (a / 4096) w.0 o.0 o.1 w.1 o.2)
      (then_done (record {
        core = empty_core s c w.0 g (a / 4096 / 512) (a / 4096 % 512) ht (omega arith) o.0 o.1 w.2;
        kept = empty_kept s c w.0 g (a / 4096 / 512) (a / 4096 % 512) ht (omega arith) o.0 o.1 w.2 k q;
      }))
