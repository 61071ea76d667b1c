-- The tables that lead to an address are there, after it was mapped and after it was unmapped.
use mathlib.Core.Path.{◌≡◌, refl, ◌∙◌}
use mathlib.Core.Bool.{true}
use mathlib.Core.List.{List}
use mathlib.Core.Option.{Option, none, some}
use Prim.Native.Nat.{ℕ, zero, suc, ◌+◌, ◌*◌, ◌<◌, ◌/◌, ◌%◌, ◌^◌}
use native.Mathlib.Omega.{arith}
use lib.Dec.{eqb, ltb}
use borrow.Author.Tests.{eqb-true, ltb-true, eq-eqb}
use Rattle.walk.specs.Both.{stage_2}
use Rattle.model.proofs.Laws.Base.{and_true}
use Rattle.model.specs.State.{State}
use Rattle.model.specs.Entry.{Entry, empty, to_table, to_page, other}
use Rattle.model.proofs.Laws.Entry.{entry_empty}
use Rattle.model.specs.Translate.{index, entry_at, into, descend, Page, leaf, translate, missing_from, missing}
use Rattle.model.specs.Changes.{Choice, without_page}
use Rattle.model.specs.Operations.{done, page_address, map, unmap}
use Rattle.model.specs.Cache.{nothing_kept, Access}
use Rattle.model.specs.Machine.{Map, answer}
use Rattle.model.specs.Bytes.{Image, access, comes, says}
use Rattle.model.specs.Terms.{expected}
use Rattle.model.specs.Invariant.{Core}
use Rattle.model.proofs.Invariant.Answer.{Then, then_done, then_is, checked}
use Rattle.model.proofs.Invariant.Holds.{nothing_ok}
use Rattle.model.proofs.Invariant.Way.{leaf_kind, leaf_from, translate_from, same_leaf}
use Rattle.model.proofs.Invariant.Pages.{set_other}
use Rattle.model.proofs.Invariant.MapUnmap.{address_low, some_is, without_is, map_good, unmap_good}
use Rattle.model.proofs.Invariant.Effects.{rows, unmapped_after}
use Rattle.model.proofs.Invariant.Bridge.{walk_ends}

-- no table is missing on a way that comes to an end
none_missing : (s : State) (h t v u : ℕ) → descend s h t v ≡ some u → missing_from s h t v ≡ 0
unfolding descend missing_from
none_missing s zero t v u e = refl
none_missing s (suc h) t v u e = go (none_missing s h) (entry_at s t (index (suc h) v)) refl
  where
    go : ((t v u : ℕ) → descend s h t v ≡ some u → missing_from s h t v ≡ 0) → (x : Entry) → entry_at s t (index (suc h) v) ≡ x →
        into (entry_at s t (index (suc h) v)) (suc h) (λ t'. missing_from s h t' v) ≡ 0
    go ih empty q = cc
    go ih (to_table t') q = rw q (ih t' v u (cc))
    go ih (to_page f r) q = cc
    go ih (other y) q = cc

-- guest g exists, and the way to page v comes to a last table
pub record There (s : State) (g v : ℕ) : Type 0 where
  pub exists : s.exists g ≡ true
  pub whole : missing s g v ≡ 0

pub is_there : (s : State) → Core s → (g v t : ℕ) → leaf s g v ≡ some t → There s g v
is_there s c g v t e = let z = leaf_from s c g v t e in record { exists = z.0; whole = none_missing s 3 (s.root g) v t z.1 }

-- the address a that was asked for, and its page in the state after
pub record AskedAt (g a : ℕ) (o : Option Page) (s : State) : Type 0 where
  pub core : Core s
  pub aligned : a % 4096 ≡ 0
  pub low : a < 2 ^ 48
  pub there : There s g (a / 4096)
  pub page : translate s g (a / 4096) ≡ o

-- what the check of the address says
address_is : (a : ℕ) → page_address a ≡ true → (a % 4096 ≡ 0) × (a < 2 ^ 48)
address_is a e =
    let z = and_true (eqb (a % 4096) 0) (ltb a 0x1000000000000) e in
    (eqb-true (a % 4096) 0 z.0, ltb-true a 0x1000000000000 z.1)

module _ (s : State) (c : Core s) where
  -- map: the page is there, and so are the tables on the way
  module _ (f g a r : ℕ) (pick : ℕ → ℕ) (ch : Choice s pick) (s' : State) (e : map s f g a r pick ≡ done s') where
    map_address : Then (λ s'. page_address a ≡ true) (map s f g a r pick)
    unfolding map
    map_address = checked 5 λ e1. checked 14 λ e2. checked 7 λ e3. checked 8 λ e4. checked 4 λ e5. checked 9 λ e6. checked 10 λ e7.
        checked 3 λ e8. then_done e3

    now_mapped : translate s' g (a / 4096) ≡ some (f, r)
    unfolding expected answer
    now_mapped =
        then_is (map s f g a r pick) s' (rows s c (Map f g a r pick) ch) e g (a / 4096)
        (address_low a (then_is (map s f g a r pick) s' map_address e))
        ∙ rw (eq-eqb g g refl, eq-eqb (a / 4096) (a / 4096) refl)

    pub after_map : AskedAt g a (some (f, r)) s'
    after_map =
        let core = (then_is (map s f g a r pick) s' (map_good s c nothing_kept (nothing_ok s) f g a r pick ch) e).core in
        let at = address_is a (then_is (map s f g a r pick) s' map_address e) in
        let way = translate_from s' g (a / 4096) f r now_mapped in
        record { core = core; aligned = at.0; low = at.1; there = is_there s' core g (a / 4096) way.0 way.1; page = now_mapped }

  -- unmap: nothing is there, and "tables that become empty stay where they are"
  module _ (g a : ℕ) (s' : State) (e : unmap s a g ≡ done s') where
    unmap_address : Then (λ s'. page_address a ≡ true) (unmap s a g)
    unfolding unmap
    unmap_address = checked 5 λ e1. checked 7 λ e2. checked 11 λ e3. then_done e2

    leaf_stays : Then (λ s'. (t : ℕ) × (leaf s' g (a / 4096) ≡ some t)) (unmap s a g)
    unfolding unmap
    leaf_stays =
        checked 5 λ e1. checked 7 λ e2. checked 11 λ e3.
        let o = some_is (translate s g (a / 4096)) e3 in
        let w = translate_from s g (a / 4096) o.0 o.1 o.2 in
        let t = w.0 in
        let l = address_low a e2 in
        let ht = leaf_kind s c g (a / 4096) t l w.1 in
        rw (without_is s c g (a / 4096) t o.0 o.1 w.1 o.2)
        (then_done (
          t,
          same_leaf s c (without_page s t (a / 4096 % 512) o.0 g) t g (a / 4096 / 512) (a / 4096 % 512) ht (omega arith)
              (λ h. unfold without_page in refl) (λ h. unfold without_page in refl)
              (λ t' j ne. unfold without_page in set_other s c t g (a / 4096 / 512) (a / 4096 % 512) ht (omega arith) 0 empty
              (entry_empty s.first) t' j ne) g (a / 4096) l ∙ w.1,
        ))

    pub after_unmap : AskedAt g a none s'
    after_unmap =
        let core = (then_is (unmap s a g) s' (unmap_good s c nothing_kept (nothing_ok s) g a) e).core in
        let at = address_is a (then_is (unmap s a g) s' unmap_address e) in
        let way = then_is (unmap s a g) s' leaf_stays e in
        record {
          core = core;
          aligned = at.0;
          low = at.1;
          there = is_there s' core g (a / 4096) way.0 way.1;
          page = unmapped_after s c g a s' e;
        }

-- what document 01's walk then comes to, at offset k of the page
module _ {s : State} {b : ℕ} {m : List ℕ} (x : Image s b m) {g a : ℕ} {o : Option Page} (y : AskedAt g a o s) (k : ℕ) (l : k < 4096)
    (w : Access) where
  says_asked : says s b g (a + k) w ≡ comes b k 0 w o
  unfolding says
  says_asked =
      let aligned = y.aligned in
      let page : (a + k) / 4096 ≡ a / 4096 = omega arith in
      let offset : (a + k) % 4096 ≡ k = omega arith in
      rw (page, offset, y.there.whole, y.page)

  below : a + k < 2 ^ 48
  below = let aligned = y.aligned in let h = y.low in omega arith

  pub walk_asked : (stage_2 m b (b + 4096 * s.root g) (access w) (a + k)).result ≡ comes b k 0 w o
  walk_asked = (walk_ends s y.core b m x g (a + k) w y.there.exists below).result ∙ says_asked
