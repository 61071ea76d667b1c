-- What the tables say, the processor can find: so what document 01's walk comes to is reached, in the sense of Cache.
use mathlib.Core.Path.{◌≡◌, refl, sym, ap, ◌∙◌}
use mathlib.Core.Bool.{Bool, true, false, cond}
use mathlib.Core.Logic.{◌⊎◌, inl, inr}
use mathlib.Core.List.{List}
use mathlib.Core.Option.{Option, none, some}
use Prim.Native.Nat.{ℕ, zero, suc, ◌+◌, ◌*◌, ◌<◌, ◌/◌, ◌%◌, ◌^◌}
use native.Mathlib.Omega.{arith}
use native.Mathlib.Nat.{div-add-mod'}
use Rattle.walk_descriptor.specs.declared.FaultKind.{FaultKind}
use Rattle.walk_descriptor.specs.declared.FaultKind.TheVariants.{Permission}
use Rattle.walk_descriptor.specs.declared.FaultKind.TheVariants.{Translation as TranslationFault}
use Rattle.walk.specs.Both.{reached, failed, stage_2}
use Rattle.model.specs.State.{State, table, page_count}
use Rattle.model.specs.Entry.{Entry, empty, to_table, to_page, other}
use Rattle.model.proofs.Laws.Entry.{is_table, is_to_page, page_low, descriptor_table, descriptor_page}
use Rattle.model.specs.Translate.{upper, index, entry_at, descend, Page, translate, missing}
use Rattle.model.specs.Cache.{descriptor, next, output, inside, Caches, Table, from_root, from_word, Translation, read_off, Access, grants, Reach}
use Rattle.model.specs.Bytes.{Image, access, comes, says}
use Rattle.model.specs.Invariant.{May, Core}
use Rattle.model.proofs.Invariant.Core.{low, in_room}
use Rattle.model.proofs.Invariant.Way.{root_serves, step_kind, leaf_kind, leaf_from, translate_from}
use Rattle.model.proofs.Invariant.Pages.{may_room}
use Rattle.model.proofs.Invariant.Bridge.{walk_ends}

module _ (s : State) (c : Core s) (k : Caches) (g v : ℕ) where
  -- the table at the end of the way is found
  way_found : (h t u : ℕ) → Table s k g h (upper (suc h) v) (s.first + t) → s.kind t ≡ table g h (upper (suc h) v) →
      descend s h t v ≡ some u → Table s k g 0 (upper 1 v) (s.first + u)
  unfolding descend
  way_found zero t u a b e = let same : t ≡ u = cc in rw same at a
  way_found (suc h) t u a b e = go (way_found h) (entry_at s t (index (suc h) v)) refl
    where
      range : upper (suc (suc h)) v * 512 + index (suc h) v ≡ upper (suc h) v
      range = unfold upper in div-add-mod' (upper h v / 512) 512

      go : ((t u : ℕ) → Table s k g h (upper (suc h) v) (s.first + t) → s.kind t ≡ table g h (upper (suc h) v) →
          descend s h t v ≡ some u → Table s k g 0 (upper 1 v) (s.first + u)) → (x : Entry) →
          entry_at s t (index (suc h) v) ≡ x → Table s k g 0 (upper 1 v) (s.first + u)
      go ih (to_table t') q =
          let kind = step_kind s c g h t v t' b q in
          let d : descriptor (suc h) (s.word t (index (suc h) v)) ≡ next (s.first + t') =
          ap (descriptor (suc h)) (is_table s.first (s.word t (index (suc h) v)) t' q)
          ∙ descriptor_table s.first t' (in_room s c t' (table g h (upper (suc h) v)) kind refl) h in
          ih t' u (rw range at (from_word a t (index (suc h) v) refl (low s c t (table g (suc h) (upper (suc (suc h)) v)) b refl)
          (omega arith) d)) kind (cc)
      go ih empty q = let z : ◌≡◌ {A = ℕ} 0 1 = cc in absurd (omega arith)
      go ih (to_page f r) q = let z : ◌≡◌ {A = ℕ} 0 1 = cc in absurd (omega arith)
      go ih (other y) q = let z : ◌≡◌ {A = ℕ} 0 1 = cc in absurd (omega arith)

  pub seen : (f r : ℕ) → v < page_count → translate s g v ≡ some (f, r) → Translation s k g v (s.first + f) r
  unfolding upper inside
  seen f r l e =
      let w = translate_from s g v f r e in
      let u = w.0 in
      let a = leaf_from s c g v u w.1 in
      let root = root_serves (s.kind (s.root g)) g v (c.roots g a.0) l in
      let zero_range : 0 ≡ upper 4 v = omega arith in
      let top : Table s k g 3 0 (s.first + s.root g) = from_root a.0 refl in
      let last = way_found 3 (s.root g) u (rw zero_range at top) root a.1 in
      let ku = leaf_kind s c g v u l w.1 in
      let may : May s g f r = rw w.2 at (c.tables u g 0 (v / 512) ku (v % 512) (omega arith)) in
      let d : descriptor 0 (s.word u (v % 512)) ≡ output (s.first + f) r =
      ap (descriptor 0) (is_to_page s.first (s.word u (v % 512)) f r w.2)
      ∙ descriptor_page s.first f r (may_room s c g f r may) (page_low s.first (s.word u (v % 512)) f r w.2) in
      read_off 0 (s.first + u) u (s.first + f) last refl (low s c u (table g 0 (v / 512)) ku refl) d refl

-- what the state says, read backwards
pub reached_is : (b o k : ℕ) (w : Access) (x : Option Page) (p : ℕ) → comes b o k w x ≡ reached p →
    (f r : ℕ) × (x ≡ some (f, r)) × (grants r w ≡ true) × (p ≡ b + 4096 * f + o)
reached_is b o k w none p e = let z : ◌≡◌ {A = ℕ} 0 1 = cc in absurd (omega arith)
reached_is b o k w (some x) p e = let z = go (grants x.1 w) refl e in (x.0, x.1, refl, z.0, z.1)
  where
    go : (t : Bool) → grants x.1 w ≡ t → cond t (reached (b + 4096 * x.0 + o)) (failed Permission 3) ≡ reached p →
        (grants x.1 w ≡ true) × (p ≡ b + 4096 * x.0 + o)
    go true q e = (q, cc)
    go false q e = let z : ◌≡◌ {A = ℕ} 0 1 = cc in absurd (omega arith)

pub failed_is : (b o k : ℕ) (w : Access) (x : Option Page) (kind : FaultKind) (level : ℕ) → comes b o k w x ≡ failed kind level →
    (kind ≡ TranslationFault) ⊎ ((kind ≡ Permission) × (level ≡ 3))
failed_is b o k w none kind level e = inl (cc)
failed_is b o k w (some x) kind level e = go (grants x.1 w) e
  where
    go : (t : Bool) → cond t (reached (b + 4096 * x.0 + o)) (failed Permission 3) ≡ failed kind level →
        (kind ≡ TranslationFault) ⊎ ((kind ≡ Permission) × (level ≡ 3))
    go true e = let z : ◌≡◌ {A = ℕ} 0 1 = cc in absurd (omega arith)
    go false e = inr (cc, cc)

module _ (s : State) (c : Core s) (b : ℕ) (m : List ℕ) (x : Image s b m) (g a : ℕ) (w : Access) (e : s.exists g ≡ true)
    (l : a < 2 ^ 48) where
  pub walk_reached : (p : ℕ) → (stage_2 m b (b + 4096 * s.root g) (access w) a).result ≡ reached p →
      (f r : ℕ) × (translate s g (a / 4096) ≡ some (f, r)) × (grants r w ≡ true) × (p ≡ b + 4096 * f + a % 4096)
  unfolding says
  walk_reached p q = reached_is b (a % 4096) (missing s g (a / 4096)) w (translate s g (a / 4096)) p
      (sym (walk_ends s c b m x g a w e l).result ∙ q)

  pub walk_failed : (kind : FaultKind) (level : ℕ) → (stage_2 m b (b + 4096 * s.root g) (access w) a).result ≡ failed kind level →
      (kind ≡ TranslationFault) ⊎ ((kind ≡ Permission) × (level ≡ 3))
  unfolding says
  walk_failed kind level q = failed_is b (a % 4096) (missing s g (a / 4096)) w (translate s g (a / 4096)) kind level
      (sym (walk_ends s c b m x g a w e l).result ∙ q)

  pub walk_reaches : (k : Caches) (p : ℕ) → (stage_2 m b (b + 4096 * s.root g) (access w) a).result ≡ reached p → Reach s k g w p
  unfolding Reach
  walk_reaches k p q =
      let z = walk_reached p q in
      let base = x.base in
      let at = z.4 in
      let page : s.first + z.0 ≡ p / 4096 = omega arith in
      (a / 4096, z.1, rw page at (seen s c k g (a / 4096) z.0 z.1 (omega arith) z.2), z.3)
