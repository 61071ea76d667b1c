-- Linked holds after any run from set_up; and what is counted for a guest, the guest's tables lead to at some address.
use mathlib.Core.Path.{◌≡◌, refl, sym, ◌∙◌}
use mathlib.Core.Bool.{Bool, true, false, ◌&&◌, cond}
use mathlib.Core.Logic.{inl, inr}
use mathlib.Core.Option.{some}
use Prim.Native.Nat.{ℕ, zero, suc, ◌+◌, ◌*◌, ◌<◌, ◌/◌, ◌%◌}
use native.Mathlib.Omega.{arith}
use lib.Dec.{eqb, ltb}
use borrow.Author.Tests.{eqb-true}
use Rattle.memory.specs.Ram.{ram_fits}
use Rattle.model.proofs.Laws.Base.{lt?, and_true}
use Rattle.model.specs.Base.{sum}
use Rattle.model.specs.State.{State, KindOfFrame, monitor, free, table, draining_table, page, draining_page, page_count}
use Rattle.model.specs.Entry.{Entry, empty, to_table, to_page, other}
use Rattle.model.specs.Translate.{entry_at, leaf, translate}
use Rattle.model.specs.Operations.{done, check, started, set_up}
use Rattle.model.specs.Cache.{writing}
use Rattle.model.specs.Machine.{Machine, Run, SetUp}
use Rattle.model.specs.Invariant.{is_last, leads, hit, places, Core}
use Rattle.model.proofs.Invariant.Core.{low}
use Rattle.model.proofs.Invariant.Counts.{places_zero}
use Rattle.model.proofs.Invariant.Way.{leaf_kind, leaf_there, translate_from, translate_at}
use Rattle.model.proofs.Invariant.Holds.{StoresKeep, run_keeps, set_up_holds, neither}
use Rattle.model.proofs.Invariant.Allowed.{frame_allowed, not_allowed}
use Rattle.model.proofs.Invariant.Linked.{Linked, answer_linked, stored_linked, comes_there}

pub set_up_linked : (fits : Bool) (b n k : ℕ) (w : ℕ → ℕ → ℕ) (s : State) → set_up fits b n k w ≡ done s → Linked s
unfolding set_up check started
set_up_linked fits b n k w s e = go (fits && ram_fits b n && ltb k n) e
  where
    go : (t : Bool) → check t 4 (done (started b n k w)) ≡ done s → Linked s
    go true e = let z : started b n k w ≡ s = cc in let y : Linked (started b n k w) =
        record { hangs = λ t g h p a. absurd (neither n k t (table g h p) a refl refl) } in rw z at y
    go false e = let z : ◌≡◌ {A = ℕ} 0 1 = cc in absurd (omega arith)

pub linked_always : {m z : Machine} → SetUp m → Run m z → Linked z.state
linked_always {m} x r = run_keeps Linked answer_linked written r (set_up_holds x)
    (set_up_linked true x.b x.n x.k x.word m.state x.accepted)
  where
    written : StoresKeep Linked
    written m h l g f o x n b a = stored_linked m.state l f o x
        (λ g' h' p k. not_allowed m.state g f writing (table g' h' p) k refl refl
        (frame_allowed h g writing ((m.state.first + f) * 4096 + o) f (omega arith) a))

module _ (s : State) (c : Core s) where
  -- nothing counted, nothing translates to it
  pub uncounted : (f g : ℕ) → s.count f g ≡ 0 → (v r : ℕ) → v < page_count → translate s g v ≡ some (f, r) → ⊥
  uncounted f g z v r l e =
      let w = translate_from s g v f r e in
      let k = leaf_kind s c g v w.0 l w.1 in
      places_zero s f g (sym (c.counts f g) ∙ z) w.0 (v / 512) (v % 512) r (low s c w.0 (table g 0 (v / 512)) k refl) (omega arith)
      k w.2

-- a sum that is not 0 has a part that is not
sum_some : (n : ℕ) (f : ℕ → ℕ) → 0 < sum n f → (k : ℕ) × (k < n) × (0 < f k)
unfolding sum
sum_some zero f l = absurd (omega arith)
sum_some (suc n) f l = elim (lt? 0 (f n)) [
  | inl a ↦ (n, omega arith, a)
  | inr a ↦ let b = sum_some n f (omega arith) in let b1 = b.1 in (b.0, omega arith, b.2)
]

hit_is : (x : KindOfFrame) (e : Entry) (f g : ℕ) → 0 < hit x e f g → (p r : ℕ) × (x ≡ table g 0 p) × (e ≡ to_page f r)
unfolding hit
hit_is x e f g l = go x e l
  where
    none : 0 < 0 → (x : KindOfFrame) (e : Entry) → (p r : ℕ) × (x ≡ table g 0 p) × (e ≡ to_page f r)
    none l x e = absurd (omega arith)

    no_bool : (b : Bool) → 0 < cond (b && false) 1 0 → ⊥
    no_bool true l = omega arith
    no_bool false l = omega arith

    parts : (a b : Bool) → 0 < cond (a && b) 1 0 → (a ≡ true) × (b ≡ true)
    parts true true l = (refl, refl)
    parts true false l = absurd (omega arith)
    parts false b l = absurd (omega arith)

    last : (g' n p : ℕ) (e : Entry) → 0 < cond ((eqb g' g && eqb n 0) && leads e f) 1 0 →
        (p' r : ℕ) × (table g' n p ≡ table g 0 p') × (e ≡ to_page f r)
    last g' n p empty l = absurd (no_bool (eqb g' g && eqb n 0) l)
    last g' n p (to_table t) l = absurd (no_bool (eqb g' g && eqb n 0) l)
    last g' n p (other y) l = absurd (no_bool (eqb g' g && eqb n 0) l)
    last g' n p (to_page f' r) l =
        let a = parts (eqb g' g && eqb n 0) (eqb f' f) l in
        let b = and_true (eqb g' g) (eqb n 0) a.0 in
        let g= = eqb-true g' g b.0 in
        let n= = eqb-true n 0 b.1 in
        let f= = eqb-true f' f a.1 in
        (p, r, cc, cc)

    go : (x : KindOfFrame) (e : Entry) → 0 < cond (is_last x g && leads e f) 1 0 → (p r : ℕ) × (x ≡ table g 0 p) × (e ≡ to_page f r)
    go monitor e l = none l monitor e
    go free e l = none l free e
    go (draining_table g' n p) e l = none l (draining_table g' n p) e
    go (page g') e l = none l (page g') e
    go (draining_page g') e l = none l (draining_page g') e
    go (table g' n p) e l = last g' n p e l

module _ (s : State) (c : Core s) where
  -- what is counted stands in a table
  pub counted : (f g : ℕ) → 0 < s.count f g → (t p i r : ℕ) × (i < 512) × (s.kind t ≡ table g 0 p) × (entry_at s t i ≡ to_page f r)
  unfolding places
  counted f g n =
      let e = c.counts f g in
      let a = sum_some s.size (λ t. sum 512 (λ i. hit (s.kind t) (entry_at s t i) f g)) (omega arith) in
      let b = sum_some 512 (λ i. hit (s.kind a.0) (entry_at s a.0 i) f g) a.2 in
      let d = hit_is (s.kind a.0) (entry_at s a.0 b.0) f g b.2 in
      (a.0, d.0, b.0, d.1, b.1, d.2, d.3)

module _ (s : State) (c : Core s) (l : Linked s) where
  -- tables serve pages below 2^36
  abbrev Below : (d p : ℕ) → Type 0
  Below zero p = p ≡ 0
  Below (suc d) p = Below d (p / 512)

  below : (d h t g p : ℕ) → h + d ≡ 3 → s.kind t ≡ table g h p → Below d p
  below zero h t g p e k = elim (l.hangs t g h p k) [
    | inl x ↦ let r = c.roots g (c.table_exists t g h p k) in let x1 = x.1 in cc
    | inr x ↦ let z = x.3 in absurd (omega arith)
  ]
  below (suc d) h t g p e k = elim (l.hangs t g h p k) [
    | inl x ↦ let z = x.0 in absurd (omega arith)
    | inr x ↦ below d (suc h) x.0 g (p / 512) (omega arith) x.1
  ]

  pub last_low : (t g v : ℕ) → s.kind t ≡ table g 0 (v / 512) → v < page_count
  last_low t g v k = let z : v / 512 / 512 / 512 / 512 ≡ 0 = below 3 0 t g (v / 512) (omega arith) k in omega arith

  -- a last table is where the way to its pages leads
  last_leaf : (t g v : ℕ) → s.kind t ≡ table g 0 (v / 512) → leaf s g v ≡ some t
  last_leaf t g v k = leaf_there s c g v (c.table_exists t g 0 (v / 512) k) ∙ comes_there s c l g v t k

  -- so an entry of it is what its page translates to
  pub entry_translates : (t g v f r : ℕ) → s.kind t ≡ table g 0 (v / 512) → entry_at s t (v % 512) ≡ to_page f r →
      translate s g v ≡ some (f, r)
  entry_translates t g v f r k e = translate_at s g v t f r (last_leaf t g v k) e

  -- what is counted translates somewhere
  pub mapped_somewhere : (f g : ℕ) → 0 < s.count f g → (v r t : ℕ) × (v < page_count) × (s.exists g ≡ true) × (leaf s g v ≡ some t) ×
      (translate s g v ≡ some (f, r))
  mapped_somewhere f g n =
      let a = counted s c f g n in
      let t = a.0 in let p = a.1 in let i = a.2 in let r = a.3 in
      let li = a.4 in
      let v = p * 512 + i in
      let up : (p * 512 + i) / 512 ≡ p = omega arith in
      let ix : (p * 512 + i) % 512 ≡ i = omega arith in
      let k : s.kind t ≡ table g 0 (v / 512) = rw up a.5 in
      (v, r, t, last_low t g v k, c.table_exists t g 0 p a.5, last_leaf t g v k, entry_translates t g v f r k (rw ix a.6))
