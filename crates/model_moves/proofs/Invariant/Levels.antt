-- The level is part of a translation: a page is never found in leaves of two heights, and a range that has a table is never found in a
-- block.
use mathlib.Core.Path.{◌≡◌, refl, sym, ap, ◌∙◌}
use mathlib.Core.Bool.{Bool, true, false}
use mathlib.Core.Logic.{◌⊎◌, inl, inr}
use Prim.Native.Nat.{ℕ, suc, ◌+◌, ◌-◌, ◌<◌, ◌/◌, ◌%◌}
use native.Mathlib.Omega.{arith}
use Rattle.model.proofs.Laws.Base.{bool?}
use Rattle.model.specs.Translate.{upper}
use Rattle.model.specs.Cache.{invalid, output, descriptor}
use Rattle.model_moves.specs.Spaces.{Spaces, table}
use Rattle.model_moves.specs.Cache.{Caches, Table, Level, kept_level, read_level, Looks, forget}
use Rattle.model_moves.specs.Moves.{Report, reported}
use Rattle.model_moves.proofs.Invariant.Core.{TableIs, Core, Kept, Gone, no_next, no_output, next_not, above, only_here}
use Rattle.model_moves.proofs.Invariant.Found.{table_found, table_traced, table_found_gone}
use Rattle.model_moves.proofs.Invariant.Report

-- page v's leaf is at height l
abbrev pub LeafAt : Spaces → (c v l : ℕ) → Type 0
LeafAt s c v l = (t y r : ℕ) × (s.kind t ≡ table c l (upper l v / 512)) × (descriptor l (s.word t (upper l v % 512)) ≡ output y r)

module _ (s : Spaces) (k : Core s) where
  -- a table for v has no leaf for v above it
  pub no_leaf_above : (c v h t l : ℕ) → s.kind t ≡ table c h (upper h v / 512) → h < l → LeafAt s c v l → ⊥
  no_leaf_above c v h t l a n b = next_not (above s k (l - suc h) c v h l t b.0 (omega arith) a b.3).1 b.4

  one_leaf : (c v l l' : ℕ) → LeafAt s c v l → LeafAt s c v l' → l ≡ l'
  one_leaf c v l l' a b = (only_here s k c v l' b.0 l a.0 a.1 a.2 b.3 (λ y e. next_not e b.4) a.3 a.4).0

  pub no_leaf : (c v h q t l : ℕ) → s.kind t ≡ table c h (q / 512) → descriptor h (s.word t (q % 512)) ≡ invalid → upper h v ≡ q →
      LeafAt s c v l → ⊥
  no_leaf c v h q t l a e i b =
      let a' : s.kind t ≡ table c h (upper h v / 512) = rw (← i) at a in
      let e' : descriptor h (s.word t (upper h v % 512)) ≡ invalid = rw (← i) at e in
      let w = only_here s k c v h t l b.0 b.1 b.2 a' (λ n z. no_next e' z) b.3 b.4 in
      no_output e' (ap (λ (n : ℕ). descriptor n (s.word t (upper n v % 512))) (sym w.0)
      ∙ ap (λ (n : ℕ). descriptor l (s.word n (upper l v % 512))) (sym w.1) ∙ b.4)

-- no leaf now, no table below that height, and all that the leaf served is in one slot
pub record LevelOld (s : Spaces) (c v l : ℕ) : Type 0 where
  pub unled : (l' : ℕ) → LeafAt s c v l' → ⊥
  pub flat : (h t : ℕ) → h < l → s.kind t ≡ table c h (upper h v / 512) → ⊥
  pub slot : ℕ
  pub all : (w : ℕ) → upper l w ≡ upper l v → s.stale c slot w ≡ true

pub record Levels (s : Spaces) (k : Caches) : Type 0 where
  pub level_ok : (c v l : ℕ) → k.level_kept c v l → LeafAt s c v l ⊎ LevelOld s c v l
  pub one_level : (c v l l' : ℕ) → k.level_kept c v l → k.level_kept c v l' → l ≡ l'
  pub unblocked : (c h p x v l : ℕ) → k.table_kept c h p x → upper h v / 512 ≡ p → h < l → LeafAt s c v l → ⊥
  pub apart : (c h p x v l : ℕ) → k.table_kept c h p x → upper h v / 512 ≡ p → h < l → k.level_kept c v l → ⊥
  pub level_gone : (c v l : ℕ) → k.level_kept c v l → Gone s c

-- what can be found
module _ (s : Spaces) (k : Caches) (c : Core s) (q : Kept s k) (z : Levels s k) where
  level_traced : {d v l : ℕ} → Level s k d v l → k.level_kept d v l ⊎ LeafAt s d v l
  level_traced (kept_level a) = inl a
  level_traced {d} {v} {l} (read_level z t y r a e n i) = inr (go (table_found s k c q a))
    where
      go : (u : ℕ) × (z ≡ s.first + u) × TableIs s d l (upper l v / 512) u → LeafAt s d v l
      go b =
          let b1 = b.1 in
          let t= : b.0 ≡ t = omega arith in
          elim (rw t= at b.2) [
            | inl m ↦ (t, y, r, m, i)
            | inr m ↦ absurd
                (no_output (c.bare t d l (upper l v / 512) (upper l v) m.0) i)
          ]

  level_found : {d v l : ℕ} → Level s k d v l → LeafAt s d v l ⊎ LevelOld s d v l
  level_found a = elim (level_traced a) [ inl b ↦ z.level_ok _ _ _ b | inr b ↦ inl b ]

  level_found_gone : {d v l : ℕ} → Level s k d v l → Gone s d
  level_found_gone (kept_level a) = z.level_gone _ _ _ a
  level_found_gone (read_level x t y r a e n i) = table_found_gone s k c q a

  pub found_one_level : {d v l l' : ℕ} → Level s k d v l → Level s k d v l' → l ≡ l'
  found_one_level {d} {v} {l} {l'} a b = go (level_traced a) (level_traced b)
    where
      now : {n m : ℕ} → k.level_kept d v n → LeafAt s d v m → LeafAt s d v n
      now {n} {m} x y = elim (z.level_ok d v n x) [ inl w ↦ w | inr w ↦ absurd (w.unled m y) ]

      go : (k.level_kept d v l ⊎ LeafAt s d v l) → (k.level_kept d v l' ⊎ LeafAt s d v l') → l ≡ l'
      go (inl x) (inl y) = z.one_level d v l l' x y
      go (inl x) (inr y) = one_leaf s c d v l l' (now x y) y
      go (inr x) (inl y) = one_leaf s c d v l l' x (now y x)
      go (inr x) (inr y) = one_leaf s c d v l l' x y

  -- a table, and a leaf above it for one of its pages
  pub found_apart : {d h p x : ℕ} (v l : ℕ) → Table s k d h p x → upper h v / 512 ≡ p → h < l → Level s k d v l → ⊥
  found_apart {d} {h} {p} {x} v l a e n b = go (table_traced s k c q a) (level_traced b)
    where
      go : (k.table_kept d h p x ⊎ ((t : ℕ) × (x ≡ s.first + t) × (s.kind t ≡ table d h p))) →
          (k.level_kept d v l ⊎ LeafAt s d v l) → ⊥
      go (inl m) (inl w) = z.apart d h p x v l m e n w
      go (inl m) (inr w) = z.unblocked d h p x v l m e n w
      go (inr m) (inl w) =
          let t = m.2 ∙ ap (table d h) (sym e) in elim
          (z.level_ok d v l w) [ inl y ↦ no_leaf_above s c d v h m.0 l t n y | inr y ↦ y.flat h m.0 n t ]
      go (inr m) (inr w) = no_leaf_above s c d v h m.0 l (m.2 ∙ ap (table d h) (sym e)) n w

  found_unblocked : {d h p x : ℕ} (v l : ℕ) → Table s k d h p x → upper h v / 512 ≡ p → h < l → LeafAt s d v l → ⊥
  found_unblocked {d} {h} {p} {x} v l a e n b = elim (table_traced s k c q a) [
    | inl m ↦ z.unblocked d h p x v l m e n b
    | inr m ↦ no_leaf_above s c d v h m.0 l (m.2 ∙ ap (table d h) (sym e)) n b
  ]

  pub looks_levels : (k' : Caches) → Looks s k k' → Levels s k'
  looks_levels k' y = record {
    level_ok = λ d v l a. level_found (y.levels d v l a);
    one_level = λ d v l l' a b. found_one_level (y.levels d v l a) (y.levels d v l' b);
    unblocked = λ d h p x v l a e n b. found_unblocked v l (y.tables d h p x a) e n b;
    apart = λ d h p x v l a e n b. found_apart v l (y.tables d h p x a) e n (y.levels d v l b);
    level_gone = λ d v l a. level_found_gone (y.levels d v l a);
  }

pub report_levels : (s : Spaces) (k : Caches) (c : ℕ) (R D : ℕ → Bool) → Report s c R D → Levels s k →
    Levels (reported s c D) (forget k c R)
unfolding forget
report_levels s k c R D m z = record {
  level_ok = λ d v l a. elim (z.level_ok d v l a.0) [
    | inl e ↦ inl e
    | inr e ↦ let st = stays d e.slot v (e.all v refl) a.1 in
        inr (record {
          unled = e.unled;
          flat = e.flat;
          slot = e.slot;
          all = λ w u. Report.stale_stays s c R D m d e.slot w (e.all w u) st;
        })
  ];
  one_level = λ d v l l' a b. z.one_level d v l l' a.0 b.0;
  unblocked = λ d h p x v l a. z.unblocked d h p x v l a.0;
  apart = λ d h p x v l a e n b. z.apart d h p x v l a.0 e n b.0;
  level_gone = λ d v l a n. let w = z.level_gone d v l a.0 n in
      let st = stays d w.0 v (w.1 v) a.1 in
      (w.0, λ u. Report.stale_stays s c R D m d w.0 u (w.1 u) st);
}
  where
    stays : (d j v : ℕ) → s.stale d j v ≡ true → (d ≡ c → R v ≡ true → ⊥) → d ≡ c → D j ≡ false
    stays d j v e n p = elim (bool? (D j)) [
      | inr x ↦ x
      | inl x ↦ absurd
          (n p (m.covered j v x (ap (λ (i : ℕ). s.stale i j v) (sym p) ∙ e)))
    ]
