-- What holds of the ledger and the tables (Core), and of what the processor has kept (Kept). Every rule is about one entry, frame or
-- space.
use mathlib.Core.Path.{◌≡◌, sym, ap, ◌∙◌}
use mathlib.Core.Bool.{true, false}
use mathlib.Core.Logic.{◌⊎◌, inl, inr}
use Prim.Native.Nat.{ℕ, zero, suc, ◌+◌, ◌-◌, ◌≤◌, ◌<◌, ◌/◌, ◌%◌}
use native.Mathlib.Omega.{arith}
use lib.Dec.{eqb}
use borrow.Author.Tests.{eqb-false}
use Rattle.model.proofs.Laws.Base.{eq?, lt?}
use Rattle.model.specs.Translate.{upper}
use Rattle.model.specs.Cache.{Descriptor, invalid, next, output, descriptor, inside}
use Rattle.model_moves.specs.Spaces.{Spaces, FrameUse, monitor, free, claimed, table, emptied, page, draining, exists, May, Leads, Laid, Everything}
use Rattle.model_moves.specs.Cache.{Caches, Inside}

abbrev pub use_number : FrameUse → ℕ
use_number monitor = 0
use_number free = 1
use_number (claimed c h p) = 2
use_number (table c h p) = 3
use_number (emptied c h p) = 4
use_number (page g) = 5
use_number (draining g) = 6

pub clash : {x y : FrameUse} → x ≡ y → eqb (use_number x) (use_number y) ≡ false → ⊥
clash {x} {y} e q = eqb-false (use_number x) (use_number y) q (ap use_number e)

-- f is what the space may have, or was a page of its guest and waits for slot j of the space
abbrev pub Held : Spaces → (c f r j : ℕ) → Type 0
Held s c f r j = May s c f r ⊎ ((s.kind f ≡ draining (s.space c).serves) × (s.waits f c j ≡ true))

-- what a table of the space may say; once the space is no longer, as long as everything of it is stale
pub record Bears (s : Spaces) (c f r : ℕ) : Type 0 where
  pub may : exists s c ≡ true → May s c f r
  pub held : exists s c ≡ false → (j : ℕ) → Everything s c j → Held s c f r j

-- a table is a root, or a table above leads to it
abbrev pub Hangs : Spaces → (c h p t : ℕ) → Type 0
Hangs s c h p t = ((h ≡ (s.space c).height) × (p < (s.space c).wide) × (t ≡ (s.space c).root + p)) ⊎
    ((u : ℕ) × (s.kind u ≡ table c (suc h) (p / 512)) × (descriptor (suc h) (s.word u (p % 512)) ≡ next (s.first + t)) ×
    (h < (s.space c).height))

pub record Core (s : Spaces) : Type 0 where
  pub leaves : (c v h t y r : ℕ) → Laid s c h (upper h v / 512) t → descriptor h (s.word t (upper h v % 512)) ≡ output y r →
      (f : ℕ) × (inside h y v ≡ s.first + f) × Bears s c f r
  pub nexts : (c h q t y : ℕ) → s.kind t ≡ table c (suc h) (q / 512) → descriptor (suc h) (s.word t (q % 512)) ≡ next y →
      (t' : ℕ) × (y ≡ s.first + t') × (s.kind t' ≡ table c h q)
  pub alone : (t c h p i y : ℕ) → s.kind t ≡ claimed c h p → descriptor h (s.word t (i % 512)) ≡ next y → ⊥
  pub bare : (t c h p i : ℕ) → s.kind t ≡ emptied c h p → descriptor h (s.word t (i % 512)) ≡ invalid
  pub roots : (c p : ℕ) → exists s c ≡ true → p < (s.space c).wide → s.kind ((s.space c).root + p) ≡ table c (s.space c).height p
  pub hangs : (c h p t : ℕ) → s.kind t ≡ table c h p → Hangs s c h p t

-- t is what was kept as the table for this range: it is in use; or it is emptied, waits for a slot that has its whole range, and there is
-- no table for it now
abbrev pub TableIs : Spaces → (c h p t : ℕ) → Type 0
TableIs s c h p t =
    (s.kind t ≡ table c h p) ⊎ ((s.kind t ≡ emptied c h p) × ((j : ℕ) × (s.waits t c j ≡ true) × Inside (s.stale c j) h p) ×
    ((u : ℕ) → s.kind u ≡ table c h p → ⊥))

abbrev pub TableOk : Spaces → (c h p x : ℕ) → Type 0
TableOk s c h p x = (t : ℕ) × (x ≡ s.first + t) × TableIs s c h p t

-- the tables lead nowhere any more, and the page is stale
abbrev pub Old : Spaces → (c v f r : ℕ) → Type 0
Old s c v f r = ((f' r' : ℕ) → Leads s c v f' r' → ⊥) × ((j : ℕ) × (s.stale c j v ≡ true) × Held s c f r j)

abbrev pub PageOk : Spaces → (c v x r : ℕ) → Type 0
PageOk s c v x r = (f : ℕ) × (x ≡ s.first + f) × (Leads s c v f r ⊎ Old s c v f r)

abbrev pub Gone : Spaces → (c : ℕ) → Type 0
Gone s c = exists s c ≡ false → (j : ℕ) × Everything s c j

pub record Kept (s : Spaces) (k : Caches) : Type 0 where
  pub table_ok : (c h p x : ℕ) → k.table_kept c h p x → TableOk s c h p x
  pub page_ok : (c v x r : ℕ) → k.page_kept c v x r → PageOk s c v x r
  pub one : (c v x r x' r' : ℕ) → k.page_kept c v x r → k.page_kept c v x' r' → (x ≡ x') × (r ≡ r')
  pub one_table : (c h p x x' : ℕ) → k.table_kept c h p x → k.table_kept c h p x' → x ≡ x'
  pub table_gone : (c h p x : ℕ) → k.table_kept c h p x → Gone s c
  pub page_gone : (c v x r : ℕ) → k.page_kept c v x r → Gone s c

-- what words say is one thing
next_output : {y z r : ℕ} → next y ≡ output z r → ⊥
next_output {y} {z} {r} e = let z : ◌≡◌ {A = ℕ} 0 1 = cc in omega arith

pub next_not : {d : Descriptor} {y z r : ℕ} → d ≡ next y → d ≡ output z r → ⊥
next_not a b = next_output (sym a ∙ b)

invalid_next : {y : ℕ} → invalid ≡ next y → ⊥
invalid_next {y} e = let z : ◌≡◌ {A = ℕ} 0 1 = cc in omega arith

invalid_output : {y r : ℕ} → invalid ≡ output y r → ⊥
invalid_output {y} {r} e = let z : ◌≡◌ {A = ℕ} 0 1 = cc in omega arith

pub no_next : {d : Descriptor} {y : ℕ} → d ≡ invalid → d ≡ next y → ⊥
no_next a b = invalid_next (sym a ∙ b)

pub no_output : {d : Descriptor} {y r : ℕ} → d ≡ invalid → d ≡ output y r → ⊥
no_output a b = invalid_output (sym a ∙ b)

pub next_same : {d : Descriptor} {y z : ℕ} → d ≡ next y → d ≡ next z → y ≡ z
next_same {d} {y} {z} a b = cc

pub output_same : {d : Descriptor} {y z r q : ℕ} → d ≡ output y r → d ≡ output z q → (y ≡ z) × (r ≡ q)
output_same {d} {y} {z} {r} {q} a b = (cc, cc)

-- one place
pub same_place : {x : FrameUse} {c h q c' h' q' : ℕ} → x ≡ table c h (q / 512) → x ≡ table c' h' (q' / 512) → q' % 512 ≡ q % 512 →
    (c' ≡ c) × (h' ≡ h) × (q' ≡ q)
same_place {x} {c} {h} {q} {c'} {h'} {q'} a b e = let z : q' / 512 ≡ q / 512 = cc in (cc, cc, omega arith)

module _ (s : Spaces) (k : Core s) where
  pub height_low : (c h p t : ℕ) → s.kind t ≡ table c h p → h ≤ (s.space c).height
  height_low c h p t e = elim (k.hangs c h p t e) [ inl a ↦ let a0 = a.0 in omega arith | inr a ↦ let a3 = a.3 in omega arith ]

  -- a range has one table at each height
  sole_from : (d c h p t t' : ℕ) → h + d ≡ (s.space c).height → s.kind t ≡ table c h p → s.kind t' ≡ table c h p → t ≡ t'
  sole_from zero c h p t t' e a b = elim (k.hangs c h p t a) [
    | inr x ↦ let x3 = x.3 in absurd (omega arith)
    | inl x ↦ elim (k.hangs c h p t' b) [
      | inr y ↦ let y3 = y.3 in absurd (omega arith)
      | inl y ↦ x.2 ∙ sym y.2
    ]
  ]
  sole_from (suc d) c h p t t' e a b = elim (k.hangs c h p t a) [
    | inl x ↦ let x0 = x.0 in absurd (omega arith)
    | inr x ↦ elim (k.hangs c h p t' b) [
      | inl y ↦ let y0 = y.0 in absurd (omega arith)
      | inr y ↦
          let u = sole_from d c (suc h) (p / 512) x.0 y.0 (omega arith) x.1 y.1 in
          let z = next_same (ap (λ (n : ℕ). descriptor (suc h) (s.word n (p % 512))) (sym u) ∙ x.2) y.2 in
          omega arith
    ]
  ]

  pub sole : (c h p t t' : ℕ) → s.kind t ≡ table c h p → s.kind t' ≡ table c h p → t ≡ t'
  sole c h p t t' a b = let l = height_low c h p t a in sole_from ((s.space c).height - h) c h p t t' (omega arith) a b

  -- above a table for v, the entry for v leads to a table
  pub above : (d c v h h' t u : ℕ) → h' ≡ h + suc d → s.kind t ≡ table c h (upper h v / 512) → s.kind u ≡ table c h' (upper h' v / 512) →
      (y : ℕ) × (descriptor h' (s.word u (upper h' v % 512)) ≡ next y)
  unfolding upper
  above zero c v h h' t u e a b = let n : h' ≡ suc h = omega arith in elim (k.hangs c h (upper h v / 512) t a) [
    | inl x ↦ let x0 = x.0 in let l = height_low c h' (upper h' v / 512) u b in absurd (omega arith)
    | inr x ↦
        let b' : s.kind u ≡ table c (suc h) (upper h v / 512 / 512) = rw n at b in
        let z = sole c (suc h) (upper h v / 512 / 512) x.0 u x.1 b' in
        (s.first + t, rw n (ap (λ (m : ℕ). descriptor (suc h) (s.word m (upper h v / 512 % 512))) (sym z) ∙ x.2))
  ]
  above (suc d) c v h h' t u e a b = elim (k.hangs c h (upper h v / 512) t a) [
    | inl x ↦ let x0 = x.0 in let l = height_low c h' (upper h' v / 512) u b in absurd (omega arith)
    | inr x ↦ above d c v (suc h) h' x.0 u (omega arith) x.1 b
  ]

  -- where an entry for v leads to no table, the leaf for v is there or nowhere
  pub only_here : (c v h t h' t' y r : ℕ) → s.kind t ≡ table c h (upper h v / 512) →
      ((y : ℕ) → descriptor h (s.word t (upper h v % 512)) ≡ next y → ⊥) →
      s.kind t' ≡ table c h' (upper h' v / 512) → descriptor h' (s.word t' (upper h' v % 512)) ≡ output y r → (h' ≡ h) × (t' ≡ t)
  only_here c v h t h' t' y r a n b e = elim (lt? h h') [
    | inl l ↦ let z = above (h' - suc h) c v h h' t t' (omega arith) a b in absurd (next_not z.1 e)
    | inr l ↦ elim (eq? h h') [
      | inl q ↦ (sym q, sole c h' (upper h' v / 512) t' t b (rw q at a))
      | inr q ↦ let z = above (h - suc h') c v h' h t' t (omega arith) b a in absurd (n z.0 z.1)
    ]
  ]

  -- so the tables lead a page to one frame
  pub one_way : (c v f r f' r' : ℕ) → Leads s c v f r → Leads s c v f' r' → (f ≡ f') × (r ≡ r')
  one_way c v f r f' r' a b =
      let x = a.3 in let y = b.3 in
      let w = only_here c v a.0 a.1 b.0 b.1 y.0 r' a.2 (λ n e. next_not e x.1) b.2 y.1 in
      let w0 = w.0 in
      let d : descriptor a.0 (s.word a.1 (upper a.0 v % 512)) ≡ output y.0 r' =
      ap (λ (n : ℕ). descriptor n (s.word a.1 (upper n v % 512))) (sym w0)
      ∙ ap (λ (n : ℕ). descriptor b.0 (s.word n (upper b.0 v % 512))) (sym w.1) ∙ y.1 in
      let z = output_same x.1 d in
      let z0 = z.0 in
      let p : s.first + f ≡ s.first + f' = sym x.2 ∙ ap (λ (n : ℕ). inside a.0 n v) z0
      ∙ ap (λ (n : ℕ). inside n y.0 v) (sym w0) ∙ y.2 in
      (omega arith, z.1)

  -- an empty entry: its pages lead nowhere
  pub no_way : (c v h q t f r : ℕ) → s.kind t ≡ table c h (q / 512) → descriptor h (s.word t (q % 512)) ≡ invalid → upper h v ≡ q →
      Leads s c v f r → ⊥
  no_way c v h q t f r a e i b =
      let y = b.3 in
      let a' : s.kind t ≡ table c h (upper h v / 512) = rw (← i) at a in
      let e' : descriptor h (s.word t (upper h v % 512)) ≡ invalid = rw (← i) at e in
      let w = only_here c v h t b.0 b.1 y.0 r a' (λ n z. no_next e' z) b.2 y.1 in
      no_output e' (ap (λ (n : ℕ). descriptor n (s.word t (upper n v % 512))) (sym w.0)
      ∙ ap (λ (n : ℕ). descriptor b.0 (s.word n (upper b.0 v % 512))) (sym w.1) ∙ y.1)
