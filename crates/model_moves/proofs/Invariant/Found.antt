-- What the processor can find is what the invariant says of it; so it may keep any part of it.
use mathlib.Core.Path.{◌≡◌, sym, ap, ◌∙◌}
use mathlib.Core.Bool.{true≢false}
use mathlib.Core.Logic.{◌⊎◌, inl, inr}
use Prim.Native.Nat.{ℕ, suc, ◌+◌, ◌/◌}
use native.Mathlib.Omega.{arith}
use Rattle.model.specs.Translate.{upper}
use Rattle.model_moves.specs.Spaces.{Spaces, table, Leads}
use Rattle.model_moves.specs.Cache.{Caches, Table, from_root, from_kept, from_word, Translation, kept, read_off, Looks}
use Rattle.model_moves.proofs.Invariant.Core.{Core, Kept, TableOk, PageOk, Gone, no_next, no_output, sole, one_way}

module _ (s : Spaces) (k : Caches) (c : Core s) (q : Kept s k) where
  pub table_found : {d h p x : ℕ} → Table s k d h p x → TableOk s d h p x
  table_found {d} (from_root {h} {p} {x} l e i z) = ((s.space d).root + p, z, inl (rw e (c.roots d p l i)))
  table_found (from_kept a) = q.table_ok _ _ _ _ a
  table_found {d} (from_word {h} {p} {x} {y} t a e l i) = go (table_found a)
    where
      go : TableOk s d (suc h) (p / 512) x → TableOk s d h p y
      go b =
          let b1 = b.1 in
          let t= : b.0 ≡ t = omega arith in
          elim (rw t= at b.2) [
            | inl z ↦ let n = c.nexts d h p t y z i in (n.0, n.1, inl n.2)
            | inr z ↦ absurd (no_next (c.bare t d (suc h) (p / 512) p z.0) i)
          ]

  pub table_found_gone : {d h p x : ℕ} → Table s k d h p x → Gone s d
  table_found_gone (from_root l e i z) = λ n. absurd (true≢false (sym l ∙ n))
  table_found_gone (from_kept a) = q.table_gone _ _ _ _ a
  table_found_gone (from_word t a e l i) = table_found_gone a

  -- what is found was kept, or the tables say it now
  pub traced : {d v x r : ℕ} → Translation s k d v x r → k.page_kept d v x r ⊎ ((f : ℕ) × (x ≡ s.first + f) × Leads s d v f r)
  traced (kept a) = inl a
  traced {d} {v} (read_off {x} {r} h z t y a e l i o) = inr (go (table_found a))
    where
      go : TableOk s d h (upper h v / 512) z → (f : ℕ) × (x ≡ s.first + f) × Leads s d v f r
      go b =
          let b1 = b.1 in
          let t= : b.0 ≡ t = omega arith in
          elim (rw t= at b.2) [
            | inl m ↦ let n = c.leaves d v h t y r (inl m) i in (n.0, o ∙ n.1, (h, t, m, (y, i, n.1)))
            | inr m ↦ absurd (no_output (c.bare t d h (upper h v / 512) (upper h v) m.0) i)
          ]

  pub page_found : {d v x r : ℕ} → Translation s k d v x r → PageOk s d v x r
  page_found a = elim (traced a) [ inl b ↦ q.page_ok _ _ _ _ b | inr b ↦ (b.0, b.1, inl b.2) ]

  pub page_found_gone : {d v x r : ℕ} → Translation s k d v x r → Gone s d
  page_found_gone (kept a) = q.page_gone _ _ _ _ a
  page_found_gone (read_off h z t y a e l i o) = table_found_gone a

  -- a page is never found at two places, or with two sets of rights
  pub found_one : {d v x r x' r' : ℕ} → Translation s k d v x r → Translation s k d v x' r' → (x ≡ x') × (r ≡ r')
  found_one {d} {v} {x} {r} {x'} {r'} a b = go (traced a) (traced b)
    where
      both : (f f' : ℕ) → x ≡ s.first + f → Leads s d v f r → x' ≡ s.first + f' → Leads s d v f' r' → (x ≡ x') × (r ≡ r')
      both f f' e m e' m' = let w = one_way s c d v f r f' r' m m' in let w0 = w.0 in (omega arith, w.1)

      mixed : {y : ℕ} {n : ℕ} → k.page_kept d v y n → (f r'' : ℕ) → Leads s d v f r'' → (f' : ℕ) × (y ≡ s.first + f') × Leads s d v f' n
      mixed {y} {n} z f r'' m = let o = q.page_ok d v y n z in (o.0, o.1, elim o.2 [ inl w ↦ w | inr w ↦ absurd (w.0 f r'' m) ])

      go : (k.page_kept d v x r ⊎ ((f : ℕ) × (x ≡ s.first + f) × Leads s d v f r)) →
          (k.page_kept d v x' r' ⊎ ((f : ℕ) × (x' ≡ s.first + f) × Leads s d v f r')) → (x ≡ x') × (r ≡ r')
      go (inl z) (inl w) = q.one d v x r x' r' z w
      go (inl z) (inr w) = let n = mixed z w.0 r' w.2 in both n.0 w.0 n.1 n.2 w.1 w.2
      go (inr z) (inl w) = let n = mixed w z.0 r z.2 in both z.0 n.0 z.1 z.2 n.1 n.2
      go (inr z) (inr w) = both z.0 w.0 z.1 z.2 w.1 w.2

  -- a table that is found was kept, or is in use now
  pub table_traced : {d h p x : ℕ} → Table s k d h p x → k.table_kept d h p x ⊎ ((t : ℕ) × (x ≡ s.first + t) × (s.kind t ≡ table d h p))
  table_traced {d} (from_root {h} {p} {x} l e i z) = inr ((s.space d).root + p, z, rw e (c.roots d p l i))
  table_traced (from_kept a) = inl a
  table_traced {d} (from_word {h} {p} {x} {y} t a e l i) = inr (go (table_found a))
    where
      go : TableOk s d (suc h) (p / 512) x → (t : ℕ) × (y ≡ s.first + t) × (s.kind t ≡ table d h p)
      go b =
          let b1 = b.1 in
          let t= : b.0 ≡ t = omega arith in
          elim (rw t= at b.2) [
            | inl z ↦ c.nexts d h p t y z i
            | inr z ↦ absurd (no_next (c.bare t d (suc h) (p / 512) p z.0) i)
          ]

  -- and a range never has two tables
  pub found_one_table : {d h p x x' : ℕ} → Table s k d h p x → Table s k d h p x' → x ≡ x'
  found_one_table {d} {h} {p} {x} {x'} a b = go (table_traced a) (table_traced b)
    where
      Now : ℕ → Type 0
      Now x = (t : ℕ) × (x ≡ s.first + t) × (s.kind t ≡ table d h p)

      both : Now x → Now x' → x ≡ x'
      both m n = m.1 ∙ ap (λ (i : ℕ). s.first + i) (sole s c d h p m.0 n.0 m.2 n.2) ∙ sym n.1

      mixed : {y z : ℕ} → k.table_kept d h p y → Now z → Now y
      mixed {y} {z} e n = let o = q.table_ok d h p y e in (o.0, o.1, elim o.2 [ inl w ↦ w | inr w ↦ absurd (w.2 n.0 n.2) ])

      go : (k.table_kept d h p x ⊎ Now x) → (k.table_kept d h p x' ⊎ Now x') → x ≡ x'
      go (inl m) (inl n) = q.one_table d h p x x' m n
      go (inl m) (inr n) = both (mixed m n) n
      go (inr m) (inl n) = both m (mixed n m)
      go (inr m) (inr n) = both m n

  pub looks_kept : (k' : Caches) → Looks s k k' → Kept s k'
  looks_kept k' l = record {
    table_ok = λ d h p x a. table_found (l.tables d h p x a);
    page_ok = λ d v x r a. page_found (l.pages d v x r a);
    one_table = λ d h p x x' a b. found_one_table (l.tables d h p x a) (l.tables d h p x' b);
    one = λ d v x r x' r' a b. found_one (l.pages d v x r a) (l.pages d v x' r' b);
    table_gone = λ d h p x a. table_found_gone (l.tables d h p x a);
    page_gone = λ d v x r a. page_found_gone (l.pages d v x r a);
  }

-- what can be found with a part of what was found, could be found
module _ (s : Spaces) (k k' : Caches) (l : Looks s k k') where
  table_back : {c h p x : ℕ} → Table s k' c h p x → Table s k c h p x
  table_back (from_root e i j z) = from_root e i j z
  table_back (from_kept a) = l.tables _ _ _ _ a
  table_back (from_word t a e i j) = from_word t (table_back a) e i j

  pub looks_back : {c v x r : ℕ} → Translation s k' c v x r → Translation s k c v x r
  looks_back (kept a) = l.pages _ _ _ _ a
  looks_back (read_off h z t y a e i j q) = read_off h z t y (table_back a) e i j q
