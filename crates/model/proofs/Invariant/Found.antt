-- What the processor can find is what the invariant says of it; so it may keep it all.
use mathlib.Core.Path.{◌≡◌, refl, sym, ap, ◌∙◌}
use mathlib.Core.Bool.{false}
use mathlib.Core.Logic.{◌⊎◌, inl, inr}
use Prim.Native.Nat.{ℕ, zero, suc, ◌+◌, ◌*◌, ◌<◌, ◌/◌, ◌%◌}
use native.Mathlib.Omega.{arith}
use Rattle.model.specs.State.{State, table, draining_table, draining_page, page_count}
use Rattle.model.specs.Entry.{Entry, empty, to_table, to_page, other, entry}
use Rattle.model.proofs.Laws.Entry.{is_empty, is_table, is_to_page, page_low, descriptor_empty, descriptor_table, descriptor_page}
use Rattle.model.specs.Translate.{upper, index, entry_at}
use Rattle.model.specs.Cache.{invalid, next, output, descriptor, inside, Caches, Table, from_root, from_kept, from_word, Translation, kept, read_off, grown}
use Rattle.model.specs.Invariant.{May, LeadsTo, Fits, Stale, Core, Kept, Mapped}
use Rattle.model.proofs.Invariant.Core.{in_room}
use Rattle.model.proofs.Invariant.Pages.{may_room}

-- an output stands in a last table, and is the page that the entry says
abbrev OutOf : (s : State) (h x p r : ℕ) (P : ℕ → ℕ → Type 0) → Type 0
OutOf s h x p r P = (h ≡ 0) × ((f : ℕ) × (p ≡ s.first + f) × (entry s.first x ≡ to_page f r) × P f r)

-- what the bits say of an entry
module _ (s : State) (T : (t h q : ℕ) → Type 0) (P : (f r : ℕ) → Type 0) (table_room : (t h q : ℕ) → T t h q → s.first + t < page_count)
    (page_room : (f r : ℕ) → P f r → s.first + f < page_count) where
  next_is : (h q x y : ℕ) → LeadsTo T P (suc h) q (entry s.first x) → descriptor (suc h) x ≡ next y →
      (t : ℕ) × (y ≡ s.first + t) × T t h q
  next_is h q x y k e = go (entry s.first x) refl k
    where
      go : (z : Entry) → entry s.first x ≡ z → LeadsTo T P (suc h) q z → (t : ℕ) × (y ≡ s.first + t) × T t h q
      go empty i k = let a : invalid ≡ next y = sym (descriptor_empty (suc h)) ∙ ap (descriptor (suc h)) (sym (is_empty s.first x i))
          ∙ e in let z : ◌≡◌ {A = ℕ} 0 1 = cc in absurd (omega arith)
      go (to_table t) i k =
          let a : next (s.first + t) ≡ next y = sym (descriptor_table s.first t (table_room t h q k) h)
          ∙ ap (descriptor (suc h)) (sym (is_table s.first x t i)) ∙ e in
          (t, cc, k)
      go (to_page f r) i k = absurd k
      go (other z) i k = absurd k

  out_is : (h q x p r : ℕ) → LeadsTo T P h q (entry s.first x) → descriptor h x ≡ output p r → OutOf s h x p r P
  out_is h q x p r k e = go h (entry s.first x) refl k e
    where
      go : (h : ℕ) (z : Entry) → entry s.first x ≡ z → LeadsTo T P h q z → descriptor h x ≡ output p r → OutOf s h x p r P
      go h empty i k e = let a : invalid ≡ output p r = sym (descriptor_empty h) ∙ ap (descriptor h) (sym (is_empty s.first x i))
          ∙ e in let z : ◌≡◌ {A = ℕ} 0 1 = cc in absurd (omega arith)
      go zero (to_table t) i k e = absurd k
      go (suc h) (to_table t) i k e =
          let a : next (s.first + t) ≡ output p r = sym (descriptor_table s.first t (table_room t h q k) h)
          ∙ ap (descriptor (suc h)) (sym (is_table s.first x t i)) ∙ e in
          let z : ◌≡◌ {A = ℕ} 0 1 = cc in absurd (omega arith)
      go zero (to_page f r') i k e =
          let a : output (s.first + f) r' ≡ output p r = sym
          (descriptor_page s.first f r' (page_room f r' k) (page_low s.first x f r' i))
          ∙ ap (descriptor 0) (sym (is_to_page s.first x f r' i)) ∙ e in
          let r= : r' ≡ r = cc in
          (refl, (f, cc, i ∙ ap (to_page f) r=, rw r= at k))
      go (suc h) (to_page f r') i k e = absurd k
      go h (other z) i k e = absurd k

module _ (s : State) (c : Core s) (g : ℕ) where
  next_fits : (h q x y : ℕ) → Fits s.kind (May s) g (suc h) q (entry s.first x) → descriptor (suc h) x ≡ next y →
      (t : ℕ) × (y ≡ s.first + t) × (s.kind t ≡ table g h q)
  next_fits = next_is s (λ t h q. s.kind t ≡ table g h q) (May s g) (λ t h q k. in_room s c t (table g h q) k refl) (may_room s c g)

  out_fits : (h q x p r : ℕ) → Fits s.kind (May s) g h q (entry s.first x) → descriptor h x ≡ output p r → OutOf s h x p r (May s g)
  out_fits = out_is s (λ t h q. s.kind t ≡ table g h q) (May s g) (λ t h q k. in_room s c t (table g h q) k refl) (may_room s c g)

  next_stale : (h q x y : ℕ) → Stale s.kind g (suc h) q (entry s.first x) → descriptor (suc h) x ≡ next y →
      (t : ℕ) × (y ≡ s.first + t) × (s.kind t ≡ draining_table g h q)
  next_stale = next_is s (λ t h q. s.kind t ≡ draining_table g h q) (λ f r. s.kind f ≡ draining_page g)
      (λ t h q k. in_room s c t (draining_table g h q) k refl) (λ f r k. in_room s c f (draining_page g) k refl)

  out_stale : (h q x p r : ℕ) → Stale s.kind g h q (entry s.first x) → descriptor h x ≡ output p r →
      OutOf s h x p r (λ f r. s.kind f ≡ draining_page g)
  out_stale = out_is s (λ t h q. s.kind t ≡ draining_table g h q) (λ f r. s.kind f ≡ draining_page g)
      (λ t h q k. in_room s c t (draining_table g h q) k refl) (λ f r k. in_room s c f (draining_page g) k refl)

module _ (s : State) (k : Caches) (c : Core s) (q : Kept s k) (g : ℕ) where
  abbrev IsTable : (h p x : ℕ) → Type 0
  IsTable h p x = (t : ℕ) × (x ≡ s.first + t) × ((s.kind t ≡ table g h p) ⊎ (s.kind t ≡ draining_table g h p))

  abbrev IsTableNow : (h p x : ℕ) → Type 0
  IsTableNow h p x = (t : ℕ) × (x ≡ s.first + t) × (s.kind t ≡ table g h p)

  abbrev IsPage : (x r : ℕ) → Type 0
  IsPage x r = (f : ℕ) × (x ≡ s.first + f) × (May s g f r ⊎ (s.kind f ≡ draining_page g))

  pub table_found : {h p x : ℕ} → Table s k g h p x → IsTable h p x
  table_found (from_root l e) = (s.root g, e, inl (c.roots g l))
  table_found (from_kept x) = q.table_ok g _ _ _ x
  table_found (from_word {h} {p} {x} {y} a t i e l m d) = go (table_found a)
    where
      go : IsTable (suc h) p x → IsTable h (p * 512 + i) y
      go b =
          let b1 = b.1 in
          let t= : b.0 ≡ t = omega arith in
          elim (rw t= at b.2) [
            | inl z ↦ let r = next_fits s c g h (p * 512 + i) (s.word t i) y (c.tables t g (suc h) p z i m) d in (r.0, r.1, inl r.2)
            | inr z ↦ let r = next_stale s c g h (p * 512 + i) (s.word t i) y (c.draining t g (suc h) p z i m) d
                in (r.0, r.1, inr r.2)
          ]

  -- what is found was kept, or an entry of a last table says it, of one in use or of one that drains
  abbrev Says : (h p t f r : ℕ) → Type 0
  Says h p t f r = ((s.kind t ≡ table g h p) × May s g f r) ⊎ ((s.kind t ≡ draining_table g h p) × (s.kind f ≡ draining_page g))

  abbrev pub FromEntry : (v x r : ℕ) → Type 0
  FromEntry v x r = (t f : ℕ) × (x ≡ s.first + f) × (entry_at s t (v % 512) ≡ to_page f r) × Says 0 (v / 512) t f r

  pub traced : {v x r : ℕ} → Translation s k g v x r → k.page_kept g v x r ⊎ FromEntry v x r
  traced (kept a) = inl a
  traced {v} (read_off {x} {r} h y t p a e l d o) = inr (go (table_found a))
    where
      last : (h f : ℕ) → h ≡ 0 → p ≡ s.first + f → x ≡ inside h p v → entry_at s t (index h v) ≡ to_page f r →
          Says h (upper (suc h) v) t f r → FromEntry v x r
      last zero f n p= o e b = unfold upper inside in (t, f, o ∙ p=, e, b)
      last (suc h) f n p= o e b = absurd (omega arith)

      go : IsTable h (upper (suc h) v) y → FromEntry v x r
      go b =
          let b1 = b.1 in
          let t= : b.0 ≡ t = omega arith in
          elim (rw t= at b.2) [
            | inl z ↦
                let u = out_fits s c g h (upper (suc h) v * 512 + index h v) (s.word t (index h v)) p r
                (c.tables t g h (upper (suc h) v) z (index h v) (omega arith)) d in
                let w = u.1 in last h w.0 u.0 w.1 o w.2 (inl (z, w.3))
            | inr z ↦
                let u = out_stale s c g h (upper (suc h) v * 512 + index h v) (s.word t (index h v)) p r
                (c.draining t g h (upper (suc h) v) z (index h v) (omega arith)) d in
                let w = u.1 in last h w.0 u.0 w.1 o w.2 (inr (z, w.3))
          ]

  pub page_found : {v x r : ℕ} → Translation s k g v x r → IsPage x r
  page_found a = elim (traced a) [
    | inl b ↦ q.page_ok g _ _ _ b
    | inr b ↦ (b.1, b.2, elim b.4 [ inl m ↦ inl m.1 | inr m ↦ inr m.1 ])
  ]

  module _ (d : s.dirty g ≡ false) where
    pub table_found_now : {h p x : ℕ} → Table s k g h p x → IsTableNow h p x
    table_found_now (from_root l e) = (s.root g, e, c.roots g l)
    table_found_now (from_kept x) = q.table_now g _ _ _ d x
    table_found_now (from_word {h} {p} {x} {y} a t i e l m z) = go (table_found_now a)
      where
        go : IsTableNow (suc h) p x → IsTableNow h (p * 512 + i) y
        go b =
            let b1 = b.1 in
            let t= : b.0 ≡ t = omega arith in
            next_fits s c g h (p * 512 + i) (s.word t i) y (c.tables t g (suc h) p (rw t= at b.2) i m) z

    pub page_found_now : {v x r : ℕ} → Translation s k g v x r → (f : ℕ) × (x ≡ s.first + f) × Mapped s g v f r
    page_found_now (kept a) = q.page_now g _ _ _ d a
    page_found_now {v} (read_off {x} {r} h y t p a e l z o) = go (table_found_now a)
      where
        last : (h f : ℕ) → h ≡ 0 → s.kind t ≡ table g h (upper (suc h) v) → p ≡ s.first + f → x ≡ inside h p v →
            entry_at s t (index h v) ≡ to_page f r → (f : ℕ) × (x ≡ s.first + f) × Mapped s g v f r
        last zero f n k p= o e = (f, o ∙ (unfold inside in p=), (t, unfold upper in k, unfold upper in e))
        last (suc h) f n k p= o e = absurd (omega arith)

        go : IsTableNow h (upper (suc h) v) y → (f : ℕ) × (x ≡ s.first + f) × Mapped s g v f r
        go b =
            let b1 = b.1 in
            let t= : b.0 ≡ t = omega arith in
            let k = rw t= at b.2 in
            let u = out_fits s c g h (upper (suc h) v * 512 + index h v) (s.word t (index h v)) p r
            (c.tables t g h (upper (suc h) v) k (index h v) (omega arith)) z in
            let w = u.1 in
            last h w.0 u.0 k w.1 o w.2

pub grown_kept : (s : State) (k : Caches) → Core s → Kept s k → Kept s (grown s k)
unfolding grown
grown_kept s k c q = record {
  table_ok = λ g h p x a. table_found s k c q g a;
  page_ok = λ g v x r a. page_found s k c q g a;
  table_now = λ g h p x d a. table_found_now s k c q g d a;
  page_now = λ g v x r d a. page_found_now s k c q g d a;
}
