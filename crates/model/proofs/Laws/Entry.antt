-- The laws of entries: what the monitor writes reads back, nothing is lost, and what the processor sees in it.
use mathlib.Core.Path.{◌≡◌, refl, sym, ap, ◌∙◌}
use mathlib.Core.Logic.{inl, inr}
use Prim.Native.Nat.{ℕ, suc, ◌+◌, ◌*◌, ◌-◌, ◌<◌, ◌/◌, ◌%◌, ◌^◌}
use native.Mathlib.Omega.{arith}
use lib.Dec.{eqb}
use borrow.Author.Tests.{eqb-true, eq-eqb, ne_eqb}
use Rattle.model.proofs.Laws.Base.{bool?}
use Rattle.model.specs.State.{page_count}
use Rattle.model.specs.Entry.{Entry, empty, to_table, to_page, other, entry, table_entry, page_entry, rights_of}
use Rattle.model.specs.Cache.{invalid, next, output, descriptor}

-- What the bits of a page's entry n say. F the number of the frame in physical memory, r and w 1 if reading and writing, x 1 if no
-- executing
pub record Bits (n F r w x : ℕ) : Type 0 where
  pub three : n % 4 ≡ 3
  pub page : n / 4096 % 0x1000000000 ≡ F
  pub low : n / 2 ^ 48 % 8 ≡ 0
  pub flag : n / 2 ^ 10 % 2 ≡ 1
  pub read : n / 64 % 2 ≡ r
  pub write : n / 128 % 2 ≡ w
  pub never : n / 0x40000000000000 % 2 ≡ x

bits : (F r w x : ℕ) → F < page_count → r < 2 → w < 2 → x < 2 → Bits (F * 4096 + 0x73f + 64 * r + 128 * w + 0x40000000000000 * x) F r w x
bits F r w x hF hr hw hx = record {
  three = omega arith;
  page = omega arith;
  low = omega arith;
  flag = omega arith;
  read = omega arith;
  write = omega arith;
  never = omega arith;
}

pub page_bits : (first f r : ℕ) → first + f < page_count → Bits (page_entry first f r) (first + f) (r % 2) (r / 2 % 2) (1 - r / 4 % 2)
unfolding page_entry
page_bits first f r l = bits (first + f) (r % 2) (r / 2 % 2) (1 - r / 4 % 2) l (omega arith) (omega arith) (omega arith)

-- the number of an entry
abbrev pub number : ℕ → Entry → ℕ
number first empty = 0
number first (to_table t) = table_entry first t
number first (to_page f r) = page_entry first f r
number first (other x) = x

pub entry_number : (first x : ℕ) → number first (entry first x) ≡ x
unfolding entry
entry_number first x = elim (bool? (eqb x 0)) [
  | inl a ↦ rw a (sym (eqb-true x 0 a))
  | inr a ↦ rw a (elim (bool? (eqb x (table_entry first f))) [
    | inl b ↦ rw b (sym (eqb-true x (table_entry first f) b))
    | inr b ↦ rw b (elim (bool? (eqb x (page_entry first f (rights_of x)))) [
      | inl d ↦ rw d (sym (eqb-true x (page_entry first f (rights_of x)) d))
      | inr d ↦ rw d
    ])
  ])
]
  where
    f : ℕ
    f = x / 4096 % 0x1000000000 - first

pub entry_empty : (first : ℕ) → entry first 0 ≡ empty
unfolding entry
entry_empty first = refl

pub is_empty : (first x : ℕ) → entry first x ≡ empty → x ≡ 0
is_empty first x e = sym (entry_number first x) ∙ ap (number first) e

pub is_table : (first x t : ℕ) → entry first x ≡ to_table t → x ≡ table_entry first t
is_table first x t e = sym (entry_number first x) ∙ ap (number first) e

pub is_to_page : (first x f r : ℕ) → entry first x ≡ to_page f r → x ≡ page_entry first f r
is_to_page first x f r e = sym (entry_number first x) ∙ ap (number first) e

module _ (first t : ℕ) (l : first + t < page_count) where
  pub table_page : table_entry first t / 4096 % 0x1000000000 ≡ first + t
  unfolding table_entry
  table_page = omega arith

  table_tail : table_entry first t % 4096 ≡ 3
  unfolding table_entry
  table_tail = omega arith

  pub table_kind : table_entry first t % 4 ≡ 3
  table_kind = let z = table_tail in omega arith

  pub entry_table : entry first (table_entry first t) ≡ to_table t
  unfolding entry
  entry_table =
      let back : first + t - first ≡ t = omega arith in
      rw (
        table_page,
        back,
        ne_eqb (table_entry first t) 0 (λ e. let z = table_tail in omega arith),
        eq-eqb (table_entry first t) (table_entry first t) refl,
      )

  pub descriptor_table : (h : ℕ) → descriptor (suc h) (table_entry first t) ≡ next (first + t)
  unfolding descriptor
  descriptor_table h = rw (table_kind, table_page)

twice_less : (b : ℕ) → b < 2 → 1 - (1 - b) ≡ b
twice_less b h = omega arith

sum_bits : (r : ℕ) → r < 8 → r % 2 + 2 * (r / 2 % 2) + 4 * (1 - (1 - r / 4 % 2)) ≡ r
sum_bits r h =
    let a : r / 4 % 2 ≡ r / 4 = omega arith in
    let b : r / 2 % 2 + 2 * (r / 4) ≡ r / 2 = omega arith in
    let d : r % 2 + 2 * (r / 2) ≡ r = omega arith in
    rw (twice_less (r / 4 % 2) (omega arith)) (join r (r % 2) (r / 2 % 2) (r / 4 % 2) (r / 2) (r / 4) a b d)
  where
    join : (r x y z p q : ℕ) → z ≡ q → y + 2 * q ≡ p → x + 2 * p ≡ r → x + 2 * y + 4 * z ≡ r
    join r x y z p q a b d = omega arith

module _ (first f r : ℕ) (l : first + f < page_count) (hr : r < 8) where
  page_rights : rights_of (page_entry first f r) ≡ r
  unfolding rights_of
  page_rights = let y = page_bits first f r l in rw (y.read, y.write, y.never) (sum_bits r hr)

  page_tail : page_entry first f r % 64 ≡ 63
  unfolding page_entry
  page_tail = omega arith

  pub entry_page : entry first (page_entry first f r) ≡ to_page f r
  unfolding entry
  entry_page =
      let back : first + f - first ≡ f = omega arith in
      let z = page_tail in
      rw (
        (page_bits first f r l).page,
        back,
        page_rights,
        ne_eqb (page_entry first f r) 0 (λ e. omega arith),
        ne_eqb (page_entry first f r) (table_entry first f)
            (λ (e : page_entry first f r ≡ table_entry first f). let y = table_tail first f l in omega arith),
        eq-eqb (page_entry first f r) (page_entry first f r) refl,
      )

  pub descriptor_page : descriptor 0 (page_entry first f r) ≡ output (first + f) r
  unfolding descriptor
  descriptor_page = let y = page_bits first f r l in rw (y.three, y.page, page_rights)

pub descriptor_empty : (h : ℕ) → descriptor h 0 ≡ invalid
unfolding descriptor
descriptor_empty h = refl

rights_low : (x : ℕ) → rights_of x < 8
unfolding rights_of
rights_low x = omega arith

-- the rights that are read are below 8, whatever the number
pub page_low : (first x f r : ℕ) → entry first x ≡ to_page f r → r < 8
unfolding entry
page_low first x f r e = elim (bool? (eqb x 0)) [
  | inl a ↦ let q = rw a at e in let z : ◌≡◌ {A = ℕ} 0 1 = cc in omega arith
  | inr a ↦ let q = rw a at e in elim (bool? (eqb x (table_entry first p))) [
    | inl b ↦ let y = rw b at q in let z : ◌≡◌ {A = ℕ} 0 1 = cc in omega arith
    | inr b ↦ let y = rw b at q in elim (bool? (eqb x (page_entry first p (rights_of x)))) [
      | inl d ↦ let y2 = rw d at y in let z : rights_of x ≡ r = cc in let w = rights_low x in omega arith
      | inr d ↦ let y2 = rw d at y in let z : ◌≡◌ {A = ℕ} 0 1 = cc in omega arith
    ]
  ]
]
  where
    p : ℕ
    p = x / 4096 % 0x1000000000 - first
