-- What document 01 reads in the entries that the monitor writes: bit by bit, and the rights for each kind of access.
use mathlib.Core.Path.{◌≡◌, refl, ap, ◌∙◌}
use Prim.Native.Nat.{ℕ, zero, suc, ◌+◌, ◌*◌, ◌-◌, ◌<◌, ◌/◌, ◌%◌, ◌^◌}
use native.Mathlib.Omega.{arith}
use lib.Dec.{eqb}
use Rattle.walk_descriptor.specs.Descriptor.{address, allows_2}
use Rattle.walk.proofs.Laws.Level.{rights_at}
use Rattle.model.specs.State.{page_count}
use Rattle.model.specs.Entry.{table_entry, page_entry}
use Rattle.model.proofs.Laws.Entry.{table_page, page_bits}
use Rattle.model.specs.Cache.{Access, reading, writing, executing, grants}
use Rattle.model.specs.Bytes.{access}

module _ (first t : ℕ) (l : first + t < page_count) where
  pub table_low : table_entry first t / 2 ^ 48 % 8 ≡ 0
  unfolding table_entry
  table_low = omega arith

  pub table_high : table_entry first t / 2 ^ 59 ≡ 0
  unfolding table_entry
  table_high = omega arith

  pub table_address : address (table_entry first t) ≡ 4096 * first + 4096 * t
  table_address = let z = table_page first t l in omega arith

-- bit 54 says the contrary
contrary : (x : ℕ) → x < 2 → eqb (1 - x) 0 ≡ eqb x 1
contrary zero l = refl
contrary (suc zero) l = refl
contrary (suc (suc x)) l = absurd (omega arith)

module _ (first f r : ℕ) (l : first + f < page_count) where
  pub page_address : address (page_entry first f r) ≡ 4096 * first + 4096 * f
  page_address = let z = (page_bits first f r l).page in omega arith

  pub page_allows : (w : Access) → allows_2 (access w) (page_entry first f r) ≡ grants r w
  page_allows reading = rights_at 0 _ ∙ ap (λ (x : ℕ). eqb x 1) (page_bits first f r l).read
  page_allows writing = rights_at 1 _ ∙ ap (λ (x : ℕ). eqb x 1) (page_bits first f r l).write
  page_allows executing = rights_at 2 _ ∙ ap (λ (x : ℕ). eqb x 0) (page_bits first f r l).never ∙ contrary (r / 4 % 2) (omega arith)
