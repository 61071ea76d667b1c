-- Laws of specs/Entries: what the code decodes is where the entry leads.
use mathlib.Core.Path.{◌≡◌, ap, ◌∙◌}
use Prim.Native.Nat.{ℕ, ◌+◌, ◌*◌, ◌-◌, ◌≤◌, ◌/◌, ◌%◌}
use native.Mathlib.Omega.{arith}
use Rattle.model.specs.State.{page_count}
use Rattle.model.specs.Entry.{entry, to_table, to_page, table_entry, TABLE_BITS}
use Rattle.model.proofs.Laws.Entry.{is_table, is_to_page, page_bits}
use Rattle.monitor_tables.specs.Entries.{ToTable, ToPage, LeadsTo}

pub table_there : (first x : ℕ) → ToTable first x → (first ≤ x / 4096) × (entry first x ≡ to_table (x / 4096 - first))
table_there first x (t, e) =
    let n : x ≡ (first + t) * 4096 + TABLE_BITS = unfold table_entry in is_table first x t e in
    let d : t ≡ x / 4096 - first = omega arith in
    (omega arith, e ∙ ap to_table d)

pub frame_there : (first x : ℕ) → ToPage first x → (first ≤ x / 4096 % page_count) × LeadsTo first x (x / 4096 % page_count - first)
frame_there first x (f, (r, e), low) =
    let n : x / 4096 % page_count ≡ first + f = ap (λ (y : ℕ). y / 4096 % page_count) (is_to_page first x f r e)
    ∙ (page_bits first f r low).page in
    let d : f ≡ x / 4096 % page_count - first = omega arith in
    (omega arith, (r, e ∙ ap (λ (y : ℕ). to_page y r) d))
