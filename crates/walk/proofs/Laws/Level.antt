-- One level of a walk of stage 2, for crates above: what follows from the descriptor d that stands in RAM for this address.
-- The walk stands at a table of level 3 - left, as rest-2 of Steps; stage 2 begins with 3 left.
use Prim.Native.Nat.{ℕ, suc, ◌+◌, ◌*◌, ◌-◌, ◌/◌, ◌%◌, ◌≤◌, ◌<◌}
use mathlib.Core.Path.{◌≡◌, refl, ap, ◌∙◌}
use mathlib.Core.Bool.{Bool, true, false, cond}
use mathlib.Core.List.{List, [], ◌∷◌}
use mathlib.Core.Option.{Option, some}
use native.Mathlib.Omega.{arith}
use borrow.Author.Tests.{lt-ltb, le-leb}
use lib.Dec.{eqb, ltb}
use lib.ListN.{length}
use Rattle.memory.specs.Word.{word_at}
use Rattle.memory.specs.Ram.{frame_bytes}
use Rattle.walk_descriptor.specs.declared.FaultKind.TheVariants.{WalkAbort, Translation, Permission}
use Rattle.walk.specs.Memory.{read_at}
use Rattle.walk_descriptor.specs.Descriptor.{span, slot, bit, address, allows_2, last_level, table_entries, descriptor_bytes, to_read, to_write, bits_50_to_48, bits_63_to_59, low_bits}
use Rattle.walk_level.specs.Stage.{valid, leaf, meaning}
use Rattle.walk.specs.Both.{ends, having_fetched, fetched_at, reached, failed, rules_2, fetch_2, stage_2}
use Rattle.walk.specs.Steps.{from_table_2}
use Rattle.walk.proofs.Laws.OneLevel.{one_level_left}

-- the descriptor o bytes into RAM
pub read_in : (m : List ℕ) (b o : ℕ) → o + 8 ≤ length m → read_at m b (b + o) ≡ some (word_at m o)
unfolding read_at
read_in m b o room =
    let back : b + o - b ≡ o = omega arith in
    rw (back, le-leb b (b + o) (omega arith), le-leb (o + 8) (length m) room)

pub slot_at : (level ipa table : ℕ) → slot level ipa table ≡ table + descriptor_bytes * (ipa / span level % table_entries)
unfolding slot
slot_at level ipa table = refl

-- the rights of stage 2, for any kind of access
pub rights_at : (access d : ℕ) → allows_2 access d
    ≡ cond (eqb access to_read) (eqb (bit 6 d) 1) (cond (eqb access to_write) (eqb (bit 7 d) 1) (eqb (bit 54 d) 0))
unfolding allows_2
rights_at access d = refl

module _ (m : List ℕ) (b access ipa : ℕ) where
  pub stage_2_from_table : (root : ℕ) → stage_2 m b root access ipa ≡ from_table_2 m b access ipa 3 root
  unfolding stage_2
  stage_2_from_table root = refl

  met : (left table d : ℕ) → read_at m b (slot (last_level - left) ipa table) ≡ some d
      → from_table_2 m b access ipa left table
      ≡ having_fetched (slot (last_level - left) ipa table ∷ [])
      (meaning (rules_2 access) ipa (last_level - left) d (from_table_2 m b access ipa (left - 1)))
  unfolding fetch_2
  met left table d here =
      one_level_left (rules_2 access) ipa (fetch_2 m b) left table
      ∙ ap (λ (o : Option ℕ). fetched_at (slot (last_level - left) ipa table) o (ends (failed WalkAbort (last_level - left)))
      (λ d. meaning (rules_2 access) ipa (last_level - left) d (from_table_2 m b access ipa (left - 1)))) here

  -- "0 or 2 | any | invalid": here the descriptor 0
  pub level_empty : (left table : ℕ) → read_at m b (slot (last_level - left) ipa table) ≡ some 0
      → from_table_2 m b access ipa left table
      ≡ having_fetched (slot (last_level - left) ipa table ∷ []) (ends (failed Translation (last_level - left)))
  level_empty left table here = met left table 0 here ∙ ap (having_fetched (slot (last_level - left) ipa table ∷ [])) invalid
    where
      invalid : meaning (rules_2 access) ipa (last_level - left) 0 (from_table_2 m b access ipa (left - 1))
          ≡ ends (failed Translation (last_level - left))
      invalid = unfold meaning valid rules_2 in refl

  -- "3 | 0, 1, 2 | table: bits 47..12 are the next table's address", with bits 50..48 and 63..59 clear
  pub level_table : (left table d : ℕ) → left < last_level → read_at m b (slot (last_level - suc left) ipa table) ≡ some d
      → low_bits d ≡ 3 → bits_50_to_48 d ≡ 0 → bits_63_to_59 d ≡ 0
      → from_table_2 m b access ipa (suc left) table
      ≡ having_fetched (slot (last_level - suc left) ipa table ∷ []) (from_table_2 m b access ipa left (address d))
  level_table left table d le here three low high =
      met (suc left) table d here ∙ ap (having_fetched (slot (last_level - suc left) ipa table ∷ []))
      (down ∙ ap (λ (k : ℕ). from_table_2 m b access ipa k (address d)) (omega arith))
    where
      below : ltb (last_level - suc left) 3 ≡ true
      below = lt-ltb (last_level - suc left) 3 (omega arith)

      down : meaning (rules_2 access) ipa (last_level - suc left) d (from_table_2 m b access ipa (suc left - 1))
          ≡ from_table_2 m b access ipa (suc left - 1) (address d)
      down = unfold meaning valid in rw (three, below, low, high)

  -- "3 | 3 | page of 4 KiB", with bits 50..48 clear and the access flag set
  pub level_page : (table d : ℕ) → read_at m b (slot 3 ipa table) ≡ some d → low_bits d ≡ 3 → bits_50_to_48 d ≡ 0 → bit 10 d ≡ 1
      → from_table_2 m b access ipa 0 table
      ≡ having_fetched (slot 3 ipa table ∷ [])
      (ends (cond (allows_2 access d) (reached (address d + ipa % frame_bytes)) (failed Permission 3)))
  level_page table d here three low flag =
      met 0 table d here ∙ ap (having_fetched (slot 3 ipa table ∷ [])) (page ∙ either (allows_2 access d))
    where
      aligned : address d % span 3 ≡ 0
      aligned = omega arith

      page : meaning (rules_2 access) ipa 3 d (from_table_2 m b access ipa (0 - 1))
          ≡ cond (allows_2 access d) (ends (reached (address d + ipa % span 3))) (ends (failed Permission 3))
      page = unfold meaning valid leaf rules_2 in rw (three, low, flag, aligned)

      either : (t : Bool) → cond t (ends (reached (address d + ipa % span 3))) (ends (failed Permission 3))
          ≡ ends (cond t (reached (address d + ipa % frame_bytes)) (failed Permission 3))
      either true = refl
      either false = refl
