-- Document 01, section 4: one stage, whatever its descriptors are fetched from and whatever is made of its end.
-- Both stages are this one walk (section 5).
use Rattle.std.specs.Prelude.{ℕ, zero, suc, ◌+◌, ◌-◌, ◌%◌, Bool, cond, eqb}
use Rattle.walk_descriptor.specs.declared.FaultKind.{FaultKind}
use Rattle.walk_descriptor.specs.declared.FaultKind.TheVariants.{Translation, NotModelled, AccessFlag, Permission}
use Rattle.walk_descriptor.specs.Descriptor.{last_level, span, slot, bit, address, is_table, is_valid, is_modelled}

pub record Stage (A : Type 0) : Type 0 where
  -- whether the rights in a descriptor allow the access
  pub allows : ℕ → Bool
  -- a fault of a kind at a level
  pub fault : FaultKind → ℕ → A
  -- an output address
  pub output : ℕ → A

module _ {A : Type 0} (s : Stage A) (ia : ℕ) where
  -- "2. Invalid: TRANSLATION at this level. 3. Not modelled: NOT_MODELLED at this level."
  unfoldable pub valid : (level d : ℕ) → A → A
  valid level d next =
      cond (is_valid level d) (cond (is_modelled level d) next (s.fault NotModelled level)) (s.fault Translation level)

  -- "5. A block or page: if bit 10 is 0, ACCESS_FLAG at this level. If the rights don't allow the access, PERMISSION at this level.
  -- Otherwise the result is the output address with the input's offset in the block or page."
  unfoldable pub leaf : (level d : ℕ) → A
  leaf level d =
      cond (eqb (bit 10 d) 0) (s.fault AccessFlag level)
      (cond (s.allows d) (s.output (address d + ia % span level)) (s.fault Permission level))

  -- "4. A table: go on one level down." `below` goes on from there.
  unfoldable pub meaning : (level d : ℕ) (below : ℕ → A) → A
  meaning level d below = valid level d (cond (is_table level d) (below (address d)) (leaf level d))

  -- "From the table at the root address, for levels 0 to 3: 1. Fetch the descriptor."
  -- `fetch` takes the level, the descriptor's address and what follows from its value. `left` levels are left below the table's.
  -- At the last level no descriptor is a table.
  unfoldable pub walk_from : (fetch : ℕ → ℕ → (ℕ → A) → A) (left table : ℕ) → A
  walk_from fetch zero table = fetch last_level (slot last_level ia table) (λ d. valid last_level d (leaf last_level d))
  walk_from fetch (suc left) table =
      let level = last_level - suc left in
      fetch level (slot level ia table) (λ d. meaning level d (walk_from fetch left))
