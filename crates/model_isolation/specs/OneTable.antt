-- The same of tables: a range of a space never has two tables that the processor can come to; nor a table, kept or now, and a block that
-- has the range, kept or now. Any run from Start; any space, height and range.
use Rattle.std.specs.Prelude.{◌≡◌, refl, ℕ, ◌<◌, ◌/◌}
use Rattle.model.specs.Translate.{upper}
use Rattle.model_moves.specs.Cache.{Table, Level}
use Rattle.model_moves.specs.Machine.{Machine, Run}
use Rattle.model_moves.specs.Terms.{Start}
use Rattle.model_moves.proofs.Invariant.Found.{found_one_table}
use Rattle.model_moves.proofs.Invariant.Levels.{found_apart}
use Rattle.model_moves.proofs.Invariant.Always.{good, levels}

module _ {m z : Machine} (st : Start m) (run : Run m z) where
  pub one_table : (c h p x x' : ℕ) → Table z.spaces z.caches c h p x → Table z.spaces z.caches c h p x' → x ≡ x'
  one_table c h p x x' = let g = good st run in found_one_table z.spaces z.caches g.core g.kept

  pub table_or_block : (c h x v l : ℕ) → Table z.spaces z.caches c h (upper h v / 512) x → h < l →
      Level z.spaces z.caches c v l → ⊥
  table_or_block c h x v l a n b = let g = good st run in
      found_apart z.spaces z.caches g.core g.kept (levels st run) v l a refl n b
