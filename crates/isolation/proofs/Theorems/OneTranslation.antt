-- Break before make: a page of a guest never has two translations, that is, page of physical memory, rights, and height of the leaf;
-- nor has a range two tables, nor a table and a block: whatever the tables say and whatever was kept. It is why map refuses 14.
-- Any steps of the slices from set-up; any guest, page, range.
use Rattle.std.specs.Prelude.{◌≡◌, ℕ, ◌<◌, ◌/◌}
use Rattle.model.specs.Translate.{upper}
use Rattle.isolation_runs.specs.Slices.{Slices, Run, Begun}
use Rattle.isolation_runs.specs.Terms.{Finds, FindsHeight, FindsTable}
use Rattle.isolation_runs.proofs.Laws.Runs.{are_runs}
use Rattle.model_isolation.specs.OneTranslation as O
use Rattle.model_isolation.specs.OneTable as B

module _ {x y : Slices} (begun : Begun x) (run : Run x y) where
  pub one_translation : (g v p r p' r' : ℕ) → Finds y g v p r → Finds y g v p' r' → (p ≡ p') × (r ≡ r')
  one_translation = let r = are_runs begun run in O.one_translation r.0 r.1

  pub one_height : (g v l l' : ℕ) → FindsHeight y g v l → FindsHeight y g v l' → l ≡ l'
  one_height = let r = are_runs begun run in O.one_level r.0 r.1

  pub one_table : (g h q p p' : ℕ) → FindsTable y g h q p → FindsTable y g h q p' → p ≡ p'
  one_table = let r = are_runs begun run in B.one_table r.0 r.1

  pub table_or_block : (g h p v l : ℕ) → FindsTable y g h (upper h v / 512) p → h < l → FindsHeight y g v l → ⊥
  table_or_block = let r = are_runs begun run in B.table_or_block r.0 r.1
