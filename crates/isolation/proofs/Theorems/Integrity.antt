-- Contents: no call, refused or done, changes a byte of a page that stays with its guest; nor of a frame that drains, nor of the
-- monitor's.
-- Integrity: a byte of a page changes only by a store of its owner, of a guest that it is shared with for writing, or of the host.
-- Any steps of the slices from set-up, then any call, or any step. (What give clears was free before.)
use Rattle.std.specs.Prelude.{◌≡◌, refl, ◌⊎◌, ℕ, ◌+◌, ◌*◌, ◌<◌, get_or}
use Rattle.model.specs.State.{KindOfFrame, monitor, free, table, page, draining_table, draining_page}
use Rattle.ledger.specs.Layout.{size_of, kind_of}
use Rattle.isolation_runs.specs.Calls.{Call}
use Rattle.isolation_runs.specs.Slices.{Slices, Called, Step, Run, Begun}
use Rattle.isolation_runs.specs.Terms.{Written}
use Rattle.isolation.specs.Integrity.{Held, a_page, a_draining_page, a_draining_table, the_monitor's}
use Rattle.isolation_runs.proofs.Laws.Runs.{always_fits}
use Rattle.isolation_runs.proofs.Isolation.Contents.{stays, written_so}

module _ {x y : Slices} (begun : Begun x) (run : Run x y) where
  pub contents : {z : Slices} (c : Call) (r : ℕ) → Called c r y z → (f : ℕ) (k : KindOfFrame) → kind_of y.ledger f ≡ k → Held k →
      f < size_of y.ledger → (o : ℕ) → o < 4096 → get_or z.ram (f * 4096 + o) 0 ≡ get_or y.ram (f * 4096 + o) 0
  contents {z} c r a f (page g) e a_page = stays y z (always_fits begun run) c r a f (page g) e refl refl
  contents {z} c r a f (draining_page g) e a_draining_page = stays y z (always_fits begun run) c r a f (draining_page g) e refl refl
  contents {z} c r a f (draining_table g h p) e a_draining_table =
      stays y z (always_fits begun run) c r a f (draining_table g h p) e refl refl
  contents {z} c r a f monitor e the_monitor's = stays y z (always_fits begun run) c r a f monitor e refl refl
  contents c r a f free e h = elim h [ ]
  contents c r a f (table g height range) e h = elim h [ ]

  pub integrity : {z : Slices} (s : Step y z) (f p : ℕ) → kind_of y.ledger f ≡ page p → f < size_of y.ledger → (o : ℕ) → o < 4096 →
      (get_or z.ram (f * 4096 + o) 0 ≡ get_or y.ram (f * 4096 + o) 0) ⊎ Written s f
  integrity {z} = written_so y z (always_fits begun run)
