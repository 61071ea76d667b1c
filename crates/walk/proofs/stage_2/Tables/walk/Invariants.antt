use Prim.Native.Nat.{◌+◌, ◌-◌, ◌≤◌, ◌<◌}
use mathlib.Core.Path.{◌≡◌}
use Rattle.memory.specs.Ram.{address_end}
use Rattle.walk_descriptor.specs.Descriptor.{last_level}
use Rattle.walk_descriptor.specs.Numbers.{access_number}
use Rattle.walk.specs.Both.{stage_2}
use Rattle.walk.specs.Steps.{ended, from_table_2}
use Rattle.walk.proofs.stage_2.Tables.walk.Given as goal

abbrev pub invariant-levels : goal.invariant-levels
invariant-levels l =
    (l.level ≤ last_level) × (l.table < address_end)
    × (ended l.before (stage_2 l.ram l.self.base l.self.root (access_number l.fn.access) l.ipa)
    ≡ ended (l.before + l.level)
    (from_table_2 l.ram l.self.base (access_number l.fn.access) l.ipa (last_level - l.level) l.table))

abbrev pub decreases-levels : goal.decreases-levels
decreases-levels l = last_level - l.level
