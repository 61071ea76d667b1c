use Prim.Native.Nat.{◌*◌, ◌-◌, ◌≤◌, ◌<◌}
use mathlib.Core.Path.{◌≡◌}
use Rattle.memory.specs.Ram.{address_end}
use Rattle.walk_descriptor.specs.Descriptor.{last_level}
use Rattle.walk_descriptor.specs.Numbers.{access_number, el_number}
use Rattle.walk.specs.Both.{stage_1}
use Rattle.walk.specs.Steps.{most_by_level, answered, from_table_1}
use Rattle.walk.proofs.stage_1.Sought.walk.Given as goal

abbrev pub invariant-levels : goal.invariant-levels
invariant-levels l =
    (l.level ≤ last_level) × (l.at.table < address_end) × (l.at.fetched ≤ most_by_level * l.level)
    × (answered 0 (stage_1 l.ram l.self.stage_2.base l.fn.root1 l.self.stage_2.root l.self.va (access_number l.self.access)
    (el_number l.self.el))
    ≡ answered l.at.fetched (from_table_1 l.ram l.self.stage_2.base l.self.stage_2.root (access_number l.self.access)
    (el_number l.self.el) l.self.va (last_level - l.level) l.at.table))
