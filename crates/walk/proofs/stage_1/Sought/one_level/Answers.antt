-- The descriptor's way through stage 2 decides how the walk goes on.
use Rattle.walk.proofs.Laws.Short.{reached_low}
use Rattle.walk.proofs.Laws.Walk.{arrives, was_lost, followed}
use native.Mathlib.Omega.{arith}
use mathlib.Core.Path.{sym}
use Rattle.walk_descriptor.specs.Numbers.{access_number, el_number}
use Rattle.walk.proofs.stage_1.Sought.one_level.Goals as goal

pub from_descriptor-requires : goal.from_descriptor-requires
from_descriptor-requires c =
    let low = reached_low _ _ _ _ _ _ c.walk.ensures c.in-Ok.is in
    let few = low.1 in
    (c.requires.0, low.0, omega arith)

pub returns-in-Err : goal.returns-in-Err
returns-in-Err c =
    record {
      so = sym (was_lost (arrives _ _ _ (access_number c.args.self.access) (el_number c.args.self.el) _ _ _ _ c.requires.0
          c.slot-ipa.ensures.0 c.walk.ensures) c.in-Err.is);
    }

pub returns-in-Ok : goal.returns-in-Ok
returns-in-Ok c =
    followed (arrives _ _ _ (access_number c.args.self.access) (el_number c.args.self.el) _ _ _ _ c.requires.0 c.slot-ipa.ensures.0
    c.walk.ensures) c.in-Ok.is c.from_descriptor.ensures
