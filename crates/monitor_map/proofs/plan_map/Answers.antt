-- What was granted is known from here on; the way ends at the last table that is there.
use Rattle.std.proofs.lemmas.Result.{err_from_is_err_and}
use Rattle.monitor_map.proofs.Laws.Map.{plan_asked, plan_guest, plan_page, plan_10, plan_3, plan_go}
use Rattle.monitor_map.proofs.plan_map.Goals as goal

pub returns-in_err-check_map : goal.returns-in_err-check_map
returns-in_err-check_map c = let p = err_from_is_err_and c.from_residual.result c.from_residual.ensures.1 in rw (p.1, p.2)
    (plan_asked c.requires c.args.f c.args.g c.args.a c.args.r _ c.in_err-check_map.ensures)

pub descend-place-requires-clause-g_value : goal.descend-place-requires-clause-g_value
descend-place-requires-clause-g_value c = (
  plan_guest c.requires c.args.f c.args.g c.args.a c.args.r c.in_ok-check_map.ensures,
  plan_page c.requires c.args.f c.args.g c.args.a c.args.r c.in_ok-check_map.ensures,
)

pub is_mapped-requires-clause-g_value : goal.is_mapped-requires-clause-g_value
is_mapped-requires-clause-g_value c = plan_guest c.requires c.args.f c.args.g c.args.a c.args.r c.in_ok-check_map.ensures

pub returns-then-is_mapped : goal.returns-then-is_mapped
returns-then-is_mapped c = plan_10 c.requires c.args.f c.args.g c.args.a c.args.r c.in_ok-check_map.ensures c.descend-place.ensures _
    c.is_mapped.ensures c.if-is_mapped.true

pub returns-then-free-place : goal.returns-then-free-place
returns-then-free-place c = plan_3 c.requires c.args.f c.args.g c.args.a c.args.r c.in_ok-check_map.ensures c.descend-place.ensures _
    c.is_mapped.ensures c.if-is_mapped.false c.free.result c.free.ensures.0 c.if-free-place.true

pub returns : goal.returns
returns c = plan_go c.requires c.args.f c.args.g c.args.a c.args.r c.in_ok-check_map.ensures c.descend-place.ensures _
    c.is_mapped.ensures c.if-is_mapped.false c.free.result c.free.ensures.0 c.if-free-place.false
