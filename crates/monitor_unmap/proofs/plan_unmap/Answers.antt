-- The entry that the way comes to leads to a frame.
use mathlib.Core.Path.{◌∙◌, sym}
use Rattle.monitor_unmap.proofs.Laws.Unmap.{plan_leads, plan_slot}
use Rattle.monitor_unmap.proofs.plan_unmap.Goals as goal

pub frame_in-requires : goal.frame_in-requires
frame_in-requires c = plan_leads c.requires c.args.a c.args.g c.in_ok-guest_exists.ensures
    (sym c.is_page_address.ensures ∙ c.in_ok-demand.ensures) c.descend-place.ensures _ c.is_mapped.ensures c.in_ok-demand-2.ensures
    c.first-first.result c.entry-x.result c.first-first.ensures c.entry-x.ensures

pub returns : goal.returns
returns c = plan_slot c.requires c.args.a c.args.g c.in_ok-guest_exists.ensures
    (sym c.is_page_address.ensures ∙ c.in_ok-demand.ensures) c.descend-place.ensures _ c.is_mapped.ensures c.in_ok-demand-2.ensures
    c.first-first.result c.entry-x.result c.first-first.ensures c.entry-x.ensures _ c.frame_in.ensures
