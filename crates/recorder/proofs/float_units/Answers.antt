-- 45, then 46, then the units.
use Rattle.std.proofs.Common.{sym, ◌∙◌}
use Rattle.recorder.proofs.ChannelLaws.{row_room}
use Rattle.recorder.proofs.RecorderLaws.{fault_45}
use Rattle.recorder.proofs.UnitLaws.{far_outside, units_outside, units_inside}
use Rattle.recorder.proofs.float_units.Goals as goal

pub returns-in_default : goal.returns-in_default
returns-in_default c = fault_45 c.args.c c.args.x c.in_default.ensures

pub returns-then-parts-ge-SCALE : goal.returns-then-parts-ge-SCALE
returns-then-parts-ge-SCALE c = far_outside c.args.c c.args.x c.in-Some.parts c.in-Some.ensures c.if-parts-ge-SCALE.true

pub count_at-units-requires : goal.count_at-units-requires
count_at-units-requires c = (c.in-Some.ensures.short, c.if-parts-ge-SCALE.false, rw c.channel_row-row.ensures (row_room c.args.c))

pub returns-then-not-in_range : goal.returns-then-not-in_range
returns-then-not-in_range c =
    units_outside c.args.c c.args.x c.in-Some.parts c.in-Some.ensures _ c.channel_row-row.ensures c.count_at-units.result c.count_at-units.ensures
    (sym c.in_range.ensures ∙ c.if-not-in_range.true)

pub returns : goal.returns
returns c =
    units_inside c.args.c c.args.x c.in-Some.parts c.in-Some.ensures _ c.channel_row-row.ensures c.count_at-units.result c.count_at-units.ensures
    (sym c.in_range.ensures ∙ c.if-not-in_range.false)
