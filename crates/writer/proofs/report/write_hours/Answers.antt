use Rattle.std.proofs.Common.{ap, ◌∙◌}
use Rattle.calendar.specs.Calendar.{Period}
use Rattle.stamp.specs.Stamp.{stamp_number}
use Rattle.totals.specs.Totals.{with_hour}
use Rattle.formulas.specs.declared.hour.Hour.{Hour}
use Rattle.writer.specs.Recorded.{recorded_hour}
use Rattle.writer.proofs.Hours.{passed_start, passed_more, passed_end, as_lines}
use Rattle.writer.proofs.report.write_hours.Goals as goal

pub loop-k-init : goal.loop-k-init
loop-k-init c = passed_start _ _ _ _ _ _ c.shape_of-s.ensures c.none-totals.ensures.0 c.none-totals.ensures.1

pub loop-k-preserved : goal.loop-k-preserved
loop-k-preserved c =
    let read_as = c.hour_at-h.ensures in
    let recorded-as = c.recorded_hour-recorded.ensures in
    let dated = c.stamp_number-date.ensures ∙ ap (λ (p : Period). stamp_number p.year p.quarter c.hour_at-h.result.hour) c.new-period.ensures in
    passed_more _ _ _ _ _ _ c.shape_of-s.ensures c.loop-k.invariant c.loop-k-test.true c.with_hour-totals.ensures.1
    (c.with_hour-totals.ensures.0 ∙ ap (λ (h : Hour). with_hour c.loop-k.totals h.figures h.time) (recorded-as ∙ ap recorded_hour read_as))
    (c.write_hour_lines.ensures ∙ as_lines _ _ _ _ _ _ dated read_as recorded-as)

pub returns : goal.returns
returns c =
    let e = passed_end _ _ _ _ _ _ c.shape_of-s.ensures c.loop-k.invariant c.loop-k-test.false in
    (c.quarter.ensures ∙ e.0, e.1)
