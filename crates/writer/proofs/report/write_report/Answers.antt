-- Line 100, the hours, and line 301 among them.
use Rattle.std.proofs.Common.{◌≡◌, ap, ◌∙◌, arith, lit<}
use Rattle.layout.specs.Layout.{offset_of}
use Rattle.layout.proofs.PlaceLaws.{line_inside}
use Rattle.layout.specs.declared.RecordType.TheVariants.{Facility, QuarterTotals}
use Rattle.sheet.specs.Sheet.{shape_of, sheet_hours}
use Rattle.writer.specs.Recorded.{report_hours}
use Rattle.writer.specs.HourLines.{hours_lines}
use Rattle.writer.proofs.ReportLaws.{report_shape}
use Rattle.writer.proofs.HourLines.{with_totals, report_written_lem}
use Rattle.writer.proofs.report.write_report.Goals as goal

pub write_facility-requires : goal.write_facility-requires
write_facility-requires c = omega (arith, line_inside (shape_of c.args.sheet.now) Facility 0 (lit< tt), c.requires.room)

pub write_totals-requires : goal.write_totals-requires
write_totals-requires c =
    let starts : c.offset_of-at.result ≡ offset_of (shape_of c.args.sheet.now) QuarterTotals 0 = rw c.shape_of.ensures at c.offset_of-at.ensures in
    let inside = line_inside (shape_of c.args.sheet.now) QuarterTotals 0 (lit< tt) in
    rw starts (omega (arith, inside, c.requires.room, c.write_hours-totals.auto.buffer, c.write_facility.auto.buffer))

pub returns : goal.returns
returns c =
    let starts : c.offset_of-at.result ≡ offset_of (shape_of c.args.sheet.now) QuarterTotals 0 = rw c.shape_of.ensures at c.offset_of-at.ensures in
    let hours = c.write_hours-totals.ensures in
    c.write_totals.ensures
    ∙ with_totals _ starts hours.0 (hours.1 ∙ ap (hours_lines _ _ _ _ _ _) c.write_facility.ensures)
    ∙ report_written_lem c.args.year c.args.quarter c.args.name.now c.requires.named (report_hours (sheet_hours c.args.sheet.now))
    (shape_of c.args.sheet.now) (report_shape c.args.sheet.now) c.args.buffer.now c.requires.room
