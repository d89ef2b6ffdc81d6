-- A line of each type, from the last back.
use Rattle.writer.specs.HourLines.{hour_lines}
use Rattle.writer.proofs.report.write_hour_lines.Goals as goal

pub returns : goal.returns
unfolding hour_lines
returns c =
    rw (
      c.write_hour-8.ensures,
      c.write_hour-7.ensures,
      c.write_hour-6.ensures,
      c.write_hour-5.ensures,
      c.write_hour-4.ensures,
      c.write_hour-3.ensures,
      c.write_hour-2.ensures,
      c.write_hour.ensures,
    )
