-- What a sheet is that can be written: heading, hours and figures are right, and the buffer has room. TableLaws.antt proves that
-- a sheet that is not refused is one.
use Rattle.std.specs.Prelude.{ℕ, ◌≤◌, ◌<◌, ◌≡◌, List, length}
use Rattle.calendar.specs.Calendar.{hours_in_quarter}
use Rattle.layout.specs.Layout.{Held, stack_width, report_length}
use Rattle.formulas.specs.Hour.{HourWithin}
use Rattle.sheet.specs.Sheet.{sheet_hour, sheet_hour_count, shape_of}
use Rattle.sheet.specs.TestLaws.{Shaped}
use Rattle.writer.specs.Recorded.{ReportHour, report_hour}

-- an hour that can be written
pub record HourWritable (year quarter : ℕ) (h : ReportHour) : Type 0 where
  pub exists : h.hour < hours_in_quarter year quarter
  pub within : HourWithin h.recorded

-- a sheet that can be written
pub record Writable (year quarter : ℕ) (name sheet : List ℕ) : Type 0 where
  pub shaped : Shaped year quarter name sheet
  pub held : Held (shape_of sheet)
  pub hours : (k : ℕ) → k < sheet_hour_count sheet → HourWritable year quarter (report_hour (sheet_hour sheet k))

-- and a buffer that has room for its report
pub record Fits (year quarter : ℕ) (name sheet buffer : List ℕ) : Type 0 where
  pub writable : Writable year quarter name sheet
  pub named : length name ≡ stack_width
  pub room : report_length (shape_of sheet) ≤ length buffer
