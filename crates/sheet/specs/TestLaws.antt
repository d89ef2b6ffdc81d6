-- What a sheet is that 31 does not refuse.
use Rattle.std.specs.Prelude.{ℕ, ◌%◌, ◌≡◌, List, true, length}
use Rattle.calendar.specs.Calendar.{hours_in_quarter}
use Rattle.sheet.specs.Sheet.{hour_words, sheet_hour_count, sheet_hours}
use Rattle.sheet.specs.SheetTests.{Heading, kinds_hold, hours_rise}

-- a sheet that 31 does not refuse
pub record Shaped (year quarter : ℕ) (name sheet : List ℕ) : Type 0 where
  pub heading : Heading year quarter name
  pub words : length sheet % hour_words ≡ 0
  pub kinds : kinds_hold sheet 0 (sheet_hour_count sheet) ≡ true
  pub rises : hours_rise (hours_in_quarter year quarter) 0 (sheet_hours sheet) ≡ true
