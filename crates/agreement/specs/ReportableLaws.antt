-- A report that can be written has no more hours than a quarter; the report of a sheet that is not refused is one.
use Rattle.std.specs.Prelude.{ℕ, suc, ◌-◌, ◌≤◌, ◌≡◌, refl, true, List, [], ◌∷◌, length}
use Rattle.std.proofs.Common.{arith}
use Rattle.exact.specs.Logic.{ranked_all, mapped_all}
use Rattle.calendar.specs.Calendar.{most_hours, hours_in_quarter}
use Rattle.calendar.specs.CalendarLaws.{hours_in_quarter_lem}
use Rattle.layout.specs.Layout.{stack_width}
use Rattle.sheet.specs.Sheet.{sheet_hour_count, sheet_hour, sheet_hours, sheet_hours_in}
use Rattle.sheet.specs.SheetTests.{hours_rise}
use Rattle.sheet.proofs.TestLaws.{rise_first}
use Rattle.sheet.specs.declared.SheetHour.{SheetHour}
use Rattle.writer.specs.Recorded.{ReportHour, report_hour, report_hours}
use Rattle.writer.specs.Writable.{HourWritable, Writable}
use Rattle.agreement.specs.Reportable.{AllWritable, AllMonitored, Rising, Reportable}

module _ (year quarter : ℕ) where
  rising_count : (from : ℕ) (hs : List ReportHour) → AllWritable year quarter hs → Rising from hs → length hs ≤ hours_in_quarter year quarter - from
  rising_count from [] a r = omega arith
  rising_count from (h ∷ hs) a r = omega (arith, a.0.exists, r.0, rising_count (suc h.hour) hs a.1 r.1)

  pub reportable_few : (name : List ℕ) (hs : List ReportHour) → Reportable year quarter name hs → length hs ≤ most_hours
  reportable_few name hs r = omega (arith, rising_count 0 hs r.hours r.rises, hours_in_quarter_lem year quarter r.heading.is_quarter)

-- a sheet's report
rising_sheet : (below from : ℕ) (hs : List SheetHour) → hours_rise below from hs ≡ true → Rising from (report_hours hs)
rising_sheet below from [] e = tt
rising_sheet below from (h ∷ hs) e = let r = rise_first below from h hs e in (r.0, rising_sheet below (suc h.hour) hs r.2)

monitored_sheet : (hs : List SheetHour) → AllMonitored (report_hours hs)
monitored_sheet [] = tt
monitored_sheet (h ∷ hs) = (refl, monitored_sheet hs)

pub writable_reportable : (year quarter : ℕ) (name sheet : List ℕ) → length name ≡ stack_width → Writable year quarter name sheet →
    Reportable year quarter name (report_hours (sheet_hours sheet))
unfolding sheet_hours_in
writable_reportable year quarter name sheet named w = record {
  heading = w.shaped.heading;
  named = named;
  hours =
      mapped_all (HourWritable year quarter) report_hour (sheet_hours sheet)
      (ranked_all (λ h. HourWritable year quarter (report_hour h)) (sheet_hour sheet) (sheet_hour_count sheet) 0 (sheet_hour_count sheet) w.hours (omega arith));
  monitored = monitored_sheet (sheet_hours sheet);
  rises = rising_sheet (hours_in_quarter year quarter) 0 (sheet_hours sheet) w.shaped.rises;
}
