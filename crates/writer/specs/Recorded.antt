-- The hours of a report: each with its hour of the quarter and what is recorded of it. Those of a sheet have the formulas of their
-- readings, rounded, as figures.
use Rattle.std.specs.Prelude.{ℕ, false, List, map}
use Rattle.formulas.specs.Formulas.{rounded_figures}
use Rattle.formulas.specs.declared.hour.Hour.{Hour}
use Rattle.sheet.specs.Sheet.{recorded_readings}
use Rattle.sheet.specs.declared.SheetHour.{SheetHour}

pub record ReportHour : Type 0 where
  pub hour : ℕ
  pub recorded : Hour

abbrev pub recorded_hours : List ReportHour → List Hour
recorded_hours hs = map (λ (h : ReportHour). h.recorded) hs

abbrev pub recorded_hour : SheetHour → Hour
recorded_hour h = record { time = h.time; gas = false; readings = recorded_readings h; figures = rounded_figures (recorded_readings h) }

abbrev pub report_hour : SheetHour → ReportHour
report_hour h = record { hour = h.hour; recorded = recorded_hour h }

abbrev pub report_hours : List SheetHour → List ReportHour
report_hours hs = map report_hour hs
