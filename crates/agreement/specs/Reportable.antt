-- A report that can be written, whatever its figures: its heading is right, its hours are hours of the quarter, each later than the one
-- before, what is recorded of them lies in its ranges, and none is a gas hour.
use Rattle.std.specs.Prelude.{ℕ, suc, ◌≤◌, ◌≡◌, false, List, [], ◌∷◌, length}
use Rattle.exact.specs.Logic.{All}
use Rattle.layout.specs.Layout.{stack_width}
use Rattle.sheet.specs.SheetTests.{Heading}
use Rattle.totals.specs.Totals.{quarter_totals}
use Rattle.totals.specs.declared.Quarter.{Quarter}
use Rattle.writer.specs.Recorded.{ReportHour, recorded_hours}
use Rattle.writer.specs.Writable.{HourWritable}

abbrev pub AllWritable : ℕ → ℕ → List ReportHour → Type 0
AllWritable year quarter hs = All (HourWritable year quarter) hs

-- the writer writes no gas hours
abbrev pub AllMonitored : List ReportHour → Type 0
AllMonitored hs = All (λ (h : ReportHour). h.recorded.gas ≡ false) hs

-- hours of the quarter from `from` on, each later than the one before
abbrev pub Rising : ℕ → List ReportHour → Type 0
Rising from [] = Unit {0}
Rising from (h ∷ hs) = (from ≤ h.hour) × Rising (suc h.hour) hs

pub record Reportable (year quarter : ℕ) (name : List ℕ) (hs : List ReportHour) : Type 0 where
  pub heading : Heading year quarter name
  pub named : length name ≡ stack_width
  pub hours : AllWritable year quarter hs
  pub monitored : AllMonitored hs
  pub rises : Rising 0 hs

-- the totals that a report states
abbrev pub formed : List ReportHour → Quarter
formed hs = quarter_totals (recorded_hours hs)
