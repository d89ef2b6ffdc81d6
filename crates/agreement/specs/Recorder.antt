-- The honest half of demand 3, from the readings up: a recorder that multiplies before it rounds may report whatever it has measured. Its
-- report has the rounded readings, the rounded formula values of the unrounded ones, and the totals formed from these figures.
use Rattle.std.specs.Prelude.{ℕ, ◌≡◌, List, [], ◌∷◌, map}
use Rattle.std.proofs.Common.{ap}
use Rattle.formulas.specs.Hour.{Monitored, Unrounded, set_of}
use Rattle.formulas.specs.Formulas.{hour_from}
use Rattle.formulas.proofs.FormulaLaws.{recorded_behind}
use Rattle.totals.specs.Totals.{quarter_totals}
use Rattle.judging.specs.Judged.{acceptance}
use Rattle.judging.specs.Behind.{SetsBehind}
use Rattle.checker.specs.Checked.{answer_numbers, checked}
use Rattle.checker.specs.Promise.{HonestlyRounded}
use Rattle.writer.specs.Recorded.{ReportHour, recorded_hours}
use Rattle.writer.specs.Written.{report}
use Rattle.agreement.specs.Reportable.{Reportable}
use Rattle.agreement.specs.Agreement.{report_honest, report_accepted}

-- an operating hour as it was: hour of the quarter, hundredths of an hour, Fc in tenths, and the readings before they were rounded
pub record UnroundedHour : Type 0 where
  pub hour : ℕ
  pub time : ℕ
  pub fc : ℕ
  pub readings : Monitored

abbrev pub readings_of : List UnroundedHour → List Unrounded
readings_of hs = map (λ (h : UnroundedHour). set_of h.readings) hs

abbrev pub rounded_hour : UnroundedHour → ReportHour
rounded_hour h = record { hour = h.hour; recorded = hour_from h.readings h.fc h.time }

abbrev pub rounded_hours : List UnroundedHour → List ReportHour
rounded_hours hs = map rounded_hour hs

readings_behind : (hs : List UnroundedHour) → SetsBehind (recorded_hours (rounded_hours hs)) (readings_of hs)
readings_behind [] = tt
readings_behind (h ∷ hs) = ((λ q. recorded_behind q h.readings h.fc h.time), readings_behind hs)

-- what is measured may be reported: as rounded it is honest and accepted, with the totals formed
pub every_unrounded : (year quarter : ℕ) (name : List ℕ) (hs : List UnroundedHour) → Reportable year quarter name (rounded_hours hs) →
    HonestlyRounded (report year quarter name (rounded_hours hs)) (readings_of hs)
    × (answer_numbers (checked (report year quarter name (rounded_hours hs))) ≡ acceptance (quarter_totals (recorded_hours (rounded_hours hs))))
every_unrounded year quarter name hs r =
    let b = readings_behind hs in
    let rs = rounded_hours hs in
    (report_honest year quarter name rs r (readings_of hs) b, ap answer_numbers (report_accepted year quarter name rs r (readings_of hs) b))
