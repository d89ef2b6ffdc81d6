-- The paper's worked hour and empty quarter: the bytes that the writer gives are those that the check accepts. So are those of recorders
-- that multiply before they round: 250.04 ppm and 20,000,000.4 scfh are 830.1 lb/hr; the low ends of both spans are 829.8; 250.0499 ppm and
-- 20,000,249.9 scfh, where heat input still is 1,333.3 mmBtu/hr, are 830.2.
use Rattle.std.specs.Prelude.{◌≡◌, refl, List, [], ◌∷◌, ℕ}
use Rattle.std.proofs.Common.{lit<}
use Rattle.exact.specs.Fraction.{Fraction, fraction, whole, over}
use Rattle.exact.specs.Sums.{total_of}
use Rattle.columns.specs.Columns.{put}
use Rattle.columns.specs.Written.{digits_of, digit_or_blank, leading, whole_written, fixed_written, written}
use Rattle.calendar.specs.Calendar.{leap_year, days_in_month, days_before, month_of_day, date_of_hour}
use Rattle.stamp.specs.Stamp.{stamp_number, stamp_of}
use Rattle.totals.specs.Totals.{totals_of, mean_of, quarter_of, quarter_totals}
use Rattle.records.specs.Records.{headed, valued, facility_record, totals_record}
use Rattle.writer.specs.Written.{hour_record, written_records, lined, report}
use Rattle.writer.proofs.Examples.{stack, worked, empty}
use Rattle.checker.proofs.Examples.{worked_hour, empty_quarter, lowest, between, highest}
use Rattle.agreement.specs.Recorder.{rounded_hours}

pub worked_same : worked ≡ worked_hour
unfolding worked worked_hour
worked_same = refl

pub empty_same : empty ≡ empty_quarter
unfolding empty empty_quarter
empty_same = refl

-- the worked hour as it was measured, its SO2 and flow being these
abbrev rounded_report : Fraction → Fraction → List ℕ
rounded_report so2 flow =
    report 2005 3 stack
    (rounded_hours (record { hour = 0; time = 50; fc = 18_000; readings = record { so2 = so2; nox = whole 200; co2 = whole 12; flow = flow } } ∷ []))

pub unrounded_same : (rounded_report (fraction 25_004 100 (lit< tt)) (fraction 200_000_004 10 (lit< tt)) ≡ between)
    × (rounded_report (fraction 24_995 100 (lit< tt)) (whole 19_999_500) ≡ lowest)
    × (rounded_report (fraction 2_500_499 10_000 (lit< tt)) (fraction 200_002_499 10 (lit< tt)) ≡ highest)
unfolding worked_hour put over total_of digits_of digit_or_blank leading whole_written fixed_written written leap_year days_in_month days_before month_of_day
    date_of_hour stamp_number stamp_of totals_of mean_of quarter_of quarter_totals headed valued facility_record totals_record hour_record written_records lined
    report
unrounded_same = (refl, refl, refl)
