-- The paper's worked hour and its empty quarter: what the writer gives for them, byte by byte; and flows that it refuses or takes.
use Rattle.std.specs.Prelude.{◌≡◌, refl, List, [], ◌∷◌, map, ℕ, ◌+◌, ◌*◌, ◌^◌, replicate, Ok, Err}
use Rattle.exact.specs.Logic.{ranked}
use Rattle.columns.specs.Bytes.{all}
use Rattle.columns.specs.Columns.{put}
use Rattle.columns.specs.Written.{digits_of, digit_or_blank, leading, whole_written, fixed_written, written}
use Rattle.calendar.specs.Calendar.{leap_year, days_in_month, days_in_quarter, hours_in_quarter, days_before, month_of_day, date_of_hour}
use Rattle.exact.specs.Fraction.{over}
use Rattle.exact.specs.Sums.{total_of}
use Rattle.layout.specs.Layout.{report_length}
use Rattle.layout.specs.Values.{within}
use Rattle.stamp.specs.Stamp.{stamp_number, stamp_of}
use Rattle.formulas.specs.Formulas.{rounded_value, rounded_figures}
use Rattle.totals.specs.Totals.{totals_of, mean_of, quarter_of, quarter_totals}
use Rattle.sheet.specs.Sheet.{sheet_hour_in, sheet_hours_in}
use Rattle.sheet.specs.SheetTests.{every, heading_holds, hour_holds, hours_rise, kinds_hold_in, kinds_rise_in, readings_hold_in, sheet_holds_in}
use Rattle.writer.specs.Refusals.{figures_hold, refusal_in}
use Rattle.records.specs.Records.{headed, valued, facility_record, totals_record}
use Rattle.writer.specs.Written.{Written, hour_record, written_records, lined, report, answered, buffered, answered_in, buffered_in}

-- STACK1
abbrev pub stack : List ℕ
stack = 83 ∷ 84 ∷ 65 ∷ 67 ∷ 75 ∷ 49 ∷ []

-- hour 0 for 0.50 hours, SO2 250.0, NOx 200.0, CO2 12.0, a flow in thousands of scfh, Fc 1,800.0
abbrev pub sheet_with : (flow : ℕ) → List ℕ
sheet_with flow =
    (0 * 2 ^ 29 + 50)
    ∷ (1 * 2 ^ 29 + 2500)
    ∷ (2 * 2 ^ 29 + 2000)
    ∷ (3 * 2 ^ 29 + 120)
    ∷ (4 * 2 ^ 29 + flow)
    ∷ (5 * 2 ^ 29 + 18_000)
    ∷ []

abbrev pub worked_sheet : List ℕ
worked_sheet = sheet_with 20_000

-- 2005, quarter 3
unfoldable pub worked : List ℕ
worked =
    49 ∷ 48 ∷ 48 ∷ 83 ∷ 84 ∷ 65 ∷ 67 ∷ 75 ∷ 49 ∷ 50 ∷ 48 ∷ 48 ∷ 53 ∷ 51 ∷ 10 ∷ 50 ∷ 48 ∷ 48 ∷ 83 ∷ 84 ∷ 65 ∷ 67 ∷ 75 ∷ 49 ∷ 32 ∷ 32 ∷ 32 ∷ 32 ∷
    32 ∷ 32 ∷ 48 ∷ 53 ∷ 48 ∷ 55 ∷ 48 ∷ 49 ∷ 48 ∷ 48 ∷ 32 ∷ 32 ∷ 32 ∷ 32 ∷ 32 ∷ 32 ∷ 32 ∷ 32 ∷ 32 ∷ 32 ∷ 32 ∷ 32 ∷ 50 ∷ 53 ∷ 48 ∷ 46 ∷ 48 ∷ 10 ∷
    50 ∷ 48 ∷ 49 ∷ 83 ∷ 84 ∷ 65 ∷ 67 ∷ 75 ∷ 49 ∷ 32 ∷ 32 ∷ 32 ∷ 32 ∷ 32 ∷ 32 ∷ 48 ∷ 53 ∷ 48 ∷ 55 ∷ 48 ∷ 49 ∷ 48 ∷ 48 ∷ 32 ∷ 32 ∷ 32 ∷ 32 ∷ 32 ∷
    32 ∷ 50 ∷ 48 ∷ 48 ∷ 46 ∷ 48 ∷ 10 ∷ 50 ∷ 48 ∷ 50 ∷ 83 ∷ 84 ∷ 65 ∷ 67 ∷ 75 ∷ 49 ∷ 32 ∷ 32 ∷ 32 ∷ 32 ∷ 32 ∷ 32 ∷ 48 ∷ 53 ∷ 48 ∷ 55 ∷ 48 ∷ 49 ∷
    48 ∷ 48 ∷ 32 ∷ 32 ∷ 32 ∷ 32 ∷ 32 ∷ 32 ∷ 32 ∷ 49 ∷ 50 ∷ 46 ∷ 48 ∷ 10 ∷ 50 ∷ 50 ∷ 48 ∷ 83 ∷ 84 ∷ 65 ∷ 67 ∷ 75 ∷ 49 ∷ 32 ∷ 32 ∷ 32 ∷ 32 ∷ 32 ∷
    32 ∷ 48 ∷ 53 ∷ 48 ∷ 55 ∷ 48 ∷ 49 ∷ 48 ∷ 48 ∷ 32 ∷ 32 ∷ 32 ∷ 32 ∷ 32 ∷ 32 ∷ 32 ∷ 32 ∷ 32 ∷ 32 ∷ 32 ∷ 32 ∷ 32 ∷ 32 ∷ 32 ∷ 32 ∷ 32 ∷ 50 ∷ 48 ∷
    48 ∷ 48 ∷ 48 ∷ 48 ∷ 48 ∷ 48 ∷ 10 ∷ 51 ∷ 48 ∷ 48 ∷ 83 ∷ 84 ∷ 65 ∷ 67 ∷ 75 ∷ 49 ∷ 48 ∷ 53 ∷ 48 ∷ 55 ∷ 48 ∷ 49 ∷ 48 ∷ 48 ∷ 48 ∷ 46 ∷ 53 ∷ 48 ∷
    32 ∷ 32 ∷ 32 ∷ 32 ∷ 32 ∷ 32 ∷ 32 ∷ 32 ∷ 32 ∷ 32 ∷ 32 ∷ 32 ∷ 32 ∷ 32 ∷ 32 ∷ 49 ∷ 51 ∷ 51 ∷ 51 ∷ 46 ∷ 51 ∷ 10 ∷ 51 ∷ 48 ∷ 49 ∷ 83 ∷ 84 ∷ 65 ∷
    67 ∷ 75 ∷ 49 ∷ 32 ∷ 32 ∷ 32 ∷ 32 ∷ 32 ∷ 32 ∷ 32 ∷ 32 ∷ 48 ∷ 46 ∷ 50 ∷ 32 ∷ 32 ∷ 32 ∷ 32 ∷ 32 ∷ 32 ∷ 32 ∷ 54 ∷ 56 ∷ 46 ∷ 52 ∷ 32 ∷ 32 ∷ 32 ∷
    32 ∷ 32 ∷ 32 ∷ 54 ∷ 54 ∷ 54 ∷ 46 ∷ 55 ∷ 32 ∷ 48 ∷ 46 ∷ 51 ∷ 53 ∷ 56 ∷ 32 ∷ 32 ∷ 32 ∷ 32 ∷ 32 ∷ 32 ∷ 32 ∷ 32 ∷ 48 ∷ 46 ∷ 49 ∷ 10 ∷ 51 ∷ 49 ∷
    48 ∷ 83 ∷ 84 ∷ 65 ∷ 67 ∷ 75 ∷ 49 ∷ 48 ∷ 53 ∷ 48 ∷ 55 ∷ 48 ∷ 49 ∷ 48 ∷ 48 ∷ 32 ∷ 32 ∷ 32 ∷ 32 ∷ 32 ∷ 32 ∷ 32 ∷ 32 ∷ 32 ∷ 56 ∷ 51 ∷ 48 ∷ 46 ∷
    48 ∷ 32 ∷ 32 ∷ 32 ∷ 10 ∷ 51 ∷ 50 ∷ 48 ∷ 83 ∷ 84 ∷ 65 ∷ 67 ∷ 75 ∷ 49 ∷ 32 ∷ 32 ∷ 32 ∷ 48 ∷ 53 ∷ 48 ∷ 55 ∷ 48 ∷ 49 ∷ 48 ∷ 48 ∷ 32 ∷ 32 ∷ 32 ∷
    32 ∷ 32 ∷ 32 ∷ 32 ∷ 32 ∷ 32 ∷ 49 ∷ 56 ∷ 48 ∷ 48 ∷ 46 ∷ 48 ∷ 32 ∷ 48 ∷ 46 ∷ 51 ∷ 53 ∷ 56 ∷ 32 ∷ 32 ∷ 32 ∷ 32 ∷ 32 ∷ 32 ∷ 32 ∷ 32 ∷ 32 ∷ 32 ∷
    32 ∷ 32 ∷ 32 ∷ 10 ∷ 51 ∷ 51 ∷ 48 ∷ 83 ∷ 84 ∷ 65 ∷ 67 ∷ 75 ∷ 49 ∷ 48 ∷ 53 ∷ 48 ∷ 55 ∷ 48 ∷ 49 ∷ 48 ∷ 48 ∷ 32 ∷ 32 ∷ 49 ∷ 51 ∷ 54 ∷ 46 ∷ 56 ∷
    10 ∷ []

-- without hours, and with zero totals
unfoldable pub empty : List ℕ
empty =
    49 ∷ 48 ∷ 48 ∷ 83 ∷ 84 ∷ 65 ∷ 67 ∷ 75 ∷ 49 ∷ 50 ∷ 48 ∷ 48 ∷ 53 ∷ 51 ∷ 10 ∷ 51 ∷ 48 ∷ 49 ∷ 83 ∷ 84 ∷ 65 ∷ 67 ∷ 75 ∷ 49 ∷ 32 ∷ 32 ∷ 32 ∷ 32 ∷
    32 ∷ 32 ∷ 32 ∷ 32 ∷ 48 ∷ 46 ∷ 48 ∷ 32 ∷ 32 ∷ 32 ∷ 32 ∷ 32 ∷ 32 ∷ 32 ∷ 32 ∷ 48 ∷ 46 ∷ 48 ∷ 32 ∷ 32 ∷ 32 ∷ 32 ∷ 32 ∷ 32 ∷ 32 ∷ 32 ∷ 48 ∷ 46 ∷
    48 ∷ 32 ∷ 48 ∷ 46 ∷ 48 ∷ 48 ∷ 48 ∷ 32 ∷ 32 ∷ 32 ∷ 32 ∷ 32 ∷ 32 ∷ 32 ∷ 32 ∷ 48 ∷ 46 ∷ 48 ∷ 10 ∷ []

pub worked_written : (answered 2005 3 stack worked_sheet 393 ≡ Ok 393) × (buffered 2005 3 stack worked_sheet (replicate 393 0) ≡ worked)
unfolding worked all put digits_of digit_or_blank leading whole_written fixed_written written leap_year days_in_month days_in_quarter hours_in_quarter days_before
    month_of_day date_of_hour over total_of stamp_number stamp_of rounded_value rounded_figures totals_of mean_of quarter_of quarter_totals sheet_hour_in ranked
    sheet_hours_in report_length within every heading_holds kinds_rise_in kinds_hold_in hour_holds hours_rise sheet_holds_in readings_hold_in figures_hold
    refusal_in headed valued facility_record hour_record totals_record written_records lined report answered_in buffered_in
worked_written = (refl, refl)

-- flows past the limit, a word of 20,000,000 scfh among them and the largest word; and flows that are taken

abbrev answers_to : List ℕ → List Written
answers_to flows = map (λ flow. answered 2005 3 stack (sheet_with flow) 393) flows

pub flow_refused : answers_to (10_000_000 ∷ 20_000_000 ∷ 536_870_911 ∷ []) ≡ replicate 3 (Err 32)
unfolding all leap_year days_in_month days_in_quarter hours_in_quarter over rounded_value rounded_figures sheet_hour_in ranked sheet_hours_in report_length within every
    heading_holds kinds_rise_in kinds_hold_in hour_holds hours_rise sheet_holds_in readings_hold_in figures_hold refusal_in answered_in
flow_refused = refl

pub flow_taken : answers_to (0 ∷ 1 ∷ 20_000 ∷ 500_000 ∷ 500_001 ∷ 600_000 ∷ []) ≡ replicate 6 (Ok 393)
unfolding all leap_year days_in_month days_in_quarter hours_in_quarter over total_of rounded_value rounded_figures sheet_hour_in ranked sheet_hours_in report_length within every
    heading_holds kinds_rise_in kinds_hold_in hour_holds hours_rise sheet_holds_in readings_hold_in figures_hold refusal_in answered_in
flow_taken = refl

pub empty_written : (answered 2005 3 stack [] 75 ≡ Ok 75) × (buffered 2005 3 stack [] (replicate 75 0) ≡ empty)
unfolding empty all put digits_of digit_or_blank leading whole_written fixed_written written leap_year days_in_month days_in_quarter hours_in_quarter days_before
    month_of_day date_of_hour over total_of stamp_number stamp_of rounded_value rounded_figures totals_of mean_of quarter_of quarter_totals sheet_hour_in ranked
    sheet_hours_in report_length within every heading_holds kinds_rise_in kinds_hold_in hour_holds hours_rise sheet_holds_in readings_hold_in figures_hold
    refusal_in headed valued facility_record hour_record totals_record written_records lined report answered_in buffered_in
empty_written = (refl, refl)
