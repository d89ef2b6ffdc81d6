-- A report of two operating hours in a leap year's first quarter, 29 February 05 and 31 March 23: what the writer gives is accepted, and what
-- is damaged is refused at its own place. And the worked hour at a large station.
use Rattle.std.specs.Prelude.{◌≡◌, refl, true, List, [], ◌∷◌, ℕ, ◌+◌, ◌*◌, ◌^◌, replicate, Ok}
use Rattle.exact.specs.Logic.{ranked}
use Rattle.exact.specs.Faults.{first_failing}
use Rattle.exact.specs.Fraction.{over}
use Rattle.exact.specs.Behind.{meets}
use Rattle.exact.specs.Sums.{total_of}
use Rattle.columns.specs.Bytes.{all, same}
use Rattle.columns.specs.Columns.{columns, put}
use Rattle.columns.specs.Number.{digits_from, whole_of, decimals_behind, fixed_of, field_of, is_empty, number_of}
use Rattle.columns.specs.Written.{digits_of, digit_or_blank, leading, whole_written, fixed_written, written}
use Rattle.calendar.specs.Calendar.{leap_year, days_in_month, days_in_quarter, hours_in_quarter, in_quarter, days_before, hour_of_quarter, quarter_hour, month_of_day, date_of_hour}
use Rattle.layout.specs.Layout.{shape, offset_of, report_length}
use Rattle.layout.specs.Values.{within}
use Rattle.layout.specs.declared.RecordType.{RecordType}
use Rattle.layout.specs.declared.RecordType.TheVariants.{So2Concentration, NoxConcentration, Co2Concentration, VolumetricFlow, Operation}
use Rattle.layout.specs.declared.RecordType.TheVariants.{QuarterTotals, So2Mass, NoxRate, Co2Mass}
use Rattle.stamp.specs.Stamp.{number_hour, field_hour, stamp_hour, stamp_number, stamp_of}
use Rattle.formulas.specs.Formulas.{passes_test, rounded_value, rounded_figures}
use Rattle.totals.specs.Totals.{totals_of, mean_of, quarter_of, quarter_totals}
use Rattle.lines.specs.Lines.{onto, lines, last}
use Rattle.lines.specs.LineFaults.{type_is, shape_fault, stack_fault, common_fault, field_fault, values_fault, digits_in}
use Rattle.lines.specs.LineFaults.{facility_fault, facility_line, rising_fault, dated_fault, hour_fault, hour_number, hour_line, date_fault, due_fault}
use Rattle.lines.specs.LineFaults.{so2_fault, has_gas, so2_blank, gas_fault, operates, idle_fault, operating_fault, timed_fault, operation_fault, said_of, operation_line}
use Rattle.reading.specs.Reading.{run_of, runs_of, walk_due, end_operations, walk_operations, walk_end, walk_last, walk_listed, walk_later, walk_hours, walk, read_of}
use Rattle.reading.specs.Recorded.{lines_with, idle, records_of, value_on, hour_at, hours_of, totals_in}
use Rattle.judging.specs.Judged.{judged_hours, compared_totals, judged_quarter}
use Rattle.checker.specs.Checked.{answer_numbers, judged, after_reading, checked}
use Rattle.checker.proofs.Examples.{Damage, all_named}
use Rattle.sheet.specs.Sheet.{sheet_hour_in, sheet_hours_in}
use Rattle.sheet.specs.SheetTests.{every, heading_holds, hour_holds, hours_rise, readings_hold_in, kinds_rise_in, kinds_hold_in, sheet_holds_in}
use Rattle.records.specs.Records.{headed, valued, facility_record, totals_record}
use Rattle.writer.proofs.Examples.{stack, sheet_with}
use Rattle.writer.specs.Refusals.{figures_hold, refusal_in}
use Rattle.writer.specs.Written.{hour_record, written_records, lined, report, answered, buffered, buffered_in, answered_in}

-- hour 1,421 for 0.25 hours: SO2 123.4, NOx 98.7, CO2 11.1, flow 12,345,000, Fc 1,040.0; hour 2,183 for 1.00: 567.8, 43.2, 9.9, 23,456,000, 2,222.2
abbrev two_sheet : List ℕ
two_sheet =
    (0 * 2 ^ 29 + 1421 * 128 + 25) ∷ (1 * 2 ^ 29 + 1234) ∷ (2 * 2 ^ 29 + 987) ∷ (3 * 2 ^ 29 + 111) ∷ (4 * 2 ^ 29 + 12_345) ∷ (5 * 2 ^ 29 + 10_400)
    ∷ (0 * 2 ^ 29 + 2183 * 128 + 100) ∷ (1 * 2 ^ 29 + 5678) ∷ (2 * 2 ^ 29 + 432) ∷ (3 * 2 ^ 29 + 99) ∷ (4 * 2 ^ 29 + 23_456) ∷ (5 * 2 ^ 29 + 22_222)
    ∷ []

unfoldable pub two : List ℕ
two = buffered 2004 1 stack two_sheet (replicate 711 0)

-- 600,000,000 scfh
unfoldable pub large : List ℕ
large = buffered 2005 3 stack (sheet_with 600_000) (replicate 393 0)

-- the report with these bytes from a column of the record of rank k on
abbrev with : List ℕ → RecordType → (k column : ℕ) → List ℕ → List ℕ
with file t k column bytes = put (offset_of (shape 2) t k + column) bytes file

abbrev changed : RecordType → (k column : ℕ) → List ℕ → List ℕ
changed t k column bytes = with two t k column bytes

abbrev damaged : List ℕ → (number line : ℕ) → Damage
damaged file number line = record { file = file; number = number; line = line }

-- 04022905 and 04033123
abbrev first_date : List ℕ
first_date = 48 ∷ 52 ∷ 48 ∷ 50 ∷ 50 ∷ 57 ∷ 48 ∷ 53 ∷ []

abbrev second_date : List ℕ
second_date = 48 ∷ 52 ∷ 48 ∷ 51 ∷ 51 ∷ 49 ∷ 50 ∷ 51 ∷ []

abbrev nine : List ℕ
nine = 57 ∷ []

abbrev two_damages : List Damage
two_damages =
    -- one figure, of the first hour and of the second: heat, SO2, NOx, CO2
    damaged (changed Operation 0 38 nine) 11 10 ∷ damaged (changed Operation 1 38 nine) 11 11
    ∷ damaged (changed So2Mass 0 27 nine) 12 13 ∷ damaged (changed So2Mass 1 26 nine) 12 14
    ∷ damaged (changed NoxRate 0 40 nine) 13 15 ∷ damaged (changed NoxRate 1 40 nine) 13 16
    ∷ damaged (changed Co2Mass 0 22 nine) 14 17 ∷ damaged (changed Co2Mass 1 21 nine) 14 18
    -- two figures: of one hour the first in order, and an hour before the next
    ∷ damaged (with (changed So2Mass 0 27 nine) NoxRate 0 40 nine) 12 13
    ∷ damaged (with (changed Operation 1 38 nine) Co2Mass 1 21 nine) 11 11
    ∷ damaged (with (changed NoxRate 1 40 nine) Co2Mass 1 21 nine) 13 16
    ∷ damaged (with (changed Co2Mass 0 22 nine) Operation 1 38 nine) 14 17
    ∷ damaged (with (changed NoxRate 0 40 nine) So2Mass 1 26 nine) 13 15
    -- a figure and a total: the figure first
    ∷ damaged (with (changed Co2Mass 1 21 nine) QuarterTotals 0 20 nine) 14 18
    -- the date of the other hour
    ∷ damaged (changed NoxConcentration 0 16 second_date) 7 4 ∷ damaged (changed NoxConcentration 1 16 first_date) 7 5
    ∷ damaged (changed Co2Concentration 1 16 first_date) 7 7 ∷ damaged (changed VolumetricFlow 1 16 first_date) 7 9
    ∷ damaged (changed Operation 0 10 second_date) 7 10
    ∷ damaged (changed So2Mass 1 10 first_date) 7 14 ∷ damaged (changed NoxRate 1 13 first_date) 7 16 ∷ damaged (changed Co2Mass 1 10 first_date) 7 18
    -- 05022905, 04023005, 04040123 and 04022924; the first hour again
    ∷ damaged (changed So2Concentration 0 17 (53 ∷ [])) 6 2 ∷ damaged (changed So2Concentration 0 20 (51 ∷ 48 ∷ [])) 6 2
    ∷ damaged (changed So2Concentration 1 19 (52 ∷ 48 ∷ 49 ∷ [])) 6 3 ∷ damaged (changed So2Concentration 0 22 (50 ∷ 52 ∷ [])) 6 2
    ∷ damaged (changed So2Concentration 1 16 first_date) 6 3
    -- STACK2 on the last line; byte 31 in a column that is not read
    ∷ damaged (changed Co2Mass 1 9 (50 ∷ [])) 5 18 ∷ damaged (changed NoxConcentration 1 26 (31 ∷ [])) 4 5
    ∷ []

pub two_answered : (columns 31 8 two ≡ first_date) × (columns 72 8 two ≡ second_date)
    × (answer_numbers (checked two) ≡ 2 ∷ 11 ∷ 1519 ∷ 13_744 ∷ 113 ∷ 1 ∷ [])
    × (all_named two_damages ≡ true)
    × (answered 2005 3 stack (sheet_with 600_000) 393 ≡ Ok 393)
    × (answer_numbers (checked large) ≡ 1 ∷ 62 ∷ 20_520 ∷ 200_000 ∷ 358 ∷ 36 ∷ [])
unfolding two large all_named put over meets total_of all same columns digits_from whole_of decimals_behind fixed_of field_of number_of digits_of digit_or_blank leading
    whole_written fixed_written written leap_year days_in_month days_in_quarter hours_in_quarter in_quarter days_before hour_of_quarter quarter_hour month_of_day date_of_hour
    number_hour field_hour stamp_hour stamp_number stamp_of passes_test rounded_value rounded_figures totals_of mean_of quarter_of quarter_totals onto lines last type_is
    shape_fault stack_fault common_fault within report_length field_fault values_fault digits_in facility_fault facility_line rising_fault dated_fault hour_fault
    hour_number hour_line date_fault due_fault operates idle_fault operating_fault timed_fault operation_fault said_of operation_line run_of runs_of walk_due
    end_operations walk_operations walk_end walk_last walk_listed walk_later walk_hours walk read_of lines_with idle records_of value_on hour_at ranked hours_of
    totals_in first_failing judged_hours judged_quarter compared_totals judged after_reading checked is_empty so2_fault has_gas so2_blank gas_fault sheet_hour_in
    sheet_hours_in every heading_holds kinds_rise_in kinds_hold_in hour_holds hours_rise sheet_holds_in readings_hold_in figures_hold refusal_in headed valued facility_record
    totals_record hour_record written_records lined report answered_in buffered_in
two_answered = (refl, refl, refl, refl, refl, refl)
