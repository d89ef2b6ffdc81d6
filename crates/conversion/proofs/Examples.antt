-- Kept sheets: what the former writer gave for them, what each becomes, and those that are refused, which stay as they are.
use Rattle.std.specs.Prelude.{◌≡◌, refl, List, [], ◌∷◌, ◌++◌, map, ℕ, ◌+◌, ◌*◌, ◌%◌, ◌^◌, ◌<◌, length, replicate, take}
use Rattle.std.proofs.Common.{◌∙◌, inl, inr, arith}
use Rattle.exact.specs.Logic.{ranked}
use Rattle.exact.proofs.ClauseLaws.{told_none, told_first}
use Rattle.exact.specs.Fraction.{over}
use Rattle.exact.specs.Sums.{total_of}
use Rattle.columns.specs.Bytes.{all}
use Rattle.columns.specs.Columns.{put}
use Rattle.columns.specs.Written.{digits_of, digit_or_blank, leading, whole_written, fixed_written, written}
use Rattle.calendar.specs.Calendar.{leap_year, days_in_month, days_in_quarter, hours_in_quarter, days_before, month_of_day, date_of_hour}
use Rattle.layout.specs.Layout.{report_length}
use Rattle.layout.specs.Values.{within}
use Rattle.stamp.specs.Stamp.{stamp_number, stamp_of}
use Rattle.formulas.specs.Formulas.{rounded_value, rounded_figures}
use Rattle.totals.specs.Totals.{totals_of, mean_of, quarter_of, quarter_totals}
use Rattle.sheet.specs.Sheet.{first_form, sheet_hour_in, sheet_hours_in}
use Rattle.sheet.specs.SheetTests.{every, heading_holds, kinds_rise_in, kinds_hold_in, hour_holds, hours_rise, sheet_holds_in, readings_hold_in}
use Rattle.sheet.specs.SheetClauses.{EachHour}
use Rattle.records.specs.Records.{headed, valued, facility_record, totals_record}
use Rattle.writer.specs.Refusals.{figures_hold, refusal_in}
use Rattle.writer.specs.Written.{hour_record, written_records, lined, report, written_number, answered_in, buffered_in}
use Rattle.writer.proofs.Examples.{stack, sheet_with, worked_sheet, worked}
use Rattle.conversion.specs.Conversion.{each_word, conversion_refusal, recoded_from, converted, conversion_answer, converted_number}
use Rattle.conversion.specs.ConversionPromise.{kept_kind, kept_value}
use Rattle.conversion.proofs.ConversionLaws.{refusal_told}

-- a word; the words of an hour of the quarter for 0.50 hours: SO2 250.0, NOx 200.0, CO2 12.0, a flow in scfh, Fc 1,800.0

abbrev word : (kind value : ℕ) → ℕ
word kind value = kind * 2 ^ 29 + value

abbrev pub kept : (hour scfh : ℕ) → List ℕ
kept hour scfh = word 0 (hour * 128 + 50) ∷ word 1 2500 ∷ word 2 2000 ∷ word 3 120 ∷ word 4 scfh ∷ word 5 18_000 ∷ []

-- the largest value in every place but the flow's
abbrev widest : (flow : ℕ) → List ℕ
widest flow = word 0 536_870_911 ∷ word 1 536_870_911 ∷ word 2 536_870_911 ∷ word 3 536_870_911 ∷ word 4 flow ∷ word 5 536_870_911 ∷ []

-- the former writer gave the paper's report for it, refused flows that are no whole thousand or past the former limit, and took others

abbrev former_to : List ℕ → List ℕ
former_to flows = map (λ scfh. written_number (answered_in first_form 2005 3 stack (kept 0 scfh) 393)) flows

pub former_written : (buffered_in first_form 2005 3 stack (kept 0 20_000_000) (replicate 393 0) ≡ worked)
    × (former_to (20_000_500 ∷ 20_000_001 ∷ 19_999_999 ∷ 1 ∷ 500_001_000 ∷ 500_000_001 ∷ 536_870_000 ∷ []) ≡ replicate 7 32)
    × (former_to (0 ∷ 1000 ∷ 19_999_000 ∷ 20_000_000 ∷ 500_000_000 ∷ []) ≡ replicate 5 393)
unfolding worked all put digits_of digit_or_blank leading whole_written fixed_written written leap_year days_in_month days_in_quarter hours_in_quarter days_before
    month_of_day date_of_hour over total_of stamp_number stamp_of rounded_value rounded_figures totals_of mean_of quarter_of quarter_totals sheet_hour_in ranked
    sheet_hours_in report_length within every heading_holds kinds_rise_in kinds_hold_in hour_holds hours_rise sheet_holds_in readings_hold_in figures_hold
    refusal_in headed valued facility_record hour_record totals_record written_records lined report answered_in buffered_in
former_written = (refl, refl, refl)

-- what converts
pub sheets_converted : (converted (kept 0 20_000_000) ≡ worked_sheet)
    × (map converted (map (kept 0) (0 ∷ 1000 ∷ 500_000_000 ∷ 500_001_000 ∷ 536_870_000 ∷ [])) ≡ map sheet_with (0 ∷ 1 ∷ 500_000 ∷ 500_001 ∷ 536_870 ∷ []))
    -- no words; hours that fall; once more, which no sheet should be
    × (converted [] ≡ [])
    × (converted (kept 7 1000 ++ kept 3 2_000_000) ≡ kept 7 1 ++ kept 3 2000)
    × (converted (converted (kept 0 20_000_000)) ≡ sheet_with 20)
    -- values that no column would hold
    × (converted (widest 536_870_000) ≡ widest 536_870)
    × (map (λ sheet. converted_number (conversion_answer sheet)) ([] ∷ kept 0 0 ∷ kept 0 20_000_000 ∷ (kept 7 1000 ++ kept 3 2_000_000) ∷ []) ≡ replicate 4 0)
unfolding each_word conversion_refusal recoded_from converted conversion_answer
sheets_converted = (refl, refl, refl, refl, refl, refl, refl)

-- what is refused: 31, then 50, each over the whole sheet

abbrev kinds : (a b c d e f scfh : ℕ) → List ℕ
kinds a b c d e f scfh = word a 50 ∷ word b 2500 ∷ word c 2000 ∷ word d 120 ∷ word e scfh ∷ word f 18_000 ∷ []

abbrev wrong_sheets : List (List ℕ)
wrong_sheets =
    -- words that are no whole hours, with a flow that is no whole thousand too
    take 1 (kept 0 1000) ∷ take 2 (kept 0 1000) ∷ take 3 (kept 0 1000) ∷ take 4 (kept 0 1000) ∷ take 5 (kept 0 1000) ∷ take 5 (kept 0 1)
    ∷ take 7 (kept 0 1000 ++ kept 1 1000) ∷ take 11 (kept 0 1000 ++ kept 1 1)
    -- each kind another one, the first and the last in a second hour too
    ∷ kinds 1 1 2 3 4 5 1000 ∷ kinds 0 0 2 3 4 5 1000 ∷ kinds 0 1 3 3 4 5 1000 ∷ kinds 0 1 2 2 4 5 1000 ∷ kinds 0 1 2 3 5 5 1000 ∷ kinds 0 1 2 3 4 4 1000
    ∷ kinds 0 1 2 3 4 7 1000 ∷ (kept 0 1000 ++ kinds 5 1 2 3 4 5 1000) ∷ (kept 0 1000 ++ kinds 0 1 2 3 4 6 1000)
    -- and a flow that is no whole thousand, before it and behind it
    ∷ (kept 0 1001 ++ kinds 0 1 2 3 4 6 1000) ∷ (kinds 0 1 2 3 4 6 1000 ++ kept 1 1001) ∷ kinds 0 1 2 3 5 5 1001
    ∷ []

abbrev uneven_sheets : List (List ℕ)
uneven_sheets =
    map (kept 0) (1 ∷ 500 ∷ 999 ∷ 1001 ∷ 20_000_500 ∷ 500_000_001 ∷ 536_870_911 ∷ [])
    ++ ((kept 0 1000 ++ kept 1 1500) ∷ (kept 0 1500 ++ kept 1 1000) ∷ (kept 0 1000 ++ kept 1 1000 ++ kept 2 20_000_999) ∷ [])

pub sheets_refused : (map (λ sheet. converted_number (conversion_answer sheet)) wrong_sheets ≡ replicate 20 31)
    × (map (λ sheet. converted_number (conversion_answer sheet)) uneven_sheets ≡ replicate 10 50)
    × (map converted (wrong_sheets ++ uneven_sheets) ≡ wrong_sheets ++ uneven_sheets)
unfolding each_word conversion_refusal recoded_from converted conversion_answer
sheets_refused = (refl, refl, refl)

-- 2,208 hours, and one more
pub hour_limit : (sheet : List ℕ) → EachHour sheet (λ k. (j : ℕ) → j < 6 → kept_kind sheet k j ≡ j) → EachHour sheet (λ k. kept_value sheet k 4 % 1000 ≡ 0) →
    (length sheet ≡ 6 * 2208 → conversion_refusal sheet ≡ 0) × (length sheet ≡ 6 * 2209 → conversion_refusal sheet ≡ 31)
hour_limit sheet kinds flows = (
  (λ l. told_none _ _ (refusal_told sheet) ((2208, l), (omega arith, (kinds, (flows, tt))))),
  (λ l. let f = told_first _ 31 _ (refusal_told sheet) (inr ((2209, l), inl (refl, λ h. absurd (omega arith)))) in f.1 ∙ f.2),
)
