-- What the writer answers to sheets that are wrong in one thing: 31 to 34, each at its limit.
use Rattle.std.specs.Prelude.{◌≡◌, refl, List, [], ◌∷◌, ◌++◌, map, ℕ, ◌+◌, ◌*◌, ◌^◌, replicate, take}
use Rattle.exact.specs.Logic.{ranked}
use Rattle.exact.specs.Fraction.{over}
use Rattle.exact.specs.Sums.{total_of}
use Rattle.columns.specs.Bytes.{all}
use Rattle.calendar.specs.Calendar.{leap_year, days_in_month, days_in_quarter, hours_in_quarter}
use Rattle.layout.specs.Layout.{report_length}
use Rattle.layout.specs.Values.{within}
use Rattle.formulas.specs.Formulas.{rounded_value, rounded_figures}
use Rattle.sheet.specs.Sheet.{sheet_hour_in, sheet_hours_in}
use Rattle.sheet.specs.SheetTests.{every, heading_holds, hour_holds, hours_rise, readings_hold_in, kinds_rise_in, kinds_hold_in, sheet_holds_in}
use Rattle.writer.proofs.Examples.{stack}
use Rattle.writer.specs.Refusals.{figures_hold, refusal_in}
use Rattle.writer.specs.Written.{written_number, answered, answered_in}

-- a word; the words of an hour of the quarter for this time, with SO2, NOx, CO2, flow and Fc

abbrev word : (kind value : ℕ) → ℕ
word kind value = kind * 2 ^ 29 + value

abbrev hour_with : (hour time so2 nox co2 flow fc : ℕ) → List ℕ
hour_with hour time so2 nox co2 flow fc =
    word 0 (hour * 128 + time) ∷ word 1 so2 ∷ word 2 nox ∷ word 3 co2 ∷ word 4 flow ∷ word 5 fc ∷ []

abbrev plain : (hour time : ℕ) → List ℕ
plain hour time = hour_with hour time 2500 2000 120 20_000 18_000

abbrev kinds : (a b c d e f : ℕ) → List ℕ
kinds a b c d e f = word a 50 ∷ word b 2500 ∷ word c 2000 ∷ word d 120 ∷ word e 20_000 ∷ word f 18_000 ∷ []

-- to sheets of 2005, quarter 3, which has 2,208 hours, with room enough
abbrev numbers : List (List ℕ) → List ℕ
numbers sheets = map (λ sheet. written_number (answered 2005 3 stack sheet 1000)) sheets

pub sheet_answers :
    -- each kind another one, the last words of two hours among them
    (numbers (kinds 1 1 2 3 4 5 ∷ kinds 0 2 2 3 4 5 ∷ kinds 0 1 3 3 4 5 ∷ kinds 0 1 2 4 4 5 ∷ kinds 0 1 2 3 5 5 ∷ kinds 0 1 2 3 4 4 ∷ kinds 0 1 2 3 4 6
    ∷ kinds 0 1 2 3 4 7 ∷ (plain 3 50 ++ kinds 0 1 2 3 4 0) ∷ []) ≡ replicate 9 31)
    -- 1 to 5, 7 and 9 words, which are no hours
    × (numbers (take 1 (plain 0 50) ∷ take 2 (plain 0 50) ∷ take 3 (plain 0 50) ∷ take 4 (plain 0 50) ∷ take 5 (plain 0 50)
    ∷ take 7 (plain 0 50 ++ plain 1 50) ∷ take 9 (plain 0 50 ++ plain 1 50) ∷ []) ≡ replicate 7 31)
    -- an hour beyond the quarter, the same hour twice, an earlier one; the last of the quarter and two that rise
    × (numbers (plain 2208 50 ∷ (plain 7 50 ++ plain 7 50) ∷ (plain 7 50 ++ plain 6 50) ∷ plain 2207 50 ∷ (plain 6 50 ++ plain 7 50) ∷ []) ≡ 31 ∷ 31 ∷ 31
    ∷ 393 ∷ 711 ∷ [])
    -- the hours of other quarters: 90 days, 91 in a leap year, 91 and 92
    × (map (λ sheet. written_number (answered 2005 1 stack sheet 1000)) (plain 2159 50 ∷ plain 2160 50 ∷ []) ≡ 393 ∷ 31 ∷ [])
    × (map (λ sheet. written_number (answered 2004 1 stack sheet 1000)) (plain 2183 50 ∷ plain 2184 50 ∷ []) ≡ 393 ∷ 31 ∷ [])
    × (map (λ sheet. written_number (answered 2005 2 stack sheet 1000)) (plain 2183 50 ∷ plain 2184 50 ∷ []) ≡ 393 ∷ 31 ∷ [])
    × (map (λ sheet. written_number (answered 2005 4 stack sheet 1000)) (plain 2207 50 ∷ plain 2208 50 ∷ []) ≡ 393 ∷ 31 ∷ [])
    -- year, quarter and name: just outside, and at both ends
    × (map (λ year. written_number (answered year 3 stack (plain 0 50) 1000)) (1994 ∷ 1995 ∷ 2094 ∷ 2095 ∷ []) ≡ 31 ∷ 393 ∷ 393 ∷ 31 ∷ [])
    × (map (λ quarter. written_number (answered 2005 quarter stack (plain 0 50) 1000)) (0 ∷ 1 ∷ 4 ∷ 5 ∷ []) ≡ 31 ∷ 393 ∷ 393 ∷ 31 ∷ [])
    × (map (λ byte. written_number (answered 2005 3 (replicate 5 32 ++ byte ∷ []) (plain 0 50) 1000)) (31 ∷ 32 ∷ 33 ∷ 126 ∷ 127 ∷ []) ≡ 31 ∷ 31 ∷ 393 ∷ 393 ∷ 31
    ∷ [])
    -- time 0.00, 1.01 and 1.27; 0.01 and 1.00
    × (numbers (plain 5 0 ∷ plain 5 101 ∷ plain 5 127 ∷ plain 5 1 ∷ plain 5 100 ∷ []) ≡ 32 ∷ 32 ∷ 32 ∷ 393 ∷ 393 ∷ [])
    -- SO2, NOx, CO2, flow and Fc just outside and at both ends
    × (numbers (hour_with 0 50 100_000 2000 120 1 18_000 ∷ hour_with 0 50 2500 100_000 120 1 18_000 ∷ hour_with 0 50 2500 2000 0 1 18_000
    ∷ hour_with 0 50 2500 2000 1001 1 18_000 ∷ hour_with 0 50 2500 2000 120 10_000_000 18_000 ∷ hour_with 0 50 2500 2000 120 1 4999
    ∷ hour_with 0 50 2500 2000 120 1 30_001 ∷ []) ≡ replicate 7 32)
    × (numbers (hour_with 0 50 99_999 0 1000 1 30_000 ∷ hour_with 0 50 0 99_999 1000 1 5000 ∷ hour_with 0 50 0 0 1 9_999_999 5000 ∷ []) ≡ replicate 3 393)
    -- a station of 9,999,999,000 scfh: SO2 of 99,932.0 and 100,098.0 lb/hr, heat of 96,666.7 and of 99,999.99, which rounds to 100,000.0
    × (numbers (hour_with 0 50 602 0 1 9_999_999 30_000 ∷ hour_with 0 50 603 0 1 9_999_999 30_000 ∷ hour_with 0 50 0 0 29 9_999_999 30_000
    ∷ hour_with 0 50 0 0 30 9_999_999 30_000 ∷ []) ≡ 393 ∷ 33 ∷ 393 ∷ 33 ∷ [])
    -- SO2 of 99,998.4 and 100,006.7 lb/hr, NOx of 99.974 and 100.009 lb/mmBtu
    × (numbers (hour_with 0 50 12_048 0 1 500_000 30_000 ∷ hour_with 0 50 12_049 0 1 500_000 30_000 ∷ hour_with 0 50 0 2791 1 1 30_000
    ∷ hour_with 0 50 0 2792 1 1 30_000 ∷ []) ≡ 393 ∷ 33 ∷ 393 ∷ 33 ∷ [])
    -- a figure that is too large: heat 100,000.0 and more, NOx 100.000 and more, in the second hour; and the greatest that fit
    × (numbers (hour_with 0 50 0 0 1000 500_000 5000 ∷ hour_with 0 50 0 99_999 1 1 30_000 ∷ (plain 0 50 ++ hour_with 1 50 0 0 1000 500_000 5000)
    ∷ hour_with 0 50 0 0 1000 49_999 5000 ∷ hour_with 0 50 0 0 1000 50_000 5000 ∷ []) ≡ 33 ∷ 33 ∷ 33 ∷ 393 ∷ 33 ∷ [])
    -- room for a byte less than the report, and for it
    × (map (λ room. written_number (answered 2005 3 stack (plain 0 50 ++ plain 1 50) room)) (0 ∷ 392 ∷ 710 ∷ 711 ∷ []) ≡ 34 ∷ 34 ∷ 34 ∷ 711 ∷ [])
    -- 31 before 32 before 33 before 34, each over the whole sheet
    × (map (λ sheet. written_number (answered 2005 3 stack sheet 0)) ((plain 5 0 ++ kinds 0 1 2 3 4 6) ∷ (hour_with 0 50 0 0 1000 500_000 5000 ++ plain 5 0)
    ∷ (plain 0 50 ++ hour_with 1 50 0 0 1000 500_000 5000) ∷ plain 0 50 ∷ []) ≡ 31 ∷ 32 ∷ 33 ∷ 34 ∷ [])
unfolding all leap_year days_in_month days_in_quarter hours_in_quarter over total_of rounded_value rounded_figures sheet_hour_in ranked sheet_hours_in report_length within every
    heading_holds kinds_rise_in kinds_hold_in hour_holds hours_rise sheet_holds_in readings_hold_in figures_hold refusal_in answered_in
sheet_answers = (refl, refl, refl, refl, refl, refl, refl, refl, refl, refl, refl, refl, refl, refl, refl, refl, refl, refl)
