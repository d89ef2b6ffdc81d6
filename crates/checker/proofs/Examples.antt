-- The paper's worked hour and empty quarter as files, and what the check answers to them: facts about the definitions.
use Rattle.std.specs.Prelude.{◌≡◌, refl, Bool, true, ◌&&◌, replicate, take, drop, List, [], ◌∷◌, ◌++◌, ℕ, ◌+◌, ◌*◌, ◌-◌}
use Rattle.exact.specs.Logic.{ranked}
use Rattle.exact.specs.Faults.{first_failing}
use Rattle.exact.specs.Fraction.{over}
use Rattle.exact.specs.Behind.{meets}
use Rattle.exact.specs.Sums.{total_of}
use Rattle.columns.specs.Bytes.{all, same}
use Rattle.columns.specs.Columns.{columns, put}
use Rattle.columns.specs.Number.{digits_from, whole_of, decimals_behind, fixed_of, field_of, is_empty, number_of}
use Rattle.columns.specs.Written.{digits_of}
use Rattle.calendar.specs.Calendar.{leap_year, days_in_month, in_quarter, days_before, hour_of_quarter, quarter_hour}
use Rattle.layout.specs.Layout.{length_of, date_column, hourly, order, shape, offset_of}
use Rattle.layout.specs.Values.{so2_ppm, so2_rate, nox_tons, within}
use Rattle.layout.specs.declared.RecordType.{RecordType}
use Rattle.layout.specs.declared.RecordType.TheVariants.{So2Concentration, NoxConcentration, Co2Concentration, VolumetricFlow, Operation}
use Rattle.layout.specs.declared.RecordType.TheVariants.{QuarterTotals, So2Mass, NoxRate, Co2Mass}
use Rattle.stamp.specs.Stamp.{number_hour, field_hour, stamp_hour}
use Rattle.formulas.specs.Formulas.{passes_test}
use Rattle.totals.specs.Totals.{totals_of, mean_of, quarter_of, quarter_totals}
use Rattle.lines.specs.Lines.{onto, lines, last}
use Rattle.lines.specs.LineFaults.{type_is, shape_fault, stack_fault, common_fault, field_fault, values_fault, digits_in}
use Rattle.lines.specs.LineFaults.{facility_fault, facility_line, rising_fault, dated_fault, hour_fault, hour_number, hour_line, date_fault, due_fault}
use Rattle.lines.specs.LineFaults.{so2_fault, has_gas, so2_blank, gas_fault, operates, idle_fault, operating_fault, timed_fault, operation_fault, said_of, operation_line}
use Rattle.reading.specs.Reading.{run_of, runs_of, walk_due, end_operations, walk_operations, walk_end, walk_last, walk_listed, walk_later, walk_hours, walk, read_of}
use Rattle.reading.specs.Idle.{without_idle, WithoutIdle}
use Rattle.reading.specs.Recorded.{lines_with, idle, records_of, value_on, hour_at, hours_of, totals_in}
use Rattle.judging.specs.Judged.{judged_hours, compared_totals, judged_quarter}
use Rattle.checker.specs.Checked.{refusal, answer_numbers, judged, after_reading, checked}

-- one hour at 2005 quarter 3, hour 0, time 0.50, SO2 250.0, NOx 200.0, CO2 12.0, flow 20,000,000, Fc 1,800.0
unfoldable pub worked_hour : List ℕ
worked_hour =
    -- 100STACK120053
    (49 ∷ 48 ∷ 48 ∷ 83 ∷ 84 ∷ 65 ∷ 67 ∷ 75 ∷ 49 ∷ 50 ∷ 48 ∷ 48 ∷ 53 ∷ 51 ∷ 10 ∷ []) ++
    -- 200STACK1      05070100            250.0
    (50 ∷ 48 ∷ 48 ∷ 83 ∷ 84 ∷ 65 ∷ 67 ∷ 75 ∷ 49 ∷ 32 ∷ 32 ∷ 32 ∷ 32 ∷ 32 ∷ 32 ∷ 48 ∷ 53 ∷ 48 ∷ 55 ∷ 48 ∷ 49 ∷ 48 ∷ 48 ∷ 32 ∷ 32 ∷ 32 ∷ 32 ∷ 32 ∷ 32 ∷
    32 ∷ 32 ∷ 32 ∷ 32 ∷ 32 ∷ 32 ∷ 50 ∷ 53 ∷ 48 ∷ 46 ∷ 48 ∷ 10 ∷ []) ++
    -- 201STACK1      05070100      200.0
    (50 ∷ 48 ∷ 49 ∷ 83 ∷ 84 ∷ 65 ∷ 67 ∷ 75 ∷ 49 ∷ 32 ∷ 32 ∷ 32 ∷ 32 ∷ 32 ∷ 32 ∷ 48 ∷ 53 ∷ 48 ∷ 55 ∷ 48 ∷ 49 ∷ 48 ∷ 48 ∷ 32 ∷ 32 ∷ 32 ∷ 32 ∷ 32 ∷ 32 ∷
    50 ∷ 48 ∷ 48 ∷ 46 ∷ 48 ∷ 10 ∷ []) ++
    -- 202STACK1      05070100       12.0
    (50 ∷ 48 ∷ 50 ∷ 83 ∷ 84 ∷ 65 ∷ 67 ∷ 75 ∷ 49 ∷ 32 ∷ 32 ∷ 32 ∷ 32 ∷ 32 ∷ 32 ∷ 48 ∷ 53 ∷ 48 ∷ 55 ∷ 48 ∷ 49 ∷ 48 ∷ 48 ∷ 32 ∷ 32 ∷ 32 ∷ 32 ∷ 32 ∷ 32 ∷
    32 ∷ 49 ∷ 50 ∷ 46 ∷ 48 ∷ 10 ∷ []) ++
    -- 220STACK1      05070100                 20000000
    (50 ∷ 50 ∷ 48 ∷ 83 ∷ 84 ∷ 65 ∷ 67 ∷ 75 ∷ 49 ∷ 32 ∷ 32 ∷ 32 ∷ 32 ∷ 32 ∷ 32 ∷ 48 ∷ 53 ∷ 48 ∷ 55 ∷ 48 ∷ 49 ∷ 48 ∷ 48 ∷ 32 ∷ 32 ∷ 32 ∷ 32 ∷ 32 ∷ 32 ∷
    32 ∷ 32 ∷ 32 ∷ 32 ∷ 32 ∷ 32 ∷ 32 ∷ 32 ∷ 32 ∷ 32 ∷ 32 ∷ 50 ∷ 48 ∷ 48 ∷ 48 ∷ 48 ∷ 48 ∷ 48 ∷ 48 ∷ 10 ∷ []) ++
    -- 300STACK1050701000.50               1333.3
    (51 ∷ 48 ∷ 48 ∷ 83 ∷ 84 ∷ 65 ∷ 67 ∷ 75 ∷ 49 ∷ 48 ∷ 53 ∷ 48 ∷ 55 ∷ 48 ∷ 49 ∷ 48 ∷ 48 ∷ 48 ∷ 46 ∷ 53 ∷ 48 ∷ 32 ∷ 32 ∷ 32 ∷ 32 ∷ 32 ∷ 32 ∷ 32 ∷ 32 ∷
    32 ∷ 32 ∷ 32 ∷ 32 ∷ 32 ∷ 32 ∷ 32 ∷ 49 ∷ 51 ∷ 51 ∷ 51 ∷ 46 ∷ 51 ∷ 10 ∷ []) ++
    -- 301STACK1        0.2       68.4      666.7 0.358        0.1
    (51 ∷ 48 ∷ 49 ∷ 83 ∷ 84 ∷ 65 ∷ 67 ∷ 75 ∷ 49 ∷ 32 ∷ 32 ∷ 32 ∷ 32 ∷ 32 ∷ 32 ∷ 32 ∷ 32 ∷ 48 ∷ 46 ∷ 50 ∷ 32 ∷ 32 ∷ 32 ∷ 32 ∷ 32 ∷ 32 ∷ 32 ∷ 54 ∷ 56 ∷
    46 ∷ 52 ∷ 32 ∷ 32 ∷ 32 ∷ 32 ∷ 32 ∷ 32 ∷ 54 ∷ 54 ∷ 54 ∷ 46 ∷ 55 ∷ 32 ∷ 48 ∷ 46 ∷ 51 ∷ 53 ∷ 56 ∷ 32 ∷ 32 ∷ 32 ∷ 32 ∷ 32 ∷ 32 ∷ 32 ∷ 32 ∷ 48 ∷ 46 ∷
    49 ∷ 10 ∷ []) ++
    -- 310STACK105070100         830.0
    (51 ∷ 49 ∷ 48 ∷ 83 ∷ 84 ∷ 65 ∷ 67 ∷ 75 ∷ 49 ∷ 48 ∷ 53 ∷ 48 ∷ 55 ∷ 48 ∷ 49 ∷ 48 ∷ 48 ∷ 32 ∷ 32 ∷ 32 ∷ 32 ∷ 32 ∷ 32 ∷ 32 ∷ 32 ∷ 32 ∷ 56 ∷ 51 ∷ 48 ∷
    46 ∷ 48 ∷ 32 ∷ 32 ∷ 32 ∷ 10 ∷ []) ++
    -- 320STACK1   05070100         1800.0 0.358
    (51 ∷ 50 ∷ 48 ∷ 83 ∷ 84 ∷ 65 ∷ 67 ∷ 75 ∷ 49 ∷ 32 ∷ 32 ∷ 32 ∷ 48 ∷ 53 ∷ 48 ∷ 55 ∷ 48 ∷ 49 ∷ 48 ∷ 48 ∷ 32 ∷ 32 ∷ 32 ∷ 32 ∷ 32 ∷ 32 ∷ 32 ∷ 32 ∷ 32 ∷
    49 ∷ 56 ∷ 48 ∷ 48 ∷ 46 ∷ 48 ∷ 32 ∷ 48 ∷ 46 ∷ 51 ∷ 53 ∷ 56 ∷ 32 ∷ 32 ∷ 32 ∷ 32 ∷ 32 ∷ 32 ∷ 32 ∷ 32 ∷ 32 ∷ 32 ∷ 32 ∷ 32 ∷ 32 ∷ 10 ∷ []) ++
    -- 330STACK105070100  136.8
    (51 ∷ 51 ∷ 48 ∷ 83 ∷ 84 ∷ 65 ∷ 67 ∷ 75 ∷ 49 ∷ 48 ∷ 53 ∷ 48 ∷ 55 ∷ 48 ∷ 49 ∷ 48 ∷ 48 ∷ 32 ∷ 32 ∷ 49 ∷ 51 ∷ 54 ∷ 46 ∷ 56 ∷ 10 ∷ [])

-- no operating hour, and zero totals
unfoldable pub empty_quarter : List ℕ
empty_quarter =
    -- 100STACK120053
    (49 ∷ 48 ∷ 48 ∷ 83 ∷ 84 ∷ 65 ∷ 67 ∷ 75 ∷ 49 ∷ 50 ∷ 48 ∷ 48 ∷ 53 ∷ 51 ∷ 10 ∷ []) ++
    -- 301STACK1        0.0        0.0        0.0 0.000        0.0
    (51 ∷ 48 ∷ 49 ∷ 83 ∷ 84 ∷ 65 ∷ 67 ∷ 75 ∷ 49 ∷ 32 ∷ 32 ∷ 32 ∷ 32 ∷ 32 ∷ 32 ∷ 32 ∷ 32 ∷ 48 ∷ 46 ∷ 48 ∷ 32 ∷ 32 ∷ 32 ∷ 32 ∷ 32 ∷ 32 ∷ 32 ∷ 32 ∷ 48 ∷
    46 ∷ 48 ∷ 32 ∷ 32 ∷ 32 ∷ 32 ∷ 32 ∷ 32 ∷ 32 ∷ 32 ∷ 48 ∷ 46 ∷ 48 ∷ 32 ∷ 48 ∷ 46 ∷ 48 ∷ 48 ∷ 48 ∷ 32 ∷ 32 ∷ 32 ∷ 32 ∷ 32 ∷ 32 ∷ 32 ∷ 32 ∷ 48 ∷ 46 ∷
    48 ∷ 10 ∷ [])

-- a file, and the number and the line that the check names
pub record Damage : Type 0 where
  pub file : List ℕ
  pub number : ℕ
  pub line : ℕ

-- the bytes in front of a record of the worked hour, and it with these bytes from a column of the record on
abbrev pub start : RecordType → ℕ
start t = offset_of (shape 1) t 0

abbrev pub changed : RecordType → ℕ → List ℕ → List ℕ
changed t column bytes = put (start t + column) bytes worked_hour

-- the worked hour with another SO2 figure: what recorders that multiply before they round may write beside 250.0 and 20,000,000
abbrev pub with_so2 : List ℕ → List ℕ
with_so2 figure = changed So2Mass 27 figure

abbrev pub lowest : List ℕ
lowest = with_so2 (56 ∷ 50 ∷ 57 ∷ 46 ∷ 56 ∷ [])

abbrev pub between : List ℕ
between = with_so2 (56 ∷ 51 ∷ 48 ∷ 46 ∷ 49 ∷ [])

abbrev pub highest : List ℕ
highest = with_so2 (56 ∷ 51 ∷ 48 ∷ 46 ∷ 50 ∷ [])

-- every line number is told from the lines of the file: those that the line checks count, those of the figures, and that of the totals
abbrev pub damages : List Damage
damages =
    -- no byte 10 at the end
    record { file = take (start Co2Mass + length_of Co2Mass) worked_hour; number = 1; line = 0 }
    -- 310 begins with 910
    ∷ record { file = changed So2Mass 1 (57 ∷ []); number = 2; line = 8 }
    -- a line follows the last one
    ∷ record { file = worked_hour ++ (51 ∷ 10 ∷ []); number = 2; line = 11 }
    -- 202 has lost its last column
    ∷ record { file = take (start Co2Concentration + 33) worked_hour ++ drop (start VolumetricFlow - 1) worked_hour; number = 3; line = 4 }
    -- byte 127 in a column of 201 that is not read
    ∷ record { file = changed NoxConcentration 10 (127 ∷ []); number = 4; line = 3 }
    -- XTACK1 on 200, and on 220
    ∷ record { file = changed So2Concentration 4 (88 ∷ []); number = 5; line = 2 }
    ∷ record { file = changed VolumetricFlow 4 (88 ∷ []); number = 5; line = 5 }
    -- month 13 on 200
    ∷ record { file = changed So2Concentration 18 (49 ∷ 51 ∷ []); number = 6; line = 2 }
    -- hour 01 on 320
    ∷ record { file = changed NoxRate 20 (49 ∷ []); number = 7; line = 9 }
    -- no point on 330
    ∷ record { file = changed Co2Mass 23 (48 ∷ []); number = 8; line = 10 }
    -- CO2 0.0 percent
    ∷ record { file = changed Co2Concentration 31 (48 ∷ 48 ∷ 46 ∷ 48 ∷ []); number = 9; line = 4 }
    -- flow 20,000,500; 9,999,999,001, which is no whole thousand either
    ∷ record { file = changed VolumetricFlow 46 (53 ∷ []); number = 43; line = 5 }
    ∷ record { file = changed VolumetricFlow 39 (57 ∷ 57 ∷ 57 ∷ 57 ∷ 57 ∷ 57 ∷ 57 ∷ 48 ∷ 48 ∷ 49 ∷ []); number = 9; line = 5 }
    -- 330 is missing
    ∷ record { file = take (start Co2Mass) worked_hour; number = 10; line = 10 }
    -- heat input 1,933.3; SO2 930.0; NOx 0.958; CO2 936.8
    ∷ record { file = changed Operation 38 (57 ∷ []); number = 11; line = 6 }
    ∷ record { file = changed So2Mass 27 (57 ∷ []); number = 12; line = 8 }
    ∷ record { file = changed NoxRate 39 (57 ∷ []); number = 13; line = 9 }
    ∷ record { file = changed Co2Mass 20 (57 ∷ []); number = 14; line = 10 }
    -- SO2 tons 0.9; CO2 tons 98.4; heat total 696.7; the mean 0.958 with NOx tons 0.9, and these alone
    ∷ record { file = changed QuarterTotals 20 (57 ∷ []); number = 21; line = 7 }
    ∷ record { file = changed QuarterTotals 28 (57 ∷ []); number = 22; line = 7 }
    ∷ record { file = changed QuarterTotals 39 (57 ∷ []); number = 23; line = 7 }
    ∷ record { file = put (start QuarterTotals + 59) (57 ∷ []) (changed QuarterTotals 46 (57 ∷ [])); number = 24; line = 7 }
    ∷ record { file = changed QuarterTotals 59 (57 ∷ []); number = 48; line = 7 }
    -- two totals: the first in order
    ∷ record { file = put (start QuarterTotals + 28) (57 ∷ []) (changed QuarterTotals 20 (57 ∷ [])); number = 21; line = 7 }
    ∷ record { file = put (start QuarterTotals + 39) (57 ∷ []) (changed QuarterTotals 28 (57 ∷ [])); number = 22; line = 7 }
    ∷ record { file = put (start QuarterTotals + 46) (57 ∷ []) (changed QuarterTotals 39 (57 ∷ [])); number = 23; line = 7 }
    -- NOx tons 100,000,000.1: all their columns count
    ∷ record { file = changed QuarterTotals nox_tons.start (49 ∷ replicate 8 48); number = 48; line = 7 }
    -- 301 ends before its NOx tons; they are blank
    ∷ record { file = take (start QuarterTotals + nox_tons.start - 1) worked_hour ++ drop (start So2Mass - 1) worked_hour; number = 3; line = 7 }
    ∷ record { file = changed QuarterTotals 57 (32 ∷ 32 ∷ 32 ∷ []); number = 8; line = 7 }
    ∷ []

-- 300 lines of 1 July 2005, by the last digit of the hour: an idle hour, one with heat 0.0, and one that operates with heat 1,333.3 or 1,933.3

unfoldable pub listed : ℕ → (timeToHeat : List ℕ) → List ℕ
listed digit timeToHeat =
    -- 300STACK10507010
    (51 ∷ 48 ∷ 48 ∷ 83 ∷ 84 ∷ 65 ∷ 67 ∷ 75 ∷ 49 ∷ 48 ∷ 53 ∷ 48 ∷ 55 ∷ 48 ∷ 49 ∷ 48 ∷ (48 + digit) ∷ []) ++ timeToHeat ++ (10 ∷ [])

abbrev pub idle_line : ℕ → List ℕ
idle_line digit = listed digit (48 ∷ 46 ∷ 48 ∷ 48 ∷ 32 ∷ 32 ∷ 32 ∷ 32 ∷ 32 ∷ 32 ∷ 32 ∷ 32 ∷ 32 ∷ 32 ∷ 32 ∷ 32 ∷ 32 ∷ 32 ∷ 32 ∷ 32 ∷ 32 ∷ 32 ∷ 32 ∷ 32 ∷ 32 ∷ [])

abbrev pub heated_idle_line : ℕ → List ℕ
heated_idle_line digit = listed digit
    (48 ∷ 46 ∷ 48 ∷ 48 ∷ 32 ∷ 32 ∷ 32 ∷ 32 ∷ 32 ∷ 32 ∷ 32 ∷ 32 ∷ 32 ∷ 32 ∷ 32 ∷ 32 ∷ 32 ∷ 32 ∷ 32 ∷ 32 ∷ 32 ∷ 32 ∷ 48 ∷ 46 ∷ 48 ∷ [])

abbrev pub operating_line : ℕ → List ℕ
operating_line digit = listed digit
    (48 ∷ 46 ∷ 53 ∷ 48 ∷ 32 ∷ 32 ∷ 32 ∷ 32 ∷ 32 ∷ 32 ∷ 32 ∷ 32 ∷ 32 ∷ 32 ∷ 32 ∷ 32 ∷ 32 ∷ 32 ∷ 32 ∷ 49 ∷ 51 ∷ 51 ∷ 51 ∷ 46 ∷ 51 ∷ [])

abbrev pub wrong_heat_line : ℕ → List ℕ
wrong_heat_line digit = listed digit
    (48 ∷ 46 ∷ 53 ∷ 48 ∷ 32 ∷ 32 ∷ 32 ∷ 32 ∷ 32 ∷ 32 ∷ 32 ∷ 32 ∷ 32 ∷ 32 ∷ 32 ∷ 32 ∷ 32 ∷ 32 ∷ 32 ∷ 49 ∷ 57 ∷ 51 ∷ 51 ∷ 46 ∷ 51 ∷ [])

-- the worked hour as hour 01, with these bytes for its 300 line, and the empty quarter with these bytes behind line 100

abbrev pub hour_later : List RecordType → List ℕ → List ℕ
hour_later [] file = file
hour_later (t ∷ ts) file = put (start t + date_column t + 7) (49 ∷ []) (hour_later ts file)

unfoldable pub with_listed : List ℕ → List ℕ
with_listed ls = let file = hour_later (hourly order) worked_hour in take (start Operation) file ++ ls ++ drop (start QuarterTotals) file

unfoldable pub empty_listed : List ℕ → List ℕ
empty_listed ls = take (start So2Concentration) empty_quarter ++ ls ++ drop (start So2Concentration) empty_quarter

abbrev pub two_lines : ℕ
two_lines = 2 * (length_of Operation + 1)

abbrev pub idle_damages : List Damage
idle_damages =
    -- heat input 1,933.3 behind an idle line: on its own line
    record { file = with_listed (idle_line 0 ++ wrong_heat_line 1); number = 11; line = 7 }
    -- a second operating hour behind an idle line, where there is one; the first operates too early
    ∷ record { file = with_listed (operating_line 1 ++ idle_line 2 ++ operating_line 3); number = 7; line = 8 }
    ∷ record { file = with_listed (operating_line 0 ++ idle_line 1); number = 7; line = 6 }
    -- heat 0.0 at time 0.00, in front of the hour and behind it
    ∷ record { file = with_listed (heated_idle_line 0 ++ operating_line 1); number = 47; line = 6 }
    ∷ record { file = with_listed (operating_line 1 ++ idle_line 2 ++ heated_idle_line 3); number = 47; line = 8 }
    -- an idle line for the hour before it, and an operating line for an idle hour
    ∷ record { file = with_listed (operating_line 1 ++ idle_line 1); number = 6; line = 7 }
    ∷ record { file = with_listed (idle_line 1 ++ operating_line 1); number = 6; line = 7 }
    ∷ record { file = with_listed (idle_line 0 ++ operating_line 1 ++ idle_line 3 ++ idle_line 2); number = 6; line = 9 }
    -- the hour is listed as idle: 301 comes too early
    ∷ record { file = with_listed (idle_line 1 ++ idle_line 2); number = 2; line = 8 }
    -- the file ends there
    ∷ record { file = take (start Operation) (with_listed []) ++ idle_line 0; number = 10; line = 7 }
    -- a 200 line behind an idle one
    ∷ record { file = empty_listed (idle_line 0 ++ take (length_of So2Concentration + 1) (drop (start So2Concentration) worked_hour)); number = 2; line = 3 }
    -- an operating hour where none has a 200 line
    ∷ record { file = empty_listed (idle_line 0 ++ operating_line 1); number = 7; line = 3 }
    -- 301 is missing behind an idle line
    ∷ record { file = take (start QuarterTotals + length_of Operation + 1) (with_listed (operating_line 1 ++ idle_line 2)); number = 10; line = 8 }
    -- SO2 930.0 on its 310 line, and heat total 696.7, behind two idle lines
    ∷ record { file = put (start So2Mass + two_lines + 27) (57 ∷ []) (with_listed (idle_line 0 ++ operating_line 1 ++ idle_line 2)); number = 12; line = 10 }
    ∷ record { file = put (start QuarterTotals + two_lines + 39) (57 ∷ []) (with_listed (idle_line 0 ++ operating_line 1 ++ idle_line 2)); number = 23; line = 9 }
    ∷ []

-- without its idle lines a file is another
pub idle_left_out : WithoutIdle (with_listed (idle_line 0 ++ operating_line 1 ++ idle_line 2)) (with_listed (operating_line 1))
unfolding worked_hour put listed with_listed digits_of same onto lines last type_is columns digits_from whole_of decimals_behind fixed_of field_of number_of operates idle without_idle
idle_left_out = record { lines = refl; last = refl }

-- the worked hour on pipeline natural gas: no SO2 reading, GAS, SO2 0.8 lb/hr beside heat 1,333.3, and SO2 tons 0.0
abbrev pub gas_hour : List ℕ
gas_hour =
    put (start So2Concentration + so2_ppm.start) (replicate so2_ppm.width 32)
    (put (start QuarterTotals + 20) (48 ∷ [])
    (changed So2Mass so2_rate.start (32 ∷ 32 ∷ 32 ∷ 32 ∷ 48 ∷ 46 ∷ 56 ∷ 71 ∷ 65 ∷ 83 ∷ [])))

abbrev pub gas_changed : RecordType → ℕ → List ℕ → List ℕ
gas_changed t column bytes = put (start t + column) bytes gas_hour

-- the worked hour, monitored, with GAS
abbrev pub gas_named : List ℕ
gas_named = changed So2Mass 32 (71 ∷ 65 ∷ 83 ∷ [])

abbrev pub gas_damages : List Damage
gas_damages =
    -- SO2 0.7 and 0.9, which no heat of 1,333.3 gives; heat input 1,933.3 before SO2; SO2 tons 0.2
    record { file = gas_changed So2Mass 31 (55 ∷ []); number = 12; line = 8 }
    ∷ record { file = gas_changed So2Mass 31 (57 ∷ []); number = 12; line = 8 }
    ∷ record { file = put (start Operation + 38) (57 ∷ []) (gas_changed So2Mass 31 (57 ∷ [])); number = 11; line = 6 }
    ∷ record { file = gas_changed QuarterTotals 20 (50 ∷ []); number = 21; line = 7 }
    -- no SO2 reading, and gas, GAX, XAS, blank GA or nothing for GAS
    ∷ record { file = gas_changed So2Mass 32 (103 ∷ 97 ∷ 115 ∷ []); number = 49; line = 8 }
    ∷ record { file = gas_changed So2Mass 34 (88 ∷ []); number = 49; line = 8 }
    ∷ record { file = gas_changed So2Mass 32 (88 ∷ []); number = 49; line = 8 }
    ∷ record { file = gas_changed So2Mass 32 (32 ∷ 71 ∷ 65 ∷ []); number = 49; line = 8 }
    ∷ record { file = gas_changed So2Mass 32 (32 ∷ 32 ∷ 32 ∷ []); number = 49; line = 8 }
    -- GAS beside an SO2 reading; before its value, 830 0, and behind its hour, 01
    ∷ record { file = gas_named; number = 49; line = 8 }
    ∷ record { file = put (start So2Mass + 30) (32 ∷ []) gas_named; number = 49; line = 8 }
    ∷ record { file = put (start So2Mass + 17) (49 ∷ []) gas_named; number = 7; line = 8 }
    -- no point in SO2 of a gas hour; a reading that is none, with GAS and without
    ∷ record { file = gas_changed So2Mass 30 (48 ∷ []); number = 8; line = 8 }
    ∷ record { file = gas_changed So2Concentration 40 (120 ∷ []); number = 8; line = 2 }
    ∷ record { file = changed So2Concentration 40 (120 ∷ []); number = 8; line = 2 }
    -- no NOx reading in a gas hour
    ∷ record { file = gas_changed NoxConcentration 29 (replicate 6 32); number = 8; line = 3 }
    ∷ []

unfoldable pub all_answered : List (List ℕ) → List ℕ → Bool
all_answered [] numbers = true
all_answered (f ∷ fs) numbers = same (answer_numbers (checked f)) numbers && all_answered fs numbers

unfoldable pub all_named : List Damage → Bool
all_named [] = true
all_named (d ∷ ds) = same (answer_numbers (checked d.file)) (refusal d.number d.line) && all_named ds

-- what the check answers to the worked hour (also with 829.8, 830.1 and 830.2 lb/hr, with GAX for GAS, and with idle hours about it), to the
-- empty quarter (also with idle hours alone), to the gas hour and to the damaged files
pub answers : (answer_numbers (checked worked_hour) ≡ 1 ∷ 2 ∷ 684 ∷ 6667 ∷ 358 ∷ 1 ∷ [])
    × (all_answered (lowest ∷ between ∷ highest ∷ changed So2Mass 32 (71 ∷ 65 ∷ 88 ∷ []) ∷ []) (1 ∷ 2 ∷ 684 ∷ 6667 ∷ 358 ∷ 1 ∷ []) ≡ true)
    × (answer_numbers (checked empty_quarter) ≡ 0 ∷ 0 ∷ 0 ∷ 0 ∷ 0 ∷ 0 ∷ [])
    × (all_named damages ≡ true)
    × (all_answered (with_listed (operating_line 1) ∷ with_listed (idle_line 0 ++ operating_line 1) ∷ with_listed
    (idle_line 0 ++ operating_line 1 ++ idle_line 2 ++ idle_line 9) ∷ [])
    (1 ∷ 2 ∷ 684 ∷ 6667 ∷ 358 ∷ 1 ∷ []) ≡ true)
    × (answer_numbers (checked (empty_listed (idle_line 0 ++ idle_line 1 ++ idle_line 9))) ≡ 0 ∷ 0 ∷ 0 ∷ 0 ∷ 0 ∷ 0 ∷ [])
    × (all_named idle_damages ≡ true)
    × (answer_numbers (checked gas_hour) ≡ 1 ∷ 0 ∷ 684 ∷ 6667 ∷ 358 ∷ 1 ∷ [])
    × (all_named gas_damages ≡ true)
unfolding worked_hour empty_quarter all_answered all_named put listed with_listed empty_listed
    over meets total_of all same columns digits_from whole_of decimals_behind fixed_of field_of number_of digits_of leap_year days_in_month in_quarter days_before
    hour_of_quarter quarter_hour number_hour field_hour stamp_hour passes_test totals_of mean_of quarter_of quarter_totals onto lines last type_is shape_fault
    stack_fault common_fault within field_fault values_fault digits_in facility_fault facility_line rising_fault dated_fault hour_fault hour_number hour_line date_fault
    due_fault operates idle_fault operating_fault timed_fault operation_fault said_of operation_line run_of runs_of walk_due end_operations walk_operations walk_end
    walk_last walk_listed walk_later walk_hours walk read_of lines_with idle records_of value_on hour_at ranked hours_of totals_in first_failing judged_hours judged_quarter
    compared_totals judged after_reading checked is_empty so2_fault has_gas so2_blank gas_fault
answers = (refl, refl, refl, refl, refl, refl, refl, refl, refl)
