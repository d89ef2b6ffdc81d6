-- What a flow is refused for: 8, then 9, then 43; and an SO2 reading. What a 300 line is refused for: 6, then its time's 8 and 9, then by its
-- time 47, or 7 and heat's 8. What a 310 line is refused for: 7, then 49, then 8.
use Rattle.std.specs.Prelude.{◌≡◌, refl, List, [], ◌∷◌, ◌++◌, map, ℕ, ◌+◌, take}
use Rattle.columns.specs.Bytes.{all, same}
use Rattle.columns.specs.Columns.{columns, put}
use Rattle.columns.specs.Number.{digits_from, whole_of, decimals_behind, fixed_of, field_of, is_empty, number_of}
use Rattle.columns.specs.Written.{digits_of}
use Rattle.calendar.specs.Calendar.{leap_year, days_in_month, in_quarter, days_before, hour_of_quarter, quarter_hour}
use Rattle.stamp.specs.Stamp.{number_hour, field_hour, stamp_hour}
use Rattle.columns.specs.declared.Field.{Field}
use Rattle.columns.specs.declared.Field.TheVariants.{Blank, Malformed, Number}
use Rattle.layout.specs.Values.{flow_scfh}
use Rattle.layout.specs.declared.RecordType.TheVariants.{So2Mass}
use Rattle.lines.specs.LineFaults.{type_is, shape_fault, stack_fault, common_fault, field_fault, values_fault, digits_in, period_on, rising_fault, dated_fault}
use Rattle.lines.specs.LineFaults.{so2_fault, due_of, date_fault, has_gas, so2_blank, gas_fault, due_fault}
use Rattle.lines.specs.LineFaults.{operates, idle_fault, operating_fault, timed_fault, operation_fault}

abbrev faults_of : List Field → List ℕ
faults_of fs = map (λ f. field_fault flow_scfh f) fs

pub flow_faults : (faults_of (Blank ∷ Malformed ∷ []) ≡ 8 ∷ 8 ∷ [])
    × (faults_of (Number 9_999_999_001 ∷ Number 9_999_999_500 ∷ Number 9_999_999_999 ∷ []) ≡ 9 ∷ 9 ∷ 9 ∷ [])
    × (faults_of (Number 1 ∷ Number 500 ∷ Number 999 ∷ Number 20_000_500 ∷ Number 9_999_998_001 ∷ []) ≡ 43 ∷ 43 ∷ 43 ∷ 43 ∷ 43 ∷ [])
    × (faults_of (Number 0 ∷ Number 1000 ∷ Number 20_000_000 ∷ Number 500_001_000 ∷ Number 9_999_999_000 ∷ []) ≡ 0 ∷ 0 ∷ 0 ∷ 0 ∷ 0 ∷ [])
unfolding field_fault
flow_faults = (refl, refl, refl, refl)

-- the value of a 200 line: a blank one is no fault
pub so2_faults : map so2_fault (Blank ∷ Malformed ∷ Number 0 ∷ Number 99_999 ∷ Number 100_000 ∷ []) ≡ 0 ∷ 8 ∷ 0 ∷ 0 ∷ 9 ∷ []
unfolding so2_fault field_fault
so2_faults = refl

-- the parts of a 300 line of 1 July 2005: its hour, its time and its heat
abbrev facility_line2005 : List ℕ
facility_line2005 =
    -- 100STACK120053
    49 ∷ 48 ∷ 48 ∷ 83 ∷ 84 ∷ 65 ∷ 67 ∷ 75 ∷ 49 ∷ 50 ∷ 48 ∷ 48 ∷ 53 ∷ 51 ∷ []

abbrev date_at : ℕ → List ℕ
date_at digit =
    -- 0507010 and the last digit of the hour
    48 ∷ 53 ∷ 48 ∷ 55 ∷ 48 ∷ 49 ∷ 48 ∷ (48 + digit) ∷ []

abbrev blanks : List ℕ
blanks = 32 ∷ 32 ∷ 32 ∷ 32 ∷ 32 ∷ 32 ∷ 32 ∷ []

abbrev listed : ℕ → (time heat : List ℕ) → List ℕ
listed digit time heat =
    -- 300STACK1
    (51 ∷ 48 ∷ 48 ∷ 83 ∷ 84 ∷ 65 ∷ 67 ∷ 75 ∷ 49 ∷ []) ++ date_at digit ++ time ++ blanks ++ blanks ++ heat

-- times 0.00, 0.01, 1.00, 1.01, blank and one that is none; heat 1333.3, a rate of 0.0 and one that is none

abbrev none : List ℕ
none = 48 ∷ 46 ∷ 48 ∷ 48 ∷ []

abbrev least : List ℕ
least = 48 ∷ 46 ∷ 48 ∷ 49 ∷ []

abbrev most : List ℕ
most = 49 ∷ 46 ∷ 48 ∷ 48 ∷ []

abbrev over : List ℕ
over = 49 ∷ 46 ∷ 48 ∷ 49 ∷ []

abbrev untimed : List ℕ
untimed = 32 ∷ 32 ∷ 32 ∷ 32 ∷ []

abbrev no_time : List ℕ
no_time = 48 ∷ 46 ∷ 48 ∷ 120 ∷ []

abbrev heat : List ℕ
heat = 32 ∷ 49 ∷ 51 ∷ 51 ∷ 51 ∷ 46 ∷ 51 ∷ []

abbrev zero_rate : List ℕ
zero_rate = 32 ∷ 32 ∷ 32 ∷ 32 ∷ 48 ∷ 46 ∷ 48 ∷ []

abbrev no_number : List ℕ
no_number = 32 ∷ 32 ∷ 32 ∷ 32 ∷ 32 ∷ 32 ∷ 120 ∷ []

-- the fault of a 300 line that may follow the hour 02, where the operating hour 03 is due
abbrev fault_after : List ℕ → List ℕ → ℕ
fault_after date line = operation_fault facility_line2005 (period_on facility_line2005) 3 date line

abbrev operation_faults : List (List ℕ) → List ℕ
operation_faults ls = map (λ l. fault_after (date_at 3) l) ls

pub operation_faults_lem :
    -- the hour 03 operates; an hour is idle, be it the hour 03 or a later one
    (operation_faults (listed 3 least heat ∷ listed 3 most zero_rate ∷ listed 3 none blanks ∷ listed 7 none blanks ∷ []) ≡ 0 ∷ 0 ∷ 0 ∷ 0 ∷ [])
    -- one column too few or too many, byte 127 in a column that is not read, XTACK1: each before the hour, 02 again, and the heat of an idle hour
    × (operation_faults (take 41 (listed 2 none heat) ∷ (listed 2 none heat ++ (32 ∷ [])) ∷ put 4 (88 ∷ []) (put 30 (127 ∷ []) (listed 2 none heat))
    ∷ put 4 (88 ∷ []) (listed 2 none heat) ∷ []) ≡ 3 ∷ 3 ∷ 4 ∷ 5 ∷ [])
    -- hour 0: and June, whatever the time
    × (operation_faults (listed 10 least heat ∷ listed 10 none blanks ∷ listed 10 over heat ∷ put 13 (54 ∷ []) (listed 3 least heat)
    ∷ put 13 (54 ∷ []) (listed 3 none blanks) ∷ []) ≡ 6 ∷ 6 ∷ 6 ∷ 6 ∷ 6 ∷ [])
    -- hour 02 again, whatever its time
    × (operation_faults (listed 2 least heat ∷ listed 2 none blanks ∷ listed 2 untimed heat ∷ listed 2 over heat ∷ listed 2 none heat ∷ []) ≡ 6 ∷ 6 ∷ 6
    ∷ 6 ∷ 6 ∷ [])
    -- no time, then too much time, whatever the heat and the date
    × (operation_faults (listed 3 untimed heat ∷ listed 3 untimed blanks ∷ listed 7 untimed heat ∷ listed 3 no_time heat ∷ listed 3 no_time blanks ∷ []) ≡
    8 ∷ 8 ∷ 8 ∷ 8 ∷ 8 ∷ [])
    × (operation_faults (listed 3 over heat ∷ listed 3 over blanks ∷ listed 7 over heat ∷ []) ≡ 9 ∷ 9 ∷ 9 ∷ [])
    -- an idle hour with heat, on any date
    × (operation_faults (listed 3 none heat ∷ listed 3 none zero_rate ∷ listed 3 none no_number ∷ listed 7 none heat ∷ []) ≡ 47 ∷ 47 ∷ 47 ∷ 47 ∷ [])
    -- another hour that operates, then one without heat
    × (operation_faults (listed 4 least heat ∷ put 15 (50 ∷ []) (listed 3 least heat) ∷ listed 4 least blanks ∷ listed 3 least blanks
    ∷ listed 3 least no_number ∷ []) ≡ 7 ∷ 7 ∷ 7 ∷ 8 ∷ 8 ∷ [])
    -- no operating hour is due
    × (map (fault_after []) (listed 3 least heat ∷ listed 3 none blanks ∷ listed 3 none heat ∷ listed 3 over heat ∷ []) ≡ 7 ∷ 0 ∷ 47 ∷ 9 ∷ [])
unfolding all same columns put digits_from whole_of decimals_behind fixed_of field_of number_of digits_of leap_year days_in_month in_quarter days_before
    hour_of_quarter quarter_hour number_hour field_hour stamp_hour type_is shape_fault stack_fault common_fault field_fault digits_in rising_fault dated_fault date_fault
    operates idle_fault operating_fault timed_fault operation_fault
operation_faults_lem = (refl, refl, refl, refl, refl, refl, refl, refl, refl)

-- the 200 line and the 310 line of the hour 03, or of another, with their value and the word that may be GAS

abbrev so2_line : (value : List ℕ) → List ℕ
so2_line value =
    -- 200STACK1
    (50 ∷ 48 ∷ 48 ∷ 83 ∷ 84 ∷ 65 ∷ 67 ∷ 75 ∷ 49 ∷ []) ++ take 6 blanks ++ date_at 3 ++ blanks ++ take 4 blanks ++ value

abbrev mass_line : ℕ → (value word : List ℕ) → List ℕ
mass_line digit value word =
    -- 310STACK1
    (51 ∷ 49 ∷ 48 ∷ 83 ∷ 84 ∷ 65 ∷ 67 ∷ 75 ∷ 49 ∷ []) ++ date_at digit ++ blanks ++ value ++ word

-- 250.0 and no reading; GAS, gas, GAX and nothing

abbrev reading : List ℕ
reading = 32 ∷ 50 ∷ 53 ∷ 48 ∷ 46 ∷ 48 ∷ []

abbrev no_reading : List ℕ
no_reading = take 6 blanks

abbrev gas : List ℕ
gas = 71 ∷ 65 ∷ 83 ∷ []

abbrev small_gas : List ℕ
small_gas = 103 ∷ 97 ∷ 115 ∷ []

abbrev almost_gas : List ℕ
almost_gas = 71 ∷ 65 ∷ 88 ∷ []

abbrev no_word : List ℕ
no_word = take 3 blanks

-- the faults of 310 lines, where the hour 03 is due with this reading
abbrev mass_faults : List ℕ → List (List ℕ) → List ℕ
mass_faults value ls = map (λ l. due_fault facility_line2005 (due_of So2Mass (so2_line value)) l) ls

pub gas_faults :
    -- GAS and no reading, or a reading and no GAS
    (mass_faults no_reading (mass_line 3 zero_rate gas ∷ mass_line 3 zero_rate small_gas ∷ mass_line 3 zero_rate almost_gas ∷ mass_line 3 zero_rate no_word ∷ []) ≡ 0
    ∷ 49 ∷ 49 ∷ 49 ∷ [])
    × (mass_faults reading (mass_line 3 zero_rate gas ∷ mass_line 3 zero_rate small_gas ∷ mass_line 3 zero_rate almost_gas ∷ mass_line 3 zero_rate no_word ∷ []) ≡ 49
    ∷ 0 ∷ 0 ∷ 0 ∷ [])
    -- another hour before it, a value that is none behind it
    × (mass_faults reading (mass_line 4 zero_rate gas ∷ mass_line 4 no_number gas ∷ mass_line 3 no_number gas ∷ mass_line 3 no_number no_word ∷ []) ≡ 7 ∷ 7 ∷ 49 ∷
    8 ∷ [])
    × (mass_faults no_reading (mass_line 4 zero_rate no_word ∷ mass_line 3 blanks no_word ∷ mass_line 3 blanks gas ∷ []) ≡ 7 ∷ 49 ∷ 8 ∷ [])
unfolding all same columns digits_from whole_of decimals_behind fixed_of field_of is_empty digits_of type_is shape_fault stack_fault common_fault field_fault
    values_fault date_fault has_gas so2_blank gas_fault due_fault
gas_faults = (refl, refl, refl, refl)
