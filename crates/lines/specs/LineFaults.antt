-- The faults of one line, in the order in which they are looked for, and what lines 100, 200 and 300 say. A fault is its number in the
-- paper's table; 0 is none.
use Rattle.std.specs.Prelude.{ℕ, Result, Ok, Err, Some, None, zero, suc, List, [], ◌∷◌, Bool, true, false, cond, not, eqb, leb, ltb, length, take}
use Rattle.exact.specs.Logic.{agree}
use Rattle.exact.specs.Faults.{◌or_else◌, unless}
use Rattle.columns.specs.Bytes.{is_blank, is_printable, all, same}
use Rattle.columns.specs.Columns.{columns}
use Rattle.columns.specs.Number.{digits_only, field_of, is_empty, number_of}
use Rattle.columns.specs.declared.Field.{Field}
use Rattle.columns.specs.declared.Field.TheVariants.{Blank, Malformed, Number}
use Rattle.calendar.specs.Calendar.{QuarterHour}
use Rattle.layout.specs.Layout.{type_width, type_digits, stack_start, stack_width, date_width, length_of, record_of, date_column, values_of, gas_start, gas_word}
use Rattle.layout.specs.Values.{year_digits, quarter_digit, so2_ppm, listed_time, heat_rate, in_range, whole_steps, within}
use Rattle.stamp.specs.Stamp.{stamp_hour}
use Rattle.layout.specs.declared.RecordType.{RecordType}
use Rattle.layout.specs.declared.RecordType.TheVariants.{Facility, So2Concentration, Operation}
use Rattle.layout.specs.declared.values.Value.{Value}
use Rattle.calendar.specs.Calendar.{Period}
use Rattle.lines.specs.declared.operation.OperationLine.{OperationLine}
use Rattle.lines.specs.declared.operation.OperationLine.TheVariants.{Operating, Idle}

-- 2, 3 and 4: the type, the length, the bytes

unfoldable pub type_is : RecordType → List ℕ → Bool
type_is t line = same (take type_width line) (type_digits t)

unfoldable pub shape_fault : RecordType → List ℕ → ℕ
shape_fault t line =
    unless (type_is t line) 2 or_else unless (eqb (length line) (length_of t)) 3 or_else unless (all is_printable line) 4

-- 5: the stack name

abbrev pub stack_of : List ℕ → List ℕ
stack_of line = columns stack_start stack_width line

unfoldable pub stack_fault : List ℕ → List ℕ → ℕ
stack_fault facility line = unless (same (stack_of line) (stack_of facility)) 5

-- what every line behind line 100 is tried for first
unfoldable pub common_fault : List ℕ → RecordType → List ℕ → ℕ
common_fault facility t line = shape_fault t line or_else stack_fault facility line

-- 8, 9 and 43: the values, left to right

unfoldable pub field_fault : Value → Field → ℕ
field_fault v Blank = 8
field_fault v Malformed = 8
field_fault v (Number k) = unless (in_range v k) 9 or_else unless (whole_steps v k) 43

abbrev pub field_in : Value → List ℕ → Field
field_in v line = field_of v.decimals (columns v.start v.width line)

unfoldable pub values_fault : List Value → List ℕ → ℕ
values_fault [] line = 0
values_fault (v ∷ vs) line = field_fault v (field_in v line) or_else values_fault vs line

-- 6: year and quarter of line 100, digits only; 0, which is in no such range, where they are not

unfoldable pub digits_in : Value → List ℕ → ℕ
digits_in v line = number_of (digits_only (columns v.start v.width line))

abbrev pub period_on : List ℕ → Period
period_on facility = record { year = digits_in year_digits facility; quarter = digits_in quarter_digit facility }

unfoldable pub facility_fault : List ℕ → ℕ
facility_fault line =
    shape_fault Facility line
    or_else unless (not (all is_blank (stack_of line))) 5
    or_else unless (within year_digits (digits_in year_digits line)) 6
    or_else unless (within quarter_digit (digits_in quarter_digit line)) 6

-- what line 100 says, or the number of its fault
abbrev pub FacilityLine : Type 0
FacilityLine = Result Period ℕ

unfoldable pub facility_line : List ℕ → FacilityLine
facility_line line = elim (facility_fault line) [ zero ↦ Ok (period_on line) | suc c ↦ Err (suc c) ]

-- 6: date and hour of a 200 or 300 line, of which the hour of the quarter is at least `from`

unfoldable pub rising_fault : ℕ → QuarterHour → ℕ
rising_fault from None = 6
rising_fault from (Some hour) = unless (leb from hour) 6

abbrev pub date_on : RecordType → List ℕ → List ℕ
date_on t line = columns (date_column t) date_width line

abbrev pub hour_on : Period → RecordType → List ℕ → QuarterHour
hour_on period t line = stamp_hour period.year period.quarter (date_on t line)

unfoldable pub dated_fault : List ℕ → Period → RecordType → ℕ → List ℕ → ℕ
dated_fault facility period t from line = common_fault facility t line or_else rising_fault from (hour_on period t line)

-- its hour of the quarter, 0 where there is none
unfoldable pub hour_number : QuarterHour → ℕ
hour_number None = 0
hour_number (Some hour) = hour

abbrev pub hour_in : Period → RecordType → List ℕ → ℕ
hour_in period t line = hour_number (hour_on period t line)

-- the hour of the quarter that a line is for, or the number of its fault
abbrev pub HourLine : Type 0
HourLine = Result ℕ ℕ

-- what a line with this fault says of its hour
abbrev pub hour_said : (fault hour : ℕ) → HourLine
hour_said zero hour = Ok hour
hour_said (suc c) hour = Err (suc c)

unfoldable pub dated_line : List ℕ → Period → RecordType → ℕ → List ℕ → HourLine
dated_line facility period t from line = hour_said (dated_fault facility period t from line) (hour_in period t line)

-- a 200 line: behind them, its value, which may be blank here; whether it has to be, the 310 line of its rank says

unfoldable pub so2_fault : Field → ℕ
so2_fault Blank = 0
so2_fault Malformed = 8
so2_fault (Number k) = field_fault so2_ppm (Number k)

unfoldable pub hour_fault : List ℕ → Period → ℕ → List ℕ → ℕ
hour_fault facility period from line = dated_fault facility period So2Concentration from line or_else so2_fault (field_in so2_ppm line)

unfoldable pub hour_line : List ℕ → Period → ℕ → List ℕ → HourLine
hour_line facility period from line = hour_said (hour_fault facility period from line) (hour_in period So2Concentration line)

-- a line that is due: its type, and the 200 line of its rank, by which it is judged; no line where its type has no date
pub record Due : Type 0 where
  pub type : RecordType
  pub hour : List ℕ

abbrev pub due_of : RecordType → List ℕ → Due
due_of t hour = record { type = t; hour = hour }

-- 7: date and hour of the other dated lines

unfoldable pub date_fault : ℕ → List ℕ → List ℕ → ℕ
date_fault zero date line = 0
date_fault (suc c) date line = unless (same (columns (suc c) date_width line) date) 7

-- 49: a gas hour has GAS on its 310 line, and a blank SO2 value on the 200 line of its rank

unfoldable pub has_gas : List ℕ → Bool
has_gas line = same (columns gas_start (length gas_word) line) gas_word

unfoldable pub so2_blank : List ℕ → Bool
so2_blank line = is_empty (field_in so2_ppm line)

unfoldable pub gas_fault : Bool → List ℕ → List ℕ → ℕ
gas_fault false hour line = 0
gas_fault true hour line = unless (agree (has_gas line) (so2_blank hour)) 49

unfoldable pub due_fault : List ℕ → Due → List ℕ → ℕ
due_fault facility due line =
    common_fault facility due.type line
    or_else date_fault (date_column due.type) (date_on So2Concentration due.hour) line
    or_else gas_fault (record_of due.type).gas due.hour line
    or_else values_fault (values_of due.type) line

-- a 300 line: behind its hour, its time; then, where the hour operates, date and heat; where it is idle, 47 unless the heat columns are blank

abbrev pub time_in : List ℕ → Field
time_in line = field_in listed_time line

unfoldable pub operates : List ℕ → Bool
operates line = ltb 0 (number_of (time_in line))

unfoldable pub idle_fault : Field → ℕ
idle_fault Blank = 0
idle_fault Malformed = 47
idle_fault (Number k) = 47

unfoldable pub operating_fault : List ℕ → List ℕ → ℕ
operating_fault date line = date_fault (date_column Operation) date line or_else field_fault heat_rate (field_in heat_rate line)

-- `date` is the one that an operating hour must have; where none is left it is empty, and no line has it
unfoldable pub timed_fault : List ℕ → List ℕ → ℕ
timed_fault date line =
    field_fault listed_time (time_in line) or_else cond (operates line) (operating_fault date line) (idle_fault (field_in heat_rate line))

unfoldable pub operation_fault : List ℕ → Period → ℕ → List ℕ → List ℕ → ℕ
operation_fault facility period from date line = dated_fault facility period Operation from line or_else timed_fault date line

-- the hour of a 300 line, or the number of its fault
abbrev pub OperationSaid : Type 0
OperationSaid = Result OperationLine ℕ

-- what it says with this fault
unfoldable pub said_of : ℕ → OperationLine → OperationSaid
said_of zero hour = Ok hour
said_of (suc c) hour = Err (suc c)

abbrev pub operation_of : ℕ → ℕ → List ℕ → OperationSaid
operation_of fault hour line = said_of fault (cond (operates line) (Operating hour) (Idle hour))

unfoldable pub operation_line : List ℕ → Period → ℕ → List ℕ → List ℕ → OperationSaid
operation_line facility period from date line = operation_of (operation_fault facility period from date line) (hour_in period Operation line) line
