-- The records of a report: one row a type, and their order. Everything else is derived from the two. Columns count from 1.
use Rattle.std.specs.Prelude.{ℕ, suc, ◌+◌, ◌*◌, ◌-◌, ◌≤◌, ◌<◌, Bool, true, false, cond, List, [], ◌∷◌, ◌++◌, eqb, length, get_or, take, drop}
use Rattle.calendar.specs.Calendar.{most_hours}
use Rattle.exact.specs.Sums.{total_of}
use Rattle.columns.specs.Number.{fewest_columns}
use Rattle.columns.specs.Written.{digits_of}
use Rattle.layout.specs.declared.RecordType.{RecordType}
use Rattle.layout.specs.declared.RecordType.TheVariants.{Facility, So2Concentration, NoxConcentration, Co2Concentration, VolumetricFlow}
use Rattle.layout.specs.declared.RecordType.TheVariants.{Operation, QuarterTotals, So2Mass, NoxRate, Co2Mass}
use Rattle.layout.specs.declared.values.Value.{Value}
use Rattle.layout.specs.declared.Shape.{Shape}
use Rattle.layout.specs.declared.Run.{Run}
use Rattle.layout.specs.declared.Run.TheVariants.{Once, Hourly, Listed}
use Rattle.layout.specs.declared.Row.{Row}
use Rattle.layout.specs.declared.Front.{Front}
use Rattle.layout.specs.Values.{no_value, so2_ppm, nox_ppm, co2_percent, flow_scfh, time_hours, heat_rate, so2_tons, co2_tons, heat_total, nox_mean, nox_tons}
use Rattle.layout.specs.Values.{so2_rate, f_factor, nox_rate, co2_rate}

-- every line has its type and its stack name

abbrev pub type_start : ℕ
type_start = 1

abbrev pub type_width : ℕ
type_width = 3

abbrev pub stack_start : ℕ
stack_start = 4

abbrev pub stack_width : ℕ
stack_width = 6

-- date and hour, YYMMDDHH
abbrev pub date_width : ℕ
date_width = 8

-- the word of a gas hour, on its 310 line

abbrev pub gas_start : ℕ
gas_start = 32

abbrev pub gas_word : List ℕ
gas_word = 71 ∷ 65 ∷ 83 ∷ []

-- a report of so many operating hours and so many 300 lines, and one that lists no other hour
abbrev pub shape_with : (hours operations : ℕ) → Shape
shape_with n m = record { hours = n; operations = m }

abbrev pub shape : ℕ → Shape
shape n = shape_with n n

-- how many lines a run has in a report of a shape
abbrev pub lines_of : Run → Shape → ℕ
lines_of Once s = 1
lines_of Hourly s = s.hours
lines_of Listed s = s.operations

-- by its run, a type has one line, without a date, or lines with dates, one for each operating hour
abbrev pub once_or_dated : {A : Type 0} → Run → (once dated : A) → A
once_or_dated Once once dated = once
once_or_dated Hourly once dated = dated
once_or_dated Listed once dated = dated

-- a type's code; its length without byte 10; where date and hour start (0 where it has none); its run of lines; its values, left to right;
-- whether its lines may have the word of a gas hour
pub record Record : Type 0 where
  pub code : ℕ
  pub length : ℕ
  pub date : ℕ
  pub run : Run
  pub values : List Value
  pub gas : Bool

abbrev row_with : (gas : Bool) (code length date : ℕ) → Run → List Value → Record
row_with gas code length date run values = record { code = code; length = length; date = date; run = run; values = values; gas = gas }

abbrev row : (code length date : ℕ) → Run → List Value → Record
row = row_with false

abbrev pub record_of : RecordType → Record
record_of Facility = row 100 14 0 Once []
record_of So2Concentration = row 200 40 16 Hourly (so2_ppm ∷ [])
record_of NoxConcentration = row 201 34 16 Hourly (nox_ppm ∷ [])
record_of Co2Concentration = row 202 34 16 Hourly (co2_percent ∷ [])
record_of VolumetricFlow = row 220 48 16 Hourly (flow_scfh ∷ [])
record_of Operation = row 300 42 10 Listed (time_hours ∷ heat_rate ∷ [])
record_of QuarterTotals = row 301 59 0 Once (so2_tons ∷ co2_tons ∷ heat_total ∷ nox_mean ∷ nox_tons ∷ [])
record_of So2Mass = row_with true 310 34 10 Hourly (so2_rate ∷ [])
record_of NoxRate = row 320 54 13 Hourly (f_factor ∷ nox_rate ∷ [])
record_of Co2Mass = row 330 24 10 Hourly (co2_rate ∷ [])

abbrev pub order : List RecordType
order = Facility ∷ So2Concentration ∷ NoxConcentration ∷ Co2Concentration ∷ VolumetricFlow ∷ Operation ∷ QuarterTotals ∷ So2Mass ∷ NoxRate ∷ Co2Mass ∷ []

abbrev pub code_of : RecordType → ℕ
code_of t = (record_of t).code

-- the first columns of its lines
abbrev pub type_digits : RecordType → List ℕ
type_digits t = digits_of type_width (code_of t)

abbrev pub length_of : RecordType → ℕ
length_of t = (record_of t).length

abbrev pub date_column : RecordType → ℕ
date_column t = (record_of t).date

abbrev pub values_of : RecordType → List Value
values_of t = (record_of t).values

abbrev pub value_count : RecordType → ℕ
value_count t = length (values_of t)

-- no record has more
abbrev pub most_values : ℕ
most_values = 5

-- the i-th value of a record from the left, from 0
abbrev pub value_at : RecordType → ℕ → Value
value_at t i = get_or (values_of t) i no_value

-- the numbers of a row, as the code has them
abbrev pub row_of : RecordType → Row
row_of t = record {
  code = code_of t;
  digits = type_digits t;
  length = length_of t;
  date = date_column t;
  run = (record_of t).run;
  values = value_count t;
  gas = (record_of t).gas;
}

-- the place of a type in the order, found by its code
abbrev pub place_of : ℕ → List RecordType → ℕ
place_of code [] = 0
place_of code (t ∷ ts) = cond (eqb (code_of t) code) 0 (suc (place_of code ts))

abbrev pub rank_of : RecordType → ℕ
rank_of t = place_of (code_of t) order

abbrev pub type_at : ℕ → RecordType
type_at place = get_or order place Facility

-- the types in front of one, those behind it, and those between two
abbrev pub earlier : RecordType → List RecordType
earlier t = take (rank_of t) order

abbrev pub later : RecordType → List RecordType
later t = drop (rank_of t + 1) order

abbrev pub types_between : RecordType → RecordType → List RecordType
types_between t u = drop (rank_of t + 1) (earlier u)

-- those of which every operating hour has a line
abbrev pub hourly : List RecordType → List RecordType
hourly [] = []
hourly (t ∷ ts) = once_or_dated (record_of t).run (hourly ts) (t ∷ hourly ts)

-- how many lines of a type a report of a shape has, and their bytes, each line with its byte 10
abbrev pub count_of : Shape → RecordType → ℕ
count_of s t = lines_of (record_of t).run s

abbrev pub bytes_of : Shape → RecordType → ℕ
bytes_of s t = (length_of t + 1) * count_of s t

-- the lines and bytes in front of a type: those of the types before it, one after the other
abbrev pub past : Shape → Front → RecordType → Front
past s b t = record { lines = b.lines + count_of s t; bytes = b.bytes + bytes_of s t }

abbrev pub up_to : ℕ → Shape → Front → List RecordType → Front
up_to code s b [] = b
up_to code s b (t ∷ ts) = cond (eqb (code_of t) code) b (up_to code s (past s b t) ts)

abbrev pub nothing : Front
nothing = record { lines = 0; bytes = 0 }

abbrev pub front_of : Shape → RecordType → Front
front_of s t = up_to (code_of t) s nothing order

-- the line of the record of rank k (from 0) of a type; the first line is 1
abbrev pub line_of : Shape → RecordType → ℕ → ℕ
line_of s t k = 1 + (front_of s t).lines + k

-- where that line starts, in bytes
abbrev pub offset_of : Shape → RecordType → ℕ → ℕ
offset_of s t k = (front_of s t).bytes + (length_of t + 1) * k

unfoldable pub report_length : Shape → ℕ
report_length s = total_of (bytes_of s) order

-- the runs of some types, one after the other
abbrev pub joined_runs : (RecordType → List ℕ) → List RecordType → List ℕ
joined_runs run [] = []
joined_runs run (t ∷ ts) = run t ++ joined_runs run ts

-- the counts of a quarter
pub record Held (s : Shape) : Type 0 where
  pub hours : s.hours ≤ most_hours
  pub operations : s.operations ≤ most_hours

-- the columns of a value in a line of a type
pub record ValueInside (t : RecordType) (v : Value) : Type 0 where
  pub first : 1 ≤ v.start
  pub last : v.start - 1 + v.width ≤ length_of t
  pub narrow : v.width ≤ 11
  pub room : fewest_columns v.decimals ≤ v.width
  pub decimals : v.decimals < v.width
  pub step : 1 ≤ v.step
