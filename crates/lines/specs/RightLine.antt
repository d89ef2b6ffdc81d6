-- A line of a report as the paper has it, with the paper's numbers. No test of the check is called here: RightLaws.antt proves that the lines
-- without fault are these, and no others. In the formats of columns/specs/Format, a number in F.d is blanks or none, at least one digit, a
-- point and exactly d digits, to the end, in I the same without a point; a date that lies in a quarter (calendar/specs/Calendar) has one of
-- its months, a day of that month and an hour to 23.
use Rattle.std.specs.Prelude.{ℕ, ◌+◌, ◌/◌, ◌%◌, ◌≤◌, ◌≡◌, ◌↔◌, ◌⊎◌, List, [], ◌∷◌, length, take}
use Rattle.exact.specs.Logic.{All}
use Rattle.columns.specs.Columns.{columns}
use Rattle.columns.specs.Format.{Blanks, DigitsOnly, InFormat}
use Rattle.calendar.specs.Calendar.{hour_of_quarter, LiesIn}
use Rattle.layout.specs.declared.RecordType.{RecordType}
use Rattle.layout.specs.declared.RecordType.TheVariants.{Facility, So2Concentration, NoxConcentration, Co2Concentration, VolumetricFlow}
use Rattle.layout.specs.declared.RecordType.TheVariants.{Operation, QuarterTotals, So2Mass, NoxRate, Co2Mass}
use Rattle.layout.specs.declared.values.Value.{Value}
use Rattle.stamp.specs.Stamp.{number_date}
use Rattle.calendar.specs.Calendar.{Period}

-- a value: so many columns from `start` on, with so many decimals; the range, in units of the last decimal, and the step of which it is a multiple
abbrev pub stepped : (start width decimals least most step : ℕ) → Value
stepped start width decimals least most step =
    record { start = start; width = width; decimals = decimals; least = least; most = most; step = step }

abbrev pub ranged : (start width decimals least most : ℕ) → Value
ranged start width decimals least most = stepped start width decimals least most 1

abbrev pub so2_reading : Value
so2_reading = ranged 35 6 1 0 99_999

abbrev pub operating_time : Value
operating_time = ranged 18 4 2 1 100

abbrev pub heat_input : Value
heat_input = ranged 36 7 1 0 999_999

-- the paper's row of a type: its first three bytes, its length, where date and hour start (0 where it has none), its values, left to right
pub record PaperRow : Type 0 where
  pub type : List ℕ
  pub long : ℕ
  pub date : ℕ
  pub values : List Value

abbrev row : (hundreds tens ones long date : ℕ) → List Value → PaperRow
row a b c long date values = record { type = (48 + a) ∷ (48 + b) ∷ (48 + c) ∷ []; long = long; date = date; values = values }

abbrev pub paper_row : RecordType → PaperRow
paper_row Facility = row 1 0 0 14 0 []
paper_row So2Concentration = row 2 0 0 40 16 (so2_reading ∷ [])
paper_row NoxConcentration = row 2 0 1 34 16 (ranged 29 6 1 0 99_999 ∷ [])
paper_row Co2Concentration = row 2 0 2 34 16 (ranged 29 6 1 1 1_000 ∷ [])
paper_row VolumetricFlow = row 2 2 0 48 16 (stepped 39 10 0 0 9_999_999_000 1_000 ∷ [])
paper_row Operation = row 3 0 0 42 10 (operating_time ∷ heat_input ∷ [])
paper_row QuarterTotals =
    row 3 0 1 59 0 (ranged 10 11 1 0 9_999_999_999 ∷ ranged 21 11 1 0 9_999_999_999 ∷ ranged 32 11 1 0 9_999_999_999 ∷ ranged 43 6 3 0 99_999
    ∷ ranged 49 11 1 0 9_999_999_999 ∷ [])
paper_row So2Mass = row 3 1 0 34 10 (ranged 25 7 1 0 999_999 ∷ [])
paper_row NoxRate = row 3 2 0 54 13 (ranged 26 10 1 5_000 30_000 ∷ ranged 36 6 3 0 99_999 ∷ [])
paper_row Co2Mass = row 3 3 0 24 10 (ranged 18 7 1 0 999_999 ∷ [])

-- type, length and bytes
pub record Shaped (t : RecordType) (line : List ℕ) : Type 0 where
  pub type : take 3 line ≡ (paper_row t).type
  pub long : length line ≡ (paper_row t).long
  pub printable : All (λ (b : ℕ). (32 ≤ b) × (b ≤ 126)) line

-- and the stack name of line 100
pub record Headed (facility : List ℕ) (t : RecordType) (line : List ℕ) : Type 0 where
  pub shaped : Shaped t line
  pub stack : columns 4 6 line ≡ columns 4 6 facility

-- the columns of a value: this number in its format, or blank

abbrev pub Reads : Value → List ℕ → (number : ℕ) → Type 0
Reads v line number = InFormat v.decimals (columns v.start v.width line) number

abbrev pub BlankIn : Value → List ℕ → Type 0
BlankIn v line = Blanks (columns v.start v.width line)

-- a value in its format, in its range and a multiple of its step
pub record RightValue (v : Value) (line : List ℕ) : Type 0 where
  pub number : ℕ
  pub reads : Reads v line number
  pub least : v.least ≤ number
  pub most : number ≤ v.most
  pub steps : number % v.step ≡ 0

-- line 100, with the year and the quarter that it says
pub record RightFacility (line : List ℕ) (p : Period) : Type 0 where
  pub shaped : Shaped Facility line
  pub named : Blanks (columns 4 6 line) → ⊥
  pub year : DigitsOnly (columns 10 4 line) p.year
  pub years : (1995 ≤ p.year) × (p.year ≤ 2094)
  pub quarter : DigitsOnly (columns 14 1 line) p.quarter
  pub quarters : (1 ≤ p.quarter) × (p.quarter ≤ 4)

-- eight digits YYMMDDHH: YY the year's last two digits, a real date and hour of the quarter, and which hour of it that is
pub record RightDate (p : Period) (bs : List ℕ) (hour : ℕ) : Type 0 where
  pub number : ℕ
  pub reads : DigitsOnly bs number
  pub year : number / 1_000_000 ≡ p.year % 100
  pub lies : LiesIn p.year p.quarter (number_date number)
  pub own : hour_of_quarter p.year p.quarter (number_date number) ≡ hour

-- a 200 line of this hour of the quarter
pub record RightHour (facility : List ℕ) (p : Period) (hour : ℕ) (line : List ℕ) : Type 0 where
  pub headed : Headed facility So2Concentration line
  pub date : RightDate p (columns 16 8 line) hour
  pub value : BlankIn so2_reading line ⊎ RightValue so2_reading line

-- a line of another type, by the 200 line of its rank
pub record RightDue (facility : List ℕ) (t : RecordType) (hour line : List ℕ) : Type 0 where
  pub headed : Headed facility t line
  pub date : 1 ≤ (paper_row t).date → columns (paper_row t).date 8 line ≡ columns 16 8 hour
  -- GAS
  pub gas : t ≡ So2Mass → (columns 32 3 line ≡ 71 ∷ 65 ∷ 83 ∷ []) ↔ BlankIn so2_reading hour
  pub values : All (λ (v : Value). RightValue v line) (paper_row t).values

-- a 300 line of this hour of the quarter, operating or idle
pub record RightListed (facility : List ℕ) (p : Period) (hour : ℕ) (line : List ℕ) : Type 0 where
  pub headed : Headed facility Operation line
  pub date : RightDate p (columns 10 8 line) hour

-- it operates, in the hour of this 200 line
pub record Operates (hour line : List ℕ) : Type 0 where
  pub date : columns 10 8 line ≡ columns 16 8 hour
  pub time : RightValue operating_time line
  pub heat : RightValue heat_input line

-- it is idle: its time is 0.00 and its heat blank
pub record Idles (line : List ℕ) : Type 0 where
  pub time : Reads operating_time line 0
  pub heat : BlankIn heat_input line
