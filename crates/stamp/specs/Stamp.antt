-- A date and hour as a record has it: the eight digits YYMMDDHH, YY being the year's last two.
use Rattle.std.specs.Prelude.{ℕ, ◌+◌, ◌*◌, ◌/◌, ◌%◌, cond, List, ◌==◌, None}
use Rattle.columns.specs.Number.{digits_only}
use Rattle.columns.specs.Written.{digits_of}
use Rattle.columns.specs.declared.Field.{Field}
use Rattle.columns.specs.declared.Field.TheVariants.{Blank, Malformed, Number}
use Rattle.layout.specs.Layout.{date_width}
use Rattle.calendar.specs.Calendar.{quarter_hour, date_of_hour}
use Rattle.calendar.specs.declared.Date.{Date}
use Rattle.calendar.specs.Calendar.{QuarterHour}

abbrev pub number_date : ℕ → Date
number_date v = record { month = v / 10_000 % 100; day = v / 100 % 100; hour = v % 100 }

-- the hour of the quarter that a number of eight digits names
unfoldable pub number_hour : ℕ → ℕ → ℕ → QuarterHour
number_hour year quarter v = cond (v / 1_000_000 == year % 100) (quarter_hour year quarter (number_date v)) None

unfoldable pub field_hour : ℕ → ℕ → Field → QuarterHour
field_hour year quarter Blank = None
field_hour year quarter Malformed = None
field_hour year quarter (Number v) = number_hour year quarter v

-- the hour of the quarter that eight columns name; outside where they are no digits or no hour of it
unfoldable pub stamp_hour : ℕ → ℕ → List ℕ → QuarterHour
stamp_hour year quarter bs = field_hour year quarter (digits_only bs)

abbrev pub date_number : ℕ → Date → ℕ
date_number year date = 1_000_000 * (year % 100) + 10_000 * date.month + 100 * date.day + date.hour

unfoldable pub stamp_number : ℕ → ℕ → ℕ → ℕ
stamp_number year quarter hour = date_number year (date_of_hour year quarter hour)

-- the eight columns of an hour of the quarter
unfoldable pub stamp_of : ℕ → ℕ → ℕ → List ℕ
stamp_of year quarter hour = digits_of date_width (stamp_number year quarter hour)
