-- Gregorian dates and the hours of a quarter of a year. Every definition computes. Months, days and quarters count from 1,
-- hours of a day and hours of a quarter from 0.
use Rattle.std.specs.Prelude.{ℕ, Option, ◌+◌, ◌*◌, ◌-◌, ◌/◌, ◌%◌, ◌≤◌, Bool, cond, ◌&&◌, ◌||◌, not, eqb, leb, ltb, Some, None}
use Rattle.calendar.specs.declared.Date.{Date}

unfoldable pub leap_year : ℕ → Bool
leap_year year = (eqb (year % 4) 0 && not (eqb (year % 100) 0)) || eqb (year % 400) 0

-- April, June, September and November
abbrev pub thirty_days : ℕ → Bool
thirty_days month = eqb month 4 || eqb month 6 || eqb month 9 || eqb month 11

unfoldable pub days_in_month : ℕ → ℕ → ℕ
days_in_month year month = cond (eqb month 2) (cond (leap_year year) 29 28) (cond (thirty_days month) 30 31)

pub record IsQuarter (quarter : ℕ) : Type 0 where
  pub least : 1 ≤ quarter
  pub most : quarter ≤ 4

-- a year, and the number of a quarter of it
pub record Period : Type 0 where
  pub year : ℕ
  pub quarter : ℕ

abbrev pub period_of : ℕ → ℕ → Period
period_of year quarter = record { year = year; quarter = quarter }

abbrev pub first_month : ℕ → ℕ
first_month quarter = 3 * (quarter - 1) + 1

unfoldable pub days_in_quarter : ℕ → ℕ → ℕ
days_in_quarter year quarter =
    days_in_month year (first_month quarter) + days_in_month year (first_month quarter + 1) + days_in_month year (first_month quarter + 2)

unfoldable pub hours_in_quarter : ℕ → ℕ → ℕ
hours_in_quarter year quarter = 24 * days_in_quarter year quarter

-- no quarter has more (CalendarLaws.antt)
abbrev pub most_hours : ℕ
most_hours = 2208

-- a real date and hour of the quarter
unfoldable pub in_quarter : ℕ → ℕ → Date → Bool
in_quarter year quarter date =
    leb (first_month quarter) date.month && leb date.month (first_month quarter + 2)
    && leb 1 date.day && leb date.day (days_in_month year date.month)
    && leb date.hour 23

pub record Between (low n high : ℕ) : Type 0 where
  pub least : low ≤ n
  pub most : n ≤ high

-- one of three months
abbrev pub InMonths : ℕ → ℕ → Type 0
InMonths first month = Between first month (first + 2)

-- the same as facts
pub record LiesIn (year quarter : ℕ) (date : Date) : Type 0 where
  pub months : InMonths (first_month quarter) date.month
  pub days : Between 1 date.day (days_in_month year date.month)
  pub hours : date.hour ≤ 23

-- the days of the quarter that starts with the month `first`, before the first day of a month of it
unfoldable pub days_before : ℕ → ℕ → ℕ → ℕ
days_before year first month =
    cond (ltb first month) (days_in_month year first) 0 + cond (ltb (first + 1) month) (days_in_month year (first + 1)) 0

-- the hour of the quarter at which a date of it lies
unfoldable pub hour_of_quarter : ℕ → ℕ → Date → ℕ
hour_of_quarter year quarter date = 24 * (days_before year (first_month quarter) date.month + (date.day - 1)) + date.hour

-- the month in which a day of the quarter lies, the quarter's first day being 0
unfoldable pub month_of_day : ℕ → ℕ → ℕ → ℕ
month_of_day year first day =
    cond (ltb day (days_before year first (first + 1))) first
    (cond (ltb day (days_before year first (first + 2))) (first + 1) (first + 2))

-- the date of an hour of the quarter
unfoldable pub date_of_hour : ℕ → ℕ → ℕ → Date
date_of_hour year quarter hour =
    let month = month_of_day year (first_month quarter) (hour / 24) in
    record { month = month; day = hour / 24 - days_before year (first_month quarter) month + 1; hour = hour % 24 }

-- the hour of the quarter, where a date lies in it
abbrev pub QuarterHour : Type 0
QuarterHour = Option ℕ

-- where a date lies in the quarter
unfoldable pub quarter_hour : ℕ → ℕ → Date → QuarterHour
quarter_hour year quarter date = cond (in_quarter year quarter date) (Some (hour_of_quarter year quarter date)) None

-- each part of a date has two digits at most
pub record TwoDigits (date : Date) : Type 0 where
  pub months : Between 1 date.month 12
  pub days : Between 1 date.day 31
  pub hours : date.hour ≤ 23
