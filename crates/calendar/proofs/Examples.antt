-- Known dates, computed by the definitions.
use Rattle.std.specs.Prelude.{Some, None}
use Prim.Native.Nat.{ℕ, zero, suc, ◌+◌, ◌%◌}
use mathlib.Core.Bool.{true, false}
use mathlib.Core.List.{List, [], ◌∷◌, map}
use mathlib.Core.Path.{◌≡◌, refl}
use lib.Dec.{eqb}
use Rattle.calendar.specs.declared.Date.{Date}
use Rattle.calendar.specs.Calendar.{leap_year, days_in_month, days_in_quarter, hours_in_quarter, in_quarter}
use Rattle.calendar.specs.Calendar.{days_before, hour_of_quarter, month_of_day, date_of_hour, quarter_hour}

years : (leap_year 1900 ∷ leap_year 1996 ∷ leap_year 1999 ∷ leap_year 2000 ∷ leap_year 2100 ∷ []) ≡ (false ∷ true ∷ false ∷ true ∷ false ∷ [])
unfolding leap_year
years = refl

-- of the years that a report may be of, every fourth is one
abbrev years_from : (year left : ℕ) → List ℕ
years_from year zero = []
years_from year (suc left) = year ∷ years_from (year + 1) left

reported : map leap_year (years_from 1995 100) ≡ map (λ year. eqb (year % 4) 0) (years_from 1995 100)
unfolding leap_year
reported = refl

-- the days of the twelve months, of a year and of a leap year
abbrev twelve : List ℕ
twelve = 1 ∷ 2 ∷ 3 ∷ 4 ∷ 5 ∷ 6 ∷ 7 ∷ 8 ∷ 9 ∷ 10 ∷ 11 ∷ 12 ∷ []

months :
    (map (days_in_month 2001) twelve ≡ 31 ∷ 28 ∷ 31 ∷ 30 ∷ 31 ∷ 30 ∷ 31 ∷ 31 ∷ 30 ∷ 31 ∷ 30 ∷ 31 ∷ [])
    × (map (days_in_month 2004) twelve ≡ 31 ∷ 29 ∷ 31 ∷ 30 ∷ 31 ∷ 30 ∷ 31 ∷ 31 ∷ 30 ∷ 31 ∷ 30 ∷ 31 ∷ [])
unfolding days_in_month leap_year
months = (refl, refl)

hours :
    (hours_in_quarter 2001 1 ∷ hours_in_quarter 2000 1 ∷ hours_in_quarter 2001 2 ∷ hours_in_quarter 2001 3 ∷ hours_in_quarter 2001 4 ∷ []) ≡
    (2160 ∷ 2184 ∷ 2184 ∷ 2208 ∷ 2208 ∷ [])
unfolding hours_in_quarter days_in_quarter days_in_month leap_year
hours = refl

on : ℕ → ℕ → ℕ → Date
on month day hour = record { month = month; day = day; hour = hour }

-- the end of February, both ends of the third quarter, and what lies just outside it
dates :
    (quarter_hour 2000 1 (on 2 29 0) ∷ quarter_hour 2000 1 (on 3 1 0) ∷ quarter_hour 2001 1 (on 2 29 0) ∷ quarter_hour 2001 1 (on 3 1 0) ∷
    quarter_hour 2001 3 (on 7 1 0) ∷ quarter_hour 2001 3 (on 8 31 23) ∷ quarter_hour 2001 3 (on 9 30 23) ∷ quarter_hour 2001 3 (on 9 31 0) ∷
    quarter_hour 2001 3 (on 9 30 24) ∷ quarter_hour 2001 3 (on 10 1 0) ∷ quarter_hour 2001 3 (on 7 0 0) ∷ []) ≡
    (Some 1416 ∷ Some 1440 ∷ None ∷ Some 1416 ∷
    Some 0 ∷ Some 1487 ∷ Some 2207 ∷ None ∷
    None ∷ None ∷ None ∷ [])
unfolding quarter_hour in_quarter hour_of_quarter days_before days_in_month leap_year on
dates = refl

-- both ends of the months of the second and the fourth quarter
ends :
    (quarter_hour 2001 2 (on 4 1 0) ∷ quarter_hour 2001 2 (on 4 30 23) ∷ quarter_hour 2001 2 (on 4 31 0) ∷ quarter_hour 2001 2 (on 5 31 23) ∷
    quarter_hour 2001 2 (on 6 30 23) ∷ quarter_hour 2001 2 (on 6 31 0) ∷ quarter_hour 2001 4 (on 10 1 0) ∷ quarter_hour 2001 4 (on 10 31 23) ∷
    quarter_hour 2001 4 (on 11 30 23) ∷ quarter_hour 2001 4 (on 11 31 0) ∷ quarter_hour 2001 4 (on 12 31 23) ∷ []) ≡
    (Some 0 ∷ Some 719 ∷ None ∷ Some 1463 ∷
    Some 2183 ∷ None ∷ Some 0 ∷ Some 743 ∷
    Some 1463 ∷ None ∷ Some 2207 ∷ [])
unfolding quarter_hour in_quarter hour_of_quarter days_before days_in_month leap_year on
ends = refl

back :
    (date_of_hour 2000 1 1416 ∷ date_of_hour 2001 1 1416 ∷ date_of_hour 2001 3 1487 ∷ date_of_hour 2001 3 2207 ∷ []) ≡
    (on 2 29 0 ∷ on 3 1 0 ∷ on 8 31 23 ∷ on 9 30 23 ∷ [])
unfolding date_of_hour month_of_day days_before days_in_month leap_year on
back = refl
