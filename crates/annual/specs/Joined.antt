-- What joining a quarter's answer to a year's record gives. It computes.
use Rattle.std.specs.Prelude.{ℕ, ◌+◌, ◌*◌, List, [], ◌∷◌, Bool, true, false, ◌&&◌, ◌||◌, not, eqb, leb, Result, Ok, Err}
use Rattle.calendar.specs.Calendar.{most_hours}
use Rattle.layout.specs.Values.{within, quarter_digit}
use Rattle.totals.specs.declared.Quarter.{Quarter}
use Rattle.annual.specs.declared.YearToDate.{YearToDate}

-- a joining as the paper has it: the record, or the number of the refusal
abbrev pub Joined : Type 0
Joined = Result YearToDate ℕ

-- what a joining says: the seven numbers of the record, or that of the refusal
abbrev pub year_numbers : Joined → List ℕ
year_numbers (Ok y) = y.year ∷ y.quarter ∷ y.hours ∷ y.so2 ∷ y.co2 ∷ y.heat ∷ y.nox_tons ∷ []
year_numbers (Err number) = number ∷ []

-- a record with neither hours nor amounts
unfoldable pub all_zeros : YearToDate → Bool
all_zeros y = eqb y.hours 0 && eqb y.so2 0 && eqb y.co2 0 && eqb y.heat 0 && eqb y.nox_tons 0

-- 41: the quarter is one of the four, and the record is that of the quarter just before it in the same year; a quarter 0 is all zeros;
-- neither side has more than 2,208 hours a quarter
unfoldable pub follows : YearToDate → ℕ → ℕ → Quarter → Bool
follows previous year quarter answer =
    within quarter_digit quarter && eqb (previous.quarter + 1) quarter && eqb previous.year year
    && (not (eqb previous.quarter 0) || all_zeros previous)
    && leb answer.hours most_hours && leb previous.hours (most_hours * previous.quarter)

-- 42: no sum may be more, in tenths
abbrev pub year_limit : ℕ
year_limit = 9_999_999_999

unfoldable pub sums_fit : YearToDate → Quarter → Bool
sums_fit previous answer =
    leb (previous.so2 + answer.so2) year_limit && leb (previous.co2 + answer.co2) year_limit && leb (previous.heat + answer.heat) year_limit
    && leb (previous.nox_tons + answer.nox_tons) year_limit

-- the record with the quarter added; the mean is not carried
abbrev pub with_quarter : YearToDate → ℕ → ℕ → Quarter → YearToDate
with_quarter previous year quarter answer = record {
  year = year;
  quarter = quarter;
  hours = previous.hours + answer.hours;
  so2 = previous.so2 + answer.so2;
  co2 = previous.co2 + answer.co2;
  heat = previous.heat + answer.heat;
  nox_tons = previous.nox_tons + answer.nox_tons;
}

unfoldable pub joined_of : YearToDate → ℕ → ℕ → Quarter → Joined
joined_of previous year quarter answer =
    elim (follows previous year quarter answer) [
      | false ↦ Err 41
      | true ↦ elim (sums_fit previous answer) [ false ↦ Err 42 | true ↦ Ok (with_quarter previous year quarter answer) ]
    ]
