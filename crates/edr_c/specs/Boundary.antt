-- What the functions of the boundary return and leave in a lent slice.
use Rattle.std.specs.Prelude.{ℕ, List, ◌++◌, Bool, true, false, ◌||◌, eqb, ltb, length, get_or, drop, Ok, Err}
use Rattle.layout.specs.Layout.{stack_width}
use Rattle.checker.specs.Checked.{answer_numbers, checked}
use Rattle.checker.specs.Checked.{Answer}
use Rattle.totals.specs.declared.Quarter.{Quarter}
use Rattle.annual.specs.Joined.{Joined, joined_of, year_numbers}
use Rattle.annual.specs.declared.YearToDate.{YearToDate}
use Rattle.writer.specs.Written.{written_number, answered, buffered}

abbrev pub answer_code : Answer → ℕ
answer_code (Ok r) = 1
answer_code (Err r) = 0

-- an answer's numbers, and behind them what was there
abbrev pub filled : List ℕ → List ℕ → List ℕ
filled numbers buffer = numbers ++ drop (length numbers) buffer

-- how many numbers an acceptance has
abbrev pub answer_length : ℕ
answer_length = 6

unfoldable pub check_code : List ℕ → List ℕ → ℕ
check_code file buffer = elim (ltb (length buffer) answer_length) [ true ↦ 2 | false ↦ answer_code (checked file) ]

unfoldable pub check_filled : List ℕ → List ℕ → List ℕ
check_filled file buffer = elim (ltb (length buffer) answer_length) [ true ↦ buffer | false ↦ filled (answer_numbers (checked file)) buffer ]

unfoldable pub write_code : ℕ → ℕ → List ℕ → List ℕ → List ℕ → ℕ
write_code year quarter name sheet buffer =
    elim (eqb (length name) stack_width) [ false ↦ 31 | true ↦ written_number (answered year quarter name sheet (length buffer)) ]

unfoldable pub write_filled : ℕ → ℕ → List ℕ → List ℕ → List ℕ → List ℕ
write_filled year quarter name sheet buffer = elim (eqb (length name) stack_width) [ false ↦ buffer | true ↦ buffered year quarter name sheet buffer ]

-- the year to date

-- how many numbers a year's record has
abbrev pub year_length : ℕ
year_length = 7

-- an accepted answer, and a year's record, from their numbers
abbrev pub quarter_in : List ℕ → Quarter
quarter_in l = record { hours = get_or l 0 0; so2 = get_or l 1 0; co2 = get_or l 2 0; heat = get_or l 3 0; nox = get_or l 4 0; nox_tons = get_or l 5 0 }

abbrev pub year_in : List ℕ → YearToDate
year_in l = record {
  year = get_or l 0 0;
  quarter = get_or l 1 0;
  hours = get_or l 2 0;
  so2 = get_or l 3 0;
  co2 = get_or l 4 0;
  heat = get_or l 5 0;
  nox_tons = get_or l 6 0;
}

abbrev pub joined_code : Joined → ℕ
joined_code (Ok y) = 1
joined_code (Err number) = 0

-- whether one of the lent slices is too short for any answer
abbrev pub too_short : (previous answer buffer : List ℕ) → Bool
too_short previous answer buffer = ltb (length previous) year_length || ltb (length answer) answer_length || ltb (length buffer) year_length

unfoldable pub year_code : List ℕ → List ℕ → ℕ → ℕ → List ℕ → ℕ
year_code previous answer year quarter buffer =
    elim (too_short previous answer buffer) [ true ↦ 2 | false ↦ joined_code (joined_of (year_in previous) year quarter (quarter_in answer)) ]

unfoldable pub year_filled : List ℕ → List ℕ → ℕ → ℕ → List ℕ → List ℕ
year_filled previous answer year quarter buffer =
    elim (too_short previous answer buffer) [
      | true ↦ buffer
      | false ↦ filled (year_numbers (joined_of (year_in previous) year quarter (quarter_in answer))) buffer
    ]
