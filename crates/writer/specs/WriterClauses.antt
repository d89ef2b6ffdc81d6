-- The table of the writer's refusals, 31 to 34: the clauses that a sheet and a buffer must meet, in the order in which they are tried, each
-- over the whole sheet and with its number. No test of the writer is called here: WriterClauseLaws.antt proves that its refusal is the
-- number of the first that is not met.
use Rattle.std.specs.Prelude.{ℕ, ◌+◌, ◌*◌, ◌/◌, ◌≤◌, List, [], ◌∷◌, ◌++◌, length}
use Rattle.exact.specs.Clauses.{Clause, clause}
use Rattle.exact.specs.Fraction.{Fraction}
use Rattle.exact.specs.Rounding.{Records}
use Rattle.formulas.specs.Hour.{unit_of, set_of, as_recorded}
use Rattle.formulas.specs.Formulas.{entry_of, exact_value}
use Rattle.formulas.specs.declared.hour.Readings.{Readings}
use Rattle.formulas.specs.declared.hour.Quantity.{Quantity}
use Rattle.formulas.specs.declared.hour.Quantity.TheVariants.{Heat, So2, Nox, Co2}
use Rattle.sheet.specs.SheetClauses.{value_at, EachHour, shape_clauses, value_clauses}

-- the readings of hour k, as they are recorded: tenths, and thousands of scfh
abbrev pub readings_at : List ℕ → (k : ℕ) → Readings
readings_at sheet k = record {
  so2 = value_at sheet k 1;
  nox = value_at sheet k 2;
  co2 = value_at sheet k 3;
  flow = value_at sheet k 4;
  fc = value_at sheet k 5;
}

-- the formula of the recorded readings, unrounded
abbrev pub formula_at : List ℕ → (k : ℕ) → Quantity → Fraction
formula_at sheet k q = let r = readings_at sheet k in exact_value q r (entry_of q (set_of (as_recorded r)))

-- the greatest figure of a column: seven columns with one decimal, or six with three
abbrev pub most_figure : Quantity → ℕ
most_figure Heat = 999_999
most_figure So2 = 999_999
most_figure Nox = 99_999
most_figure Co2 = 999_999

-- no figure of hour k, rounded, is too large for its column
abbrev pub FiguresFitAt : List ℕ → (k : ℕ) → Type 0
FiguresFitAt sheet k = (q : Quantity) (figure : ℕ) → Records (unit_of q) (formula_at sheet k q) figure → figure ≤ most_figure q

abbrev pub writer_clauses : (year quarter : ℕ) (name sheet : List ℕ) (room : ℕ) → List Clause
writer_clauses year quarter name sheet room =
    shape_clauses year quarter name sheet
    ++ (value_clauses sheet
    ++ (clause 33 (EachHour sheet (FiguresFitAt sheet))
    ∷ clause 34 (75 + 318 * (length sheet / 6) ≤ room)
    ∷ []))
