-- The table of what a sheet must be, 31 and then 32: the clauses in the order in which they are tried, each with its number. No test of a
-- sheet is called here: SheetClauseLaws.antt proves that a sheet that passes them meets the clauses, and one that does not fails the first.
use Rattle.std.specs.Prelude.{ℕ, ◌+◌, ◌*◌, ◌-◌, ◌/◌, ◌%◌, ◌≤◌, ◌<◌, ◌^◌, ◌≡◌, List, [], ◌∷◌, ◌++◌, length, get_or}
use Rattle.exact.specs.Logic.{All}
use Rattle.exact.specs.Clauses.{Clause, clause}
use Rattle.columns.specs.Format.{Blanks}
use Rattle.calendar.specs.Calendar.{hours_in_quarter}

-- word j of hour k, both from 0: its kind in the top three of 32 bits, its value in the other 29

abbrev pub kind_at : List ℕ → (k j : ℕ) → ℕ
kind_at sheet k j = get_or sheet (6 * k + j) 0 / 2 ^ 29

abbrev pub value_at : List ℕ → (k j : ℕ) → ℕ
value_at sheet k j = get_or sheet (6 * k + j) 0 % 2 ^ 29

-- hour k of the sheet: its hour of the quarter, and its time in hundredths

abbrev pub hour_at : List ℕ → (k : ℕ) → ℕ
hour_at sheet k = value_at sheet k 0 / 128

abbrev pub time_at : List ℕ → (k : ℕ) → ℕ
time_at sheet k = value_at sheet k 0 % 128

-- of every hour, which is one whose six words stand in the sheet
abbrev pub EachHour : List ℕ → (ℕ → Type 0) → Type 0
EachHour sheet P = (k : ℕ) → 6 * k + 6 ≤ length sheet → P k

abbrev pub heading_clauses : (year quarter : ℕ) (name : List ℕ) → List Clause
heading_clauses year quarter name =
    clause 31 ((1995 ≤ year) × (year ≤ 2094))
    ∷ clause 31 ((1 ≤ quarter) × (quarter ≤ 4))
    ∷ clause 31 (Blanks name → ⊥)
    ∷ clause 31 (All (λ (b : ℕ). (32 ≤ b) × (b ≤ 126)) name)
    ∷ []

-- six words to an hour, of the kinds 0 to 5; the hour exists in the quarter, and is later than the one before
abbrev pub shape_clauses : (year quarter : ℕ) (name sheet : List ℕ) → List Clause
shape_clauses year quarter name sheet =
    heading_clauses year quarter name
    ++ (clause 31 ((n : ℕ) × (length sheet ≡ 6 * n))
    ∷ clause 31 (EachHour sheet (λ k. (j : ℕ) → j < 6 → kind_at sheet k j ≡ j))
    ∷ clause 31 (EachHour sheet (λ k. hour_at sheet k < hours_in_quarter year quarter))
    ∷ clause 31 (EachHour sheet (λ k. 1 ≤ k → hour_at sheet (k - 1) < hour_at sheet k))
    ∷ [])

-- hundredths of an hour; tenths of ppm, ppm and percent; thousands of scfh; tenths of scf/mmBtu
pub record ValuesInRange (sheet : List ℕ) (k : ℕ) : Type 0 where
  pub time : (1 ≤ time_at sheet k) × (time_at sheet k ≤ 100)
  pub so2 : value_at sheet k 1 ≤ 99_999
  pub nox : value_at sheet k 2 ≤ 99_999
  pub co2 : (1 ≤ value_at sheet k 3) × (value_at sheet k 3 ≤ 1000)
  pub flow : value_at sheet k 4 ≤ 9_999_999
  pub fc : (5000 ≤ value_at sheet k 5) × (value_at sheet k 5 ≤ 30_000)

abbrev pub value_clauses : List ℕ → List Clause
value_clauses sheet = clause 32 (EachHour sheet (ValuesInRange sheet)) ∷ []
