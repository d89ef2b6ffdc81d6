-- The table of the line checks: the clauses that a line must meet, in the order in which they are tried, each with its number. No test of the
-- check is called here: ClauseLaws.antt proves that a line without fault meets them all, and that a fault is the first that it does not meet.
use Rattle.std.specs.Prelude.{ℕ, suc, ◌%◌, ◌≤◌, ◌≡◌, ◌↔◌, ◌⊎◌, List, [], ◌∷◌, ◌++◌, Bool, ◌&&◌, ◌||◌, eqb, leb, length, take}
use Rattle.exact.specs.Logic.{All}
use Rattle.exact.specs.Clauses.{Clause, clause, when}
use Rattle.columns.specs.Columns.{columns}
use Rattle.columns.specs.Format.{Blanks, DigitsOnly}
use Rattle.layout.specs.declared.RecordType.{RecordType}
use Rattle.layout.specs.declared.RecordType.TheVariants.{Facility, So2Concentration, Operation, So2Mass}
use Rattle.layout.specs.declared.values.Value.{Value}
use Rattle.lines.specs.RightLine.{ranged, so2_reading, operating_time, heat_input, paper_row, Reads, BlankIn, RightDate}
use Rattle.calendar.specs.Calendar.{Period}

-- type, length and bytes
abbrev pub shape_clauses : RecordType → List ℕ → List Clause
shape_clauses t line =
    clause 2 (take 3 line ≡ (paper_row t).type)
    ∷ clause 3 (length line ≡ (paper_row t).long)
    ∷ clause 4 (All (λ (b : ℕ). (32 ≤ b) × (b ≤ 126)) line)
    ∷ []

-- line 100
abbrev pub facility_clauses : List ℕ → List Clause
facility_clauses line =
    shape_clauses Facility line
    ++ (clause 5 (Blanks (columns 4 6 line) → ⊥)
    ∷ clause 6 ((y : ℕ) × DigitsOnly (columns 10 4 line) y × (1995 ≤ y) × (y ≤ 2094))
    ∷ clause 6 ((q : ℕ) × DigitsOnly (columns 14 1 line) q × (1 ≤ q) × (q ≤ 4))
    ∷ [])

-- every other line, by line 100
abbrev pub headed_clauses : List ℕ → RecordType → List ℕ → List Clause
headed_clauses facility t line = shape_clauses t line ++ (clause 5 (columns 4 6 line ≡ columns 4 6 facility) ∷ [])

-- a value: its format, its range, and whole thousands where it is a flow
abbrev pub value_clauses : Value → List ℕ → List Clause
value_clauses v line =
    clause 8 ((k : ℕ) × Reads v line k)
    ∷ clause 9 ((k : ℕ) → Reads v line k → (v.least ≤ k) × (k ≤ v.most))
    ∷ clause 43 ((k : ℕ) → Reads v line k → k % v.step ≡ 0)
    ∷ []

abbrev pub values_clauses : List Value → List ℕ → List Clause
values_clauses [] line = []
values_clauses (v ∷ vs) line = value_clauses v line ++ values_clauses vs line

-- a date of the quarter, of an hour from `from` on
abbrev pub Dates : Period → (from : ℕ) → List ℕ → Type 0
Dates p from bs = (hour : ℕ) × (from ≤ hour) × RightDate p bs hour

-- a 200 line
abbrev pub hour_clauses : List ℕ → Period → (from : ℕ) → List ℕ → List Clause
hour_clauses facility p from line =
    headed_clauses facility So2Concentration line
    ++ (clause 6 (Dates p from (columns 16 8 line))
    ∷ clause 8 (BlankIn so2_reading line ⊎ ((k : ℕ) × Reads so2_reading line k))
    ∷ clause 9 ((k : ℕ) → Reads so2_reading line k → k ≤ 99_999)
    ∷ [])

-- a line of another type, by the 200 line of its rank
abbrev pub due_clauses : List ℕ → RecordType → (hour line : List ℕ) → List Clause
due_clauses facility t hour line =
    headed_clauses facility t line
    ++ (clause 7 (1 ≤ (paper_row t).date → columns (paper_row t).date 8 line ≡ columns 16 8 hour)
    ∷ clause 49 (t ≡ So2Mass → (columns 32 3 line ≡ 71 ∷ 65 ∷ 83 ∷ []) ↔ BlankIn so2_reading hour)
    ∷ values_clauses (paper_row t).values line)

-- a 300 line: where its time is positive it operates, and has the date of the operating hour that is due; where it is 0.00 it is idle

abbrev pub any_time : Value
any_time = ranged 18 4 2 0 100

abbrev pub Positive : List ℕ → Type 0
Positive line = (k : ℕ) × Reads operating_time line (suc k)

abbrev pub listed_clauses : List ℕ → Period → (from : ℕ) → (date line : List ℕ) → List Clause
listed_clauses facility p from date line =
    headed_clauses facility Operation line
    ++ (clause 6 (Dates p from (columns 10 8 line)) ∷ [])
    ++ (value_clauses any_time line
    ++ (when (Positive line) (clause 7 (columns 10 8 line ≡ date) ∷ value_clauses heat_input line)
    ++ when (Reads operating_time line 0) (clause 47 (BlankIn heat_input line) ∷ [])))

-- the numbers of the line checks: 1 to 10, of which 1 is of the whole file and 10 of a line that is missing, 43, 47 and 49
abbrev pub of_line_checks : ℕ → Bool
of_line_checks number = (leb 1 number && leb number 10) || eqb number 43 || eqb number 47 || eqb number 49
