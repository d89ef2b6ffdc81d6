-- Where the reading of a file finds what it has read before: the facility line, and the 200 lines so far. What the functions that
-- read lines may rely on stands here too.
use Rattle.std.specs.Prelude.{ℕ, zero, suc, ◌+◌, ◌-◌, ◌≤◌, ◌<◌, ◌≡◌, Bool, true, false, cond, List, [], ◌∷◌, ◌++◌, length, take, drop}
use Rattle.calendar.specs.Calendar.{most_hours}
use Rattle.layout.specs.Layout.{once_or_dated, record_of, length_of, count_of, line_of, offset_of, report_length, Held, shape}
use Rattle.layout.specs.declared.RecordType.{RecordType}
use Rattle.layout.specs.declared.RecordType.TheVariants.{Facility, So2Concentration, Operation}
use Rattle.layout.specs.declared.Shape.{Shape}
use Rattle.lines.specs.Lines.{lines}
use Rattle.lines.specs.LineFaults.{type_is, operates}
use Rattle.lines.specs.FaultLaws.{ValuesFormed}
use Rattle.reading.specs.Recorded.{Line, lines_with, records_of, record_at}

abbrev pub facility_of : List ℕ → List ℕ
facility_of file = take (length_of Facility) file

-- where the 200 line of rank r starts, in bytes
abbrev pub hour_start : ℕ → ℕ
hour_start r = offset_of (shape r) So2Concentration r

-- that line
abbrev pub hour_line_in : List ℕ → ℕ → List ℕ
hour_line_in file r = take (length_of So2Concentration) (drop (hour_start r) file)

-- of the first n
unfoldable pub hour_lines_in : List ℕ → ℕ → List (List ℕ)
hour_lines_in file zero = []
hour_lines_in file (suc n) = hour_lines_in file n ++ (hour_line_in file n ∷ [])

-- numbers that rise, from `from` on, and lie below a number
abbrev pub Rising : (below from : ℕ) → List ℕ → Type 0
Rising below from [] = Unit {0}
Rising below from (h ∷ hs) = (from ≤ h) × (h < below) × Rising below (suc h) hs

-- n 200 lines are read
pub record Counted (file : List ℕ) (n : ℕ) : Type 0 where
  pub most : n ≤ most_hours
  pub room : hour_start n ≤ length file + 1

-- the 200 line by which the line of rank k of a type is judged
unfoldable pub hour_due : List ℕ → RecordType → ℕ → List ℕ
hour_due file t k = once_or_dated (record_of t).run [] (hour_line_in file k)

-- so many lines of a type from this place of the file on
unfoldable pub lines_at : List ℕ → RecordType → (at : ℕ) → ℕ → List (List ℕ)
lines_at file t at zero = []
lines_at file t at (suc m) = take (length_of t) (drop at file) ∷ lines_at file t (at + (length_of t + 1)) m

-- lines that follow each other, the first of them with this number
unfoldable pub numbered : ℕ → List (List ℕ) → List Line
numbered number [] = []
numbered number (l ∷ ls) = record { number = number; text = l } ∷ numbered (suc number) ls

-- of numbered lines, those that pass a test
unfoldable pub having : (List ℕ → Bool) → List Line → List Line
having test [] = []
having test (l ∷ ls) = elim (test l.text) [ true ↦ l ∷ having test ls | false ↦ having test ls ]

-- the line at a place of a type's run, from 0
abbrev pub line_at : List ℕ → Shape → RecordType → ℕ → Line
line_at file s t p = record { number = line_of s t p; text = take (length_of t) (drop (offset_of s t p) file) }

-- the lines of a type stand where the layout has them, and none of their values is malformed; of the 300 lines as many operate as there are hours
pub record Standing (file : List ℕ) (s : Shape) : Type 0 where
  pub size : length file ≡ report_length s
  pub held : Held s
  pub lines : (t : RecordType) → lines_with (type_is t) 1 (lines file) ≡ numbered (line_of s t 0) (lines_at file t (offset_of s t 0) (count_of s t))
  pub formed : (t : RecordType) (p : ℕ) → p < count_of s t → ValuesFormed t (line_at file s t p).text
  pub operating : length (records_of file Operation) ≡ s.hours

-- the record of rank k stands at place p
pub record Stands (file : List ℕ) (s : Shape) (t : RecordType) (k p : ℕ) : Type 0 where
  pub inside : p < count_of s t
  pub there : record_at file t k ≡ line_at file s t p

-- the 300 lines from a place on that operate
unfoldable pub operating_from : List ℕ → Shape → ℕ → List Line
operating_from file s p = having operates (numbered (line_of s Operation p) (lines_at file Operation (offset_of s Operation p) (s.operations - p)))

-- the first place from p on, of so many, whose line operates; the place behind them where none does
unfoldable pub place_from : List ℕ → Shape → ℕ → ℕ → ℕ
place_from file s p zero = p
place_from file s p (suc left) = cond (operates (line_at file s Operation p).text) p (place_from file s (suc p) left)

abbrev pub operating_place : List ℕ → Shape → ℕ → ℕ
operating_place file s p = place_from file s p (s.operations - p)
