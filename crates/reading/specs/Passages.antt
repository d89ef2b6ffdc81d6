-- How the walk passes a part of a file: on to the next line, from which what follows is read, or to a refusal.
use Rattle.std.specs.Prelude.{ℕ, Result, ◌+◌, ◌≤◌, ◌≡◌, cond, List, ltb, length, take, drop, Ok, Err}
use Rattle.calendar.specs.Calendar.{most_hours}
use Rattle.layout.specs.Layout.{order}
use Rattle.lines.specs.Lines.{lines}
use Rattle.calendar.specs.Calendar.{Period}
use Rattle.reading.specs.Reading.{runs_of, After, walk_due, walk_operations}
use Rattle.reading.specs.Places.{facility_of, hour_lines_in}
use Rattle.reading.specs.declared.walk.Cursor.{Cursor}
use Rattle.reading.specs.Reading.{Reading}
use Rattle.refusals.specs.declared.PaperRefusal.{PaperRefusal}

-- the next line, or the refusal
abbrev pub Passage : Type 0
Passage = Result Cursor PaperRefusal

abbrev pub on_at : ℕ → ℕ → Passage
on_at line at = Ok (record { line = line; at = at })

abbrev pub halted_at : ℕ → ℕ → Passage
halted_at number line = Err (record { number = number; line = line })

-- behind the last 300 line, with k of n operating hours read
unfoldable pub end_passage : (n k number line at : ℕ) → Passage
end_passage n k number line at = cond (ltb k n) (halted_at number line) (on_at line at)

-- the next line starts within the file or behind its end, and every line before it has a byte at least
pub record Here (file : List ℕ) (c : Cursor) : Type 0 where
  pub room : c.at ≤ length file + 1
  pub most : c.line ≤ c.at

-- what is read where a passage has led
abbrev pub led : List ℕ → Passage → After → Reading
led file (Ok c) after = after c.line (lines (drop c.at file))
led file (Err r) after = Err r

abbrev pub HereOn : List ℕ → Passage → Type 0
HereOn file (Ok c) = Here file c
HereOn file (Err r) = Unit {0}

-- the lines of the types from one place of the order to another
pub record PassesRuns (file : List ℕ) (n first end : ℕ) (start : Cursor) (r : Passage) : Type 0 where
  pub reads : (after : After) →
      led file r after
      ≡ walk_due (facility_of file) start.line (runs_of (drop first (take end order)) (hour_lines_in file n)) (lines (drop start.at file)) after
  pub here : HereOn file r

-- of the 300 lines there are no more than hours of a quarter
abbrev pub FewOn : Cursor → Passage → Type 0
FewOn start (Ok c) = (start.line ≤ c.line) × (c.line ≤ start.line + most_hours)
FewOn start (Err r) = Unit {0}

pub record PassesOperations (file : List ℕ) (period : Period) (n : ℕ) (start : Cursor) (r : Passage) : Type 0 where
  pub reads : (after : After) →
      led file r after ≡ walk_operations (facility_of file) period start.line 0 (hour_lines_in file n) (lines (drop start.at file)) after
  pub here : HereOn file r
  pub few : FewOn start r
