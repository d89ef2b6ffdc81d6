-- What the line checks answer to a file: the first fault with its line, or the report's year, quarter and counts.
use Rattle.std.specs.Prelude.{ℕ, Result, zero, suc, ◌+◌, ◌-◌, List, [], ◌∷◌, ◌++◌, map, true, false, eqb, length, drop, get_or, Ok, Err}
use Rattle.layout.specs.Layout.{once_or_dated, record_of, types_between, later, shape_with}
use Rattle.layout.specs.declared.RecordType.{RecordType}
use Rattle.layout.specs.declared.RecordType.TheVariants.{So2Concentration, Operation}
use Rattle.layout.specs.declared.Shape.{Shape}
use Rattle.lines.specs.Lines.{lines, last}
use Rattle.lines.specs.LineFaults.{type_is, facility_line, date_on, hour_line, Due, due_of, due_fault, operation_line}
use Rattle.calendar.specs.Calendar.{Period}
use Rattle.lines.specs.declared.operation.OperationLine.TheVariants.{Operating, Idle}
use Rattle.reading.specs.declared.Report.{Report}
use Rattle.refusals.specs.declared.PaperRefusal.{PaperRefusal}

-- what the report says of itself, or the refusal
abbrev pub Reading : Type 0
Reading = Result Report PaperRefusal

abbrev pub stopped_at : ℕ → ℕ → Reading
stopped_at number line = Err (record { number = number; line = line })

-- the types of the lines that follow the 200 lines: those in front of the 300 lines, and those behind them

abbrev pub first_types : List RecordType
first_types = types_between So2Concentration Operation

abbrev pub last_types : List RecordType
last_types = later Operation

-- the 200 lines by which the lines of a type are judged: that of each rank, or none for a line without date
abbrev pub hours_due : RecordType → List (List ℕ) → List (List ℕ)
hours_due t hours = once_or_dated (record_of t).run ([] ∷ []) hours

unfoldable pub run_of : RecordType → List (List ℕ) → List Due
run_of t hours = map (due_of t) (hours_due t hours)

unfoldable pub runs_of : List RecordType → List (List ℕ) → List Due
runs_of [] hours = []
runs_of (t ∷ ts) hours = run_of t hours ++ runs_of ts hours

-- what follows some lines: the number of the next, and the lines from it on
abbrev pub After : Type 0
After = ℕ → List (List ℕ) → Reading

-- the lines from `line` on against those that are due
unfoldable pub walk_due : List ℕ → ℕ → List Due → List (List ℕ) → After → Reading
walk_due facility line [] ls after = after line ls
walk_due facility line (d ∷ ds) [] after = stopped_at 10 line
walk_due facility line (d ∷ ds) (l ∷ ls) after =
    elim (due_fault facility d l) [ zero ↦ walk_due facility (line + 1) ds ls after | suc c ↦ stopped_at (suc c) line ]

-- what follows the last 300 line, of operating hours that are due by these 200 lines: none may be left
unfoldable pub end_operations : ℕ → ℕ → List (List ℕ) → List (List ℕ) → After → Reading
end_operations number line [] ls after = after line ls
end_operations number line (d ∷ ds) ls after = stopped_at number line

-- the date of the first operating hour that is due; none where none is left
abbrev pub next_date : List (List ℕ) → List ℕ
next_date hours = date_on So2Concentration (get_or hours 0 [])

-- the 300 lines: operating hours are due by these 200 lines, and idle ones may stand among them; the next hour is at least `from`
unfoldable pub walk_operations : List ℕ → Period → ℕ → ℕ → List (List ℕ) → List (List ℕ) → After → Reading
walk_operations facility period line from hours [] after = end_operations 10 line hours [] after
walk_operations facility period line from hours (l ∷ ls) after =
    elim (type_is Operation l) [
      | false ↦ end_operations 2 line hours (l ∷ ls) after
      | true ↦
          elim (operation_line facility period from (next_date hours) l) [
            | Ok (Operating hour) ↦ walk_operations facility period (line + 1) (hour + 1) (drop 1 hours) ls after
            | Ok (Idle hour) ↦ walk_operations facility period (line + 1) (hour + 1) hours ls after
            | Err number ↦ stopped_at number line
          ]
    ]

-- no line may be left
unfoldable pub walk_end : Report → After
walk_end report line [] = Ok report
walk_end report line (l ∷ ls) = stopped_at 2 line

-- after the last 300 line of a report of this shape
unfoldable pub walk_last : List ℕ → Period → Shape → ℕ → List (List ℕ) → List (List ℕ) → Reading
walk_last facility period s line hours ls = walk_due facility line (runs_of last_types hours) ls (walk_end (record { period = period; shape = s }))

-- after the last 220 line
unfoldable pub walk_listed : List ℕ → Period → ℕ → List (List ℕ) → List (List ℕ) → Reading
walk_listed facility period line hours ls =
    walk_operations facility period line 0 hours ls (λ next rest. walk_last facility period (shape_with (length hours) (next - line)) next hours rest)

-- after the last 200 line
unfoldable pub walk_later : List ℕ → Period → ℕ → List (List ℕ) → List (List ℕ) → Reading
walk_later facility period line hours ls =
    walk_due facility line (runs_of first_types hours) ls (λ next rest. walk_listed facility period next hours rest)

-- the lines from `line` on, after these 200 lines; the next hour of the quarter is at least `from`
unfoldable pub walk_hours : List ℕ → Period → ℕ → ℕ → List (List ℕ) → List (List ℕ) → Reading
walk_hours facility period line from hours [] = walk_later facility period line hours []
walk_hours facility period line from hours (l ∷ ls) =
    elim (type_is So2Concentration l) [
      | false ↦ walk_later facility period line hours (l ∷ ls)
      | true ↦
          elim (hour_line facility period from l) [
            | Ok hour ↦ walk_hours facility period (line + 1) (hour + 1) (hours ++ (l ∷ [])) ls
            | Err number ↦ stopped_at number line
          ]
    ]

unfoldable pub walk : List (List ℕ) → Reading
walk [] = stopped_at 10 1
walk (l ∷ ls) = elim (facility_line l) [ Ok period ↦ walk_hours l period 2 0 [] ls | Err number ↦ stopped_at number 1 ]

unfoldable pub read_of : List ℕ → Reading
read_of file = elim (eqb (last file) 10) [ true ↦ walk (lines file) | false ↦ stopped_at 1 0 ]
