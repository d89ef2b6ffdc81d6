-- A report, byte by byte; the writer's answer to a sheet, and the lent buffer afterwards.
use Rattle.std.specs.Prelude.{ℕ, zero, suc, cond, List, [], ◌∷◌, ◌++◌, map, eqb, length, drop, Result, Ok, Err}
use Rattle.layout.specs.Layout.{once_or_dated, record_of, code_of, order, shape, report_length, joined_runs}
use Rattle.stamp.specs.Stamp.{stamp_of}
use Rattle.totals.specs.Totals.{quarter_totals}
use Rattle.layout.specs.declared.RecordType.{RecordType}
use Rattle.layout.specs.declared.RecordType.TheVariants.{Facility}
use Rattle.sheet.specs.Sheet.{SheetForm, present_form, shape_of, sheet_hours_in}
use Rattle.records.specs.Records.{ended, facility_record, dated_record, totals_record}
use Rattle.writer.specs.Recorded.{ReportHour, recorded_hours, report_hours}
use Rattle.writer.specs.Refusals.{refusal_in}

unfoldable pub hour_record : ℕ → ℕ → List ℕ → RecordType → ReportHour → List ℕ
hour_record year quarter name t h = dated_record name t (stamp_of year quarter h.hour) h.recorded

-- the record of a type that a report has once: that of line 100 or that of line 301
abbrev pub once_record : ℕ → ℕ → List ℕ → List ReportHour → RecordType → List ℕ
once_record year quarter name hours t =
    cond (eqb (code_of t) (code_of Facility)) (facility_record year quarter name) (totals_record name (quarter_totals (recorded_hours hours)))

-- the records of a type in a report: the one, or those of the operating hours; no other hour is listed
unfoldable pub written_records : ℕ → ℕ → List ℕ → List ReportHour → RecordType → List (List ℕ)
written_records year quarter name hours t =
    once_or_dated (record_of t).run (once_record year quarter name hours t ∷ []) (map (hour_record year quarter name t) hours)

-- records as lines, one after the other
unfoldable pub lined : List (List ℕ) → List ℕ
lined [] = []
lined (r ∷ rs) = ended r ++ lined rs

-- the lines of each type, in the order of a report
unfoldable pub report : ℕ → ℕ → List ℕ → List ReportHour → List ℕ
report year quarter name hours = joined_runs (λ t. lined (written_records year quarter name hours t)) order

-- an answer as the paper has it: the length written, or the number of the refusal
abbrev pub Written : Type 0
Written = Result ℕ ℕ

-- what an answer says, as the paper has it: the length written, or the refusal's number alone
abbrev pub written_number : Written → ℕ
written_number (Ok n) = n
written_number (Err number) = number

-- the shortest report, which has no operating hour, is longer than a refusal's number is great: so the number tells the two apart
abbrev pub shortest_report : ℕ
shortest_report = report_length (shape 0)

-- to a sheet and a buffer of so many bytes
unfoldable pub answered_in : SheetForm → ℕ → ℕ → List ℕ → List ℕ → ℕ → Written
answered_in f year quarter name sheet room =
    elim (refusal_in f year quarter name sheet room) [ zero ↦ Ok (report_length (shape_of sheet)) | suc c ↦ Err (suc c) ]

abbrev pub answered : ℕ → ℕ → List ℕ → List ℕ → ℕ → Written
answered = answered_in present_form

-- bytes beyond the report keep their values, and a refusal changes no byte
unfoldable pub buffered_in : SheetForm → ℕ → ℕ → List ℕ → List ℕ → List ℕ → List ℕ
buffered_in f year quarter name sheet buffer =
    elim (refusal_in f year quarter name sheet (length buffer)) [
      | zero ↦ report year quarter name (report_hours (sheet_hours_in f sheet)) ++ drop (report_length (shape_of sheet)) buffer
      | suc c ↦ buffer
    ]

abbrev pub buffered : ℕ → ℕ → List ℕ → List ℕ → List ℕ → List ℕ
buffered = buffered_in present_form
