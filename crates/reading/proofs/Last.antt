-- The lines behind the 300 lines: where they have led, the report ends.
use Rattle.std.specs.Prelude.{Ok, Err}
use Prim.Native.Nat.{ℕ, ◌≤◌, ◌<◌}
use mathlib.Core.Path.{◌≡◌, sym, ◌∙◌}
use mathlib.Core.List.{List}
use lib.ListN.{length, drop}
use Rattle.layout.specs.declared.Shape.{Shape}
use Rattle.lines.specs.Lines.{lines}
use Rattle.calendar.specs.Calendar.{Period}
use Rattle.reading.specs.Reading.{stopped_at, runs_of, last_types, walk_due, walk_end, walk_last}
use Rattle.reading.specs.Places.{facility_of, hour_lines_in}
use Rattle.reading.specs.Passages.{PassesRuns, led}
use Rattle.refusals.specs.declared.PaperRefusal.{PaperRefusal}
use Rattle.reading.specs.declared.Report.{Report}
use Rattle.reading.specs.Reading.{Reading}
use Rattle.reading.specs.declared.walk.Cursor.{Cursor}
use Rattle.reading.specs.Passages.{Passage}
use Rattle.reading.proofs.Walking.{leads, end_over, end_done}

module _ (file : List ℕ) (period : Period) (s : Shape) (line at : ℕ) where
  abbrev pub read_last : Reading
  read_last = walk_last (facility_of file) period s line (hour_lines_in file s.hours) (lines (drop at file))

  abbrev report : Report
  report = record { period = period; shape = s }

  module _ (r : Passage) (p : PassesRuns file s.hours 6 10 (record { line = line; at = at }) r) where
    last_led : (x : Passage) → r ≡ x → led file x (walk_end report) ≡ read_last
    unfolding walk_last
    last_led x e =
        leads file
        (λ after. walk_due (facility_of file) line (runs_of last_types (hour_lines_in file s.hours)) (lines (drop at file)) after)
        p.reads e (walk_end report)

    pub last_stopped : (refusal : PaperRefusal) → r ≡ Err refusal → read_last ≡ Err refusal
    last_stopped refusal e = sym (last_led _ e)

    module _ (end : Cursor) (e : r ≡ Ok end) where
      pub last_over : end.at < length file → read_last ≡ stopped_at 2 end.line
      last_over h = sym (last_led _ e) ∙ end_over report end.line file end.at h

      pub last_done : length file ≤ end.at → read_last ≡ Ok report
      last_done h = sym (last_led _ e) ∙ end_done report end.line file end.at h
