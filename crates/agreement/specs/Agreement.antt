-- A report whose figures have unrounded readings behind them is honestly rounded from these, and accepted. So a sheet that the writer does
-- not refuse gives a report that the check accepts, with the sheet's hours.
use Prim.Native.Nat.{ℕ, zero, suc, ◌≤◌}
use Rattle.std.proofs.Math.Path.{◌≡◌, refl}
use Rattle.std.proofs.Common.{sym, ap, subst, ◌∙◌, arith, take_at}
use Rattle.std.specs.Prelude.{List, [], ◌∷◌, map, take, drop, Ok, Err}
use Rattle.std.proofs.Math.ListN.{length}
use Rattle.columns.specs.Columns.{columns}
use Rattle.layout.specs.Layout.{stack_width, report_length}
use Rattle.layout.specs.declared.RecordType.TheVariants.{So2Concentration}
use Rattle.stamp.specs.Stamp.{stamp_of}
use Rattle.formulas.specs.Hour.{Unrounded, set_of, as_recorded}
use Rattle.formulas.proofs.FormulaLaws.{written_behind}
use Rattle.formulas.specs.declared.hour.Hour.{Hour}
use Rattle.totals.specs.Totals.{quarter_totals}
use Rattle.totals.proofs.TotalLaws.{quarter_hours}
use Rattle.lines.specs.Lines.{lines}
use Rattle.reading.specs.Idle.{without_idle}
use Rattle.reading.specs.Recorded.{Line, records_of, hour_count, hours_of}
use Rattle.judging.specs.Judged.{acceptance}
use Rattle.judging.specs.Behind.{SetsBehind}
use Rattle.checker.specs.Checked.{answer_numbers, checked}
use Rattle.checker.specs.Promise.{HonestlyRounded}
use Rattle.checker.proofs.PromiseLaws.{hours_count, honest_checked}
use Rattle.sheet.specs.Sheet.{recorded_readings, sheet_hour_count, shape_of, sheet_hours}
use Rattle.sheet.specs.declared.SheetHour.{SheetHour}
use Rattle.writer.specs.Recorded.{ReportHour, recorded_hour, recorded_hours, report_hours}
use Rattle.writer.specs.Refusals.{refusal_of}
use Rattle.writer.specs.Written.{Written, written_number, shortest_report, report, answered, buffered, answered_in, buffered_in}
use Rattle.writer.proofs.TableLaws.{not_refused, number_tells}
use Rattle.writer.proofs.ReportLaws.{report_hours_count, report_shape, report_bytes}
use Rattle.agreement.specs.Reportable.{Reportable, formed}
use Rattle.agreement.specs.ReportableLaws.{reportable_few, writable_reportable}
use Rattle.agreement.specs.ReportLaws.{recorded_length, own, report_right}
use Rattle.agreement.specs.ReadBackLaws.{lists_none, dates_back, hours_back, totals_back}

module _ (year quarter : ℕ) (name : List ℕ) (hs : List ReportHour) (r : Reportable year quarter name hs) where
  pub report_honest : (sets : List Unrounded) → SetsBehind (recorded_hours hs) sets → HonestlyRounded (report year quarter name hs) sets
  report_honest sets behind =
      let g = r.heading in
      let n = r.named in
      let few = reportable_few year quarter name hs r in
      let h = hours_back year quarter name g n hs r.hours r.monitored in
      record {
        report = own year quarter name g n hs r.hours r.rises few;
        right = report_right year quarter name g n hs r.hours r.rises few;
        behind = rw h behind;
        totals = totals_back year quarter name g n hs r.hours few ∙ ap quarter_totals (sym h);
      }

  pub report_accepted : (sets : List Unrounded) → SetsBehind (recorded_hours hs) sets → checked (report year quarter name hs) ≡ Ok (formed hs)
  report_accepted sets behind =
      honest_checked (report year quarter name hs) sets (report_honest sets behind)
      ∙ ap (λ (x : List Hour). Ok (quarter_totals x)) (hours_back year quarter name r.heading r.named hs r.hours r.monitored)

-- of a sheet: the recorded readings lie behind the rounded figures
abbrev recorded_sets : List SheetHour → List Unrounded
recorded_sets hs = map (λ h. set_of (as_recorded (recorded_readings h))) hs

recorded_sets_behind : (hs : List SheetHour) → SetsBehind (recorded_hours (report_hours hs)) (recorded_sets hs)
recorded_sets_behind [] = tt
recorded_sets_behind (h ∷ hs) = ((λ q. written_behind q (recorded_hour h) refl refl), recorded_sets_behind hs)

module _ (year quarter : ℕ) (name sheet : List ℕ) (named : length name ≡ stack_width) where
  abbrev hours : List ReportHour
  hours = report_hours (sheet_hours sheet)

  pub formed_hours : (formed hours).hours ≡ sheet_hour_count sheet
  formed_hours = quarter_hours (recorded_hours hours) ∙ recorded_length hours ∙ report_hours_count sheet

  -- what was written is the report of the sheet's hours, which can be written
  written_report : (buffer : List ℕ) (n : ℕ) → answered year quarter name sheet (length buffer) ≡ Ok n →
      (take n (buffered year quarter name sheet buffer) ≡ report year quarter name hours) × Reportable year quarter name hours
  unfolding answered_in buffered_in
  written_report buffer n e = go (refusal_of year quarter name sheet (length buffer)) refl e
    where
      go : (f : ℕ) → refusal_of year quarter name sheet (length buffer) ≡ f →
          ◌≡◌ {A = Written} (elim f [ zero ↦ Ok (report_length (shape_of sheet)) | suc c ↦ Err (suc c) ]) (Ok n) →
          (take n (buffered year quarter name sheet buffer) ≡ report year quarter name hours) × Reportable year quarter name hours
      go zero z v =
          let l : report_length (shape_of sheet) ≡ n = cc in
          let file = report year quarter name hours in
          let k : length file ≡ n = report_bytes year quarter name hours named (shape_of sheet) (report_shape sheet) ∙ l in (
            rw (z, buffered_in) (take_at file (drop (report_length (shape_of sheet)) buffer) n k),
            writable_reportable year quarter name sheet named (not_refused year quarter name sheet (length buffer) z).0,
          )
      go (suc f) z v = absurd (let y : ◌≡◌ {A = ℕ} 0 1 = cc in omega arith)

  -- a file with the sheet's hours: it is accepted with the totals of what the sheet records; its 200 lines have the dates of the sheet's hours,
  -- and all that is recorded of them is time and readings of the sheet and the rounded figures; none of its lines is idle
  pub record HasHours (file : List ℕ) : Type 0 where
    pub accepted : answer_numbers (checked file) ≡ acceptance (quarter_totals (map recorded_hour (sheet_hours sheet)))
    pub count : hour_count file ≡ sheet_hour_count sheet
    pub dates : map (λ (l : Line). columns 16 8 l.text) (records_of file So2Concentration)
        ≡ map (λ (h : SheetHour). stamp_of year quarter h.hour) (sheet_hours sheet)
    pub recorded : hours_of file ≡ map recorded_hour (sheet_hours sheet)
    pub busy : without_idle (lines file) ≡ lines file

  report_has : Reportable year quarter name hours → HasHours (report year quarter name hours)
  report_has r =
      let a = report_accepted year quarter name hours r (recorded_sets (sheet_hours sheet)) (recorded_sets_behind (sheet_hours sheet)) in
      let back = hours_back year quarter name r.heading r.named hours r.hours r.monitored in
      let own = own_hours (sheet_hours sheet) in
      record {
        accepted = ap answer_numbers a ∙ ap (λ (hs : List Hour). acceptance (quarter_totals hs)) own;
        count = sym (hours_count (report year quarter name hours)) ∙ ap length back ∙ recorded_length hours ∙ report_hours_count sheet;
        dates = dates_back year quarter name r.heading r.named hours r.hours ∙ own_dates (sheet_hours sheet);
        recorded = back ∙ own;
        busy = lists_none year quarter name r.heading r.named hours r.hours;
      }
    where
      own_hours : (hs : List SheetHour) → recorded_hours (report_hours hs) ≡ map recorded_hour hs
      own_hours [] = refl
      own_hours (h ∷ hs) = ap (λ (x : List Hour). recorded_hour h ∷ x) (own_hours hs)

      own_dates : (hs : List SheetHour) →
          map (λ (h : ReportHour). stamp_of year quarter h.hour) (report_hours hs) ≡ map (λ (h : SheetHour). stamp_of year quarter h.hour) hs
      own_dates [] = refl
      own_dates (h ∷ hs) = ap (λ (x : List (List ℕ)). stamp_of year quarter h.hour ∷ x) (own_dates hs)

  -- Whatever the buffer: where the writer answers a length, and no refusal, the check accepts that many bytes of it, with the sheet's hours.
  pub every_written : (buffer : List ℕ) (n : ℕ) → written_number (answered year quarter name sheet (length buffer)) ≡ n → shortest_report ≤ n →
      HasHours (take n (buffered year quarter name sheet buffer))
  every_written buffer n e h =
      let told = number_tells year quarter name sheet (length buffer) (omega (arith, e)) in
      let w = written_report buffer n (told ∙ ap Ok (ap written_number (sym told) ∙ e)) in
      subst HasHours (sym w.0) (report_has w.1)
