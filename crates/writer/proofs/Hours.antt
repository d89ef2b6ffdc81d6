-- The hours from hour k on: their lines, put into the buffer as it is, and the running totals, grown by them.
use Prim.Native.Nat.{ℕ, ◌+◌, ◌-◌, ◌≤◌, ◌<◌}
use mathlib.Core.Path.{◌≡◌, sym, ap, ◌∙◌}
use mathlib.Core.List.{List}
use native.Mathlib.Numerals.{add-one}
use Rattle.exact.specs.Logic.{ranked, ranked_next, ranked_end}
use Rattle.columns.specs.Written.{digits_of}
use Rattle.layout.specs.Layout.{date_width, order, hourly}
use Rattle.stamp.specs.Stamp.{stamp_number, stamp_of}
use Rattle.stamp.specs.StampLaws.{stamp_digits}
use Rattle.formulas.specs.declared.hour.Hour.{Hour}
use Rattle.sheet.specs.declared.SheetHour.{SheetHour}
use Rattle.totals.specs.Totals.{Room, no_totals, with_hour, running_totals, quarter_of, quarter_totals}
use Rattle.totals.proofs.TotalLaws.{running_totals_lem, running_next, running_end, grown_hours, quarter_formed}
use Rattle.totals.specs.declared.Totals.{Totals}
use Rattle.layout.specs.declared.Shape.{Shape}
use Rattle.sheet.proofs.SheetLaws.{sheet_hours_whole}
use Rattle.sheet.specs.Sheet.{sheet_hour, shape_of, sheet_hours}
use Rattle.writer.specs.Recorded.{recorded_hour, recorded_hours, report_hours}
use Rattle.writer.specs.HourLines.{hour_lines, hours_lines}

-- the running totals
module _ (sheet : List ℕ) (n k : ℕ) (totals : Totals) where
  abbrev pub totals_left : Totals
  totals_left = running_totals totals (recorded_hours (report_hours (ranked (sheet_hour sheet) k (n - k))))

  pub totals_more : (grown : Totals) → k < n → grown ≡ with_hour totals (recorded_hour (sheet_hour sheet k)).figures (recorded_hour (sheet_hour sheet k)).time
      → running_totals grown (recorded_hours (report_hours (ranked (sheet_hour sheet) (k + 1) (n - (k + 1))))) ≡ totals_left
  totals_more grown h e =
      let rest = recorded_hours (report_hours (ranked (sheet_hour sheet) (k + 1) (n - (k + 1)))) in
      rw (ranked_next (sheet_hour sheet) n k h, e) (sym (running_next totals (recorded_hour (sheet_hour sheet k)) rest))

  pub totals_end : n ≤ k → totals_left ≡ totals
  totals_end h = rw (ranked_end (sheet_hour sheet) n k h) (running_end totals)

-- the lines
module _ (year quarter : ℕ) (name sheet : List ℕ) (s : Shape) (k : ℕ) (buffer : List ℕ) where
  abbrev pub lines_left : List ℕ
  lines_left = hours_lines year quarter name s k (report_hours (ranked (sheet_hour sheet) k (s.hours - k))) buffer

  abbrev pub with_hour_lines : List ℕ
  with_hour_lines = hour_lines name s k (stamp_of year quarter (sheet_hour sheet k).hour) (recorded_hour (sheet_hour sheet k)) (hourly order) buffer

  pub lines_more : k < s.hours →
      hours_lines year quarter name s (k + 1) (report_hours (ranked (sheet_hour sheet) (k + 1) (s.hours - (k + 1)))) with_hour_lines ≡ lines_left
  unfolding hours_lines
  lines_more h = rw (ranked_next (sheet_hour sheet) s.hours k h, add-one k)

  pub lines_end : s.hours ≤ k → lines_left ≡ buffer
  unfolding hours_lines
  lines_end h = rw (ranked_end (sheet_hour sheet) s.hours k h)

-- what stands before hour k, in a buffer that was `before`
pub record Passed (year quarter : ℕ) (name sheet before : List ℕ) (s : Shape) (buffer : List ℕ) (totals : Totals) (k : ℕ) : Type 0 where
  pub room : Room totals
  pub counted : totals.hours ≡ k
  pub totalled : totals_left sheet s.hours k totals ≡ running_totals no_totals (recorded_hours (report_hours (sheet_hours sheet)))
  pub lines : lines_left year quarter name sheet s k buffer ≡ hours_lines year quarter name s 0 (report_hours (sheet_hours sheet)) before

module _ (year quarter : ℕ) (name sheet before : List ℕ) (s : Shape) (shaped : s ≡ shape_of sheet) where
  pub passed_start : {totals : Totals} → totals ≡ no_totals → Room totals → Passed year quarter name sheet before s before totals 0
  passed_start e r = record {
    room = r;
    counted = ap (λ (t : Totals). t.hours) e;
    totalled = rw (e, shaped, sheet_hours_whole);
    lines = rw (shaped, sheet_hours_whole);
  }

  module _ {buffer : List ℕ} {totals : Totals} {k : ℕ} (p : Passed year quarter name sheet before s buffer totals k) where
    pub passed_more : {buffer' : List ℕ} {totals' : Totals} → k < s.hours → Room totals'
        → totals' ≡ with_hour totals (recorded_hour (sheet_hour sheet k)).figures (recorded_hour (sheet_hour sheet k)).time
        → buffer' ≡ with_hour_lines year quarter name sheet s k buffer
        → Passed year quarter name sheet before s buffer' totals' (k + 1)
    passed_more {buffer'} {totals'} h r t b = record {
      room = r;
      counted = ap (λ (t : Totals). t.hours) t ∙ grown_hours totals _ _ ∙ ap (λ (n : ℕ). n + 1) p.counted;
      totalled = totals_more sheet s.hours k totals totals' h t ∙ p.totalled;
      lines = rw b (lines_more year quarter name sheet s k buffer h ∙ p.lines);
    }

    pub passed_end : s.hours ≤ k → (quarter_of totals ≡ quarter_totals (recorded_hours (report_hours (sheet_hours sheet))))
        × (buffer ≡ hours_lines year quarter name (shape_of sheet) 0 (report_hours (sheet_hours sheet)) before)
    passed_end h = (
      quarter_formed totals (recorded_hours (report_hours (sheet_hours sheet))) (sym (totals_end sheet s.hours k totals h) ∙ p.totalled ∙ running_totals_lem _),
      sym (lines_end year quarter name sheet s k buffer h)
          ∙ p.lines
          ∙ ap (λ (s : Shape). hours_lines year quarter name s 0 (report_hours (sheet_hours sheet)) before) shaped,
    )

-- an hour's lines, dated and recorded
pub as_lines : (name : List ℕ) (s : Shape) (k year quarter : ℕ) (buffer : List ℕ) {date : ℕ} {h h' : SheetHour} {r : Hour}
    → date ≡ stamp_number year quarter h.hour → h ≡ h' → r ≡ recorded_hour h
    → hour_lines name s k (digits_of date_width date) r (hourly order) buffer
    ≡ hour_lines name s k (stamp_of year quarter h'.hour) (recorded_hour h') (hourly order) buffer
as_lines name s k year quarter buffer d e r = rw (d, stamp_digits, r, e)
