-- What is proved of a report's records: their number, their lengths, and where each stands.
use Prim.Native.Nat.{ℕ, zero, suc, ◌+◌, ◌*◌, ◌≤◌, ◌<◌}
use Rattle.std.specs.Prelude.{◌≡◌, true, ◌⊎◌, drop, get_or}
use Rattle.std.proofs.Math.Path.{sym, ap}
use Rattle.std.proofs.Common.{◌∙◌, inl, inr, add-one, drop-drop, drop-cons}
use mathlib.Core.List.{List, [], ◌∷◌, ◌++◌, map, append_assoc}
use native.Mathlib.Omega.{arith}
use Rattle.std.proofs.Math.Nat.{mul-le-mul_left}
use Rattle.std.proofs.Math.ListN.{length, length-append, length-map}
use Rattle.std.proofs.Math.Seq.{drop-append-le, drop-append-add}
use Rattle.exact.specs.Logic.{All}
use Rattle.columns.specs.Bytes.{all, is_printable}
use Rattle.layout.specs.Layout.{order, later, length_of, date_column, stack_width, shape, count_of, lines_of, bytes_of, front_of, offset_of, report_length, joined_runs}
use Rattle.layout.proofs.PlaceLaws.{run_place}
use Rattle.layout.proofs.RunLaws.{once_type, dated_run, by_run, dated_count, runs_length}
use Rattle.totals.specs.Totals.{quarter_totals}
use Rattle.layout.specs.declared.Run.{Run}
use Rattle.layout.specs.declared.RecordType.{RecordType}
use Rattle.layout.specs.declared.RecordType.TheVariants.{Facility, QuarterTotals}
use Rattle.layout.specs.declared.Shape.{Shape}
use Rattle.sheet.specs.Sheet.{sheet_hour_count, shape_of, sheet_hours}
use Rattle.sheet.proofs.SheetLaws.{sheet_hours_count}
use Rattle.writer.specs.Recorded.{ReportHour, recorded_hours, report_hour, report_hours}
use Rattle.records.specs.Records.{ended, facility_record, totals_record}
use Rattle.writer.specs.Written.{hour_record, once_record, written_records, lined, report}
use Rattle.records.specs.RecordLaws.{facility_length, totals_length, facility_printable, totals_printable}
use Rattle.writer.proofs.LineLaws.{hour_length, hour_printable}

-- a sheet's hours
pub report_hours_count : (sheet : List ℕ) → length (report_hours (sheet_hours sheet)) ≡ sheet_hour_count sheet
report_hours_count sheet = length-map (sheet_hours sheet) report_hour ∙ sheet_hours_count sheet

-- and its shape
pub report_shape : (sheet : List ℕ) → shape_of sheet ≡ shape (length (report_hours (sheet_hours sheet)))
report_shape sheet = ap shape (sym (report_hours_count sheet))

pub ended_length : (line : List ℕ) {n : ℕ} → length line ≡ n → length (ended line) ≡ n + 1
ended_length line e = length-append line (10 ∷ []) ∙ omega arith

-- lines of records of one length
module _ (size : ℕ) where
  pub lined_length : (rs : List (List ℕ)) → All (λ r. length r ≡ size) rs → length (lined rs) ≡ (size + 1) * length rs
  unfolding lined
  lined_length [] e = omega arith
  lined_length (r ∷ rs) e =
      length-append (ended r) (lined rs) ∙ omega (arith, ended_length r e.0, lined_length rs e.1)

  pub lined_drop : (rs : List (List ℕ)) (k : ℕ) → All (λ r. length r ≡ size) rs → k ≤ length rs → drop ((size + 1) * k) (lined rs) ≡ lined (drop k rs)
  unfolding lined
  lined_drop rs zero e h =
      let z : (size + 1) * 0 ≡ 0 = omega arith in
      rw z
  lined_drop [] (suc k) e h = absurd (omega arith)
  lined_drop (r ∷ rs) (suc k) e h =
      let n : (size + 1) * suc k ≡ length (ended r) + (size + 1) * k = omega (arith, ended_length r e.0) in
      rw n (drop-append-add (ended r) (lined rs) ((size + 1) * k) ∙ lined_drop rs k e.1 (omega arith))

module _ (year quarter : ℕ) (name : List ℕ) (hours : List ReportHour) where
  -- what holds of line 100, of line 301 and of the hours' records holds of every record
  pub records_each : (P : RecordType → List ℕ → Type 0) → P Facility (facility_record year quarter name)
      → P QuarterTotals (totals_record name (quarter_totals (recorded_hours hours)))
      → ((t : RecordType) → 1 ≤ date_column t → (h : ReportHour) → P t (hour_record year quarter name t h))
      → (t : RecordType) → All (P t) (written_records year quarter name hours t)
  unfolding written_records
  records_each P first totals each t =
      by_run (All (P t)) t (once_record year quarter name hours t ∷ []) (map (hour_record year quarter name t) hours)
      (λ e. (one (once_type t e), tt)) (λ d. of_hours d hours)
    where
      one : (t ≡ Facility) ⊎ (t ≡ QuarterTotals) → P t (once_record year quarter name hours t)
      one (inl e) = rw e first
      one (inr e) = rw e totals

      of_hours : 1 ≤ date_column t → (hs : List ReportHour) → All (P t) (map (hour_record year quarter name t) hs)
      of_hours e [] = tt
      of_hours e (h ∷ hs) = (each t e h, of_hours e hs)

  pub records_printable : all is_printable name ≡ true → (t : RecordType) → All (λ r. all is_printable r ≡ true) (written_records year quarter name hours t)
  records_printable p t =
      records_each (λ t r. all is_printable r ≡ true) (facility_printable name p year quarter) (totals_printable name p _)
      (λ t e h. hour_printable name p year quarter t h) t

  pub hour_records : (t : RecordType) → 1 ≤ date_column t → written_records year quarter name hours t ≡ map (hour_record year quarter name t) hours
  unfolding written_records
  hour_records t d = dated_run t d (once_record year quarter name hours t ∷ []) (map (hour_record year quarter name t) hours)

  module _ (named : length name ≡ stack_width) where
    pub records_length : (t : RecordType) → All (λ r. length r ≡ length_of t) (written_records year quarter name hours t)
    records_length t =
        records_each (λ t r. length r ≡ length_of t) (facility_length name named year quarter) (totals_length name named _)
        (λ t e h. hour_length name named year quarter t h) t

    -- in a report of a shape
    module _ (s : Shape) (own : s ≡ shape (length hours)) where
      pub records_count : (t : RecordType) → length (written_records year quarter name hours t) ≡ count_of s t
      unfolding written_records
      records_count t =
          by_run (λ (rs : List (List ℕ)). length rs ≡ count_of s t) t (once_record year quarter name hours t ∷ []) (map (hour_record year quarter name t) hours)
          (λ e. ap (λ (run : Run). lines_of run s) (sym e))
          (λ d. length-map hours (hour_record year quarter name t) ∙ sym (ap (λ (s : Shape). count_of s t) own ∙ dated_count t d (length hours)))

      pub run_length : (t : RecordType) → length (lined (written_records year quarter name hours t)) ≡ bytes_of s t
      run_length t =
          lined_length (length_of t) (written_records year quarter name hours t) (records_length t)
          ∙ ap (λ (n : ℕ). (length_of t + 1) * n) (records_count t)

      pub report_bytes : length (report year quarter name hours) ≡ report_length s
      unfolding report report_length
      report_bytes = runs_length (λ t. lined (written_records year quarter name hours t)) s run_length order

      -- from the k-th record of a type on
      pub records_place : (t : RecordType) (k : ℕ) → k ≤ count_of s t
          → drop (offset_of s t k) (report year quarter name hours)
          ≡ lined (drop k (written_records year quarter name hours t)) ++ joined_runs (λ t. lined (written_records year quarter name hours t)) (later t)
      unfolding report
      records_place t k h =
          let rs = written_records year quarter name hours t in
          let rest = joined_runs (λ t. lined (written_records year quarter name hours t)) (later t) in
          let n : (length_of t + 1) * k ≤ length (lined rs) = omega (arith, run_length t, mul-le-mul_left (length_of t + 1) h) in
          sym (drop-drop ((length_of t + 1) * k) (front_of s t).bytes _)
          ∙ ap (drop ((length_of t + 1) * k)) (run_place (λ t. lined (written_records year quarter name hours t)) s run_length t)
          ∙ drop-append-le ((length_of t + 1) * k) (lined rs) rest n
          ∙ ap (λ (l : List ℕ). l ++ rest) (lined_drop (length_of t) rs k (records_length t) (omega (arith, records_count t)))

      -- the k-th record of a type, its byte 10, and what follows
      abbrev pub behind_record : RecordType → ℕ → List ℕ
      behind_record t k =
          lined (drop (k + 1) (written_records year quarter name hours t))
          ++ joined_runs (λ t. lined (written_records year quarter name hours t)) (later t)

      pub record_place : (t : RecordType) (k : ℕ) → k < count_of s t
          → drop (offset_of s t k) (report year quarter name hours) ≡ ended (get_or (written_records year quarter name hours t) k []) ++ behind_record t k
      unfolding lined
      record_place t k h =
          let rs = written_records year quarter name hours t in
          let i : k < length rs = omega (arith, records_count t) in
          records_place t k (omega arith)
          ∙ ap (λ (l : List (List ℕ)). lined l ++ joined_runs (λ t. lined (written_records year quarter name hours t)) (later t)) (drop-cons rs k [] i)
          ∙ rw (add-one k) (append_assoc (ended (get_or rs k [])) (lined (drop (suc k) rs)) _)
