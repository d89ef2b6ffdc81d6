-- Line 100, the hours' lines and line 301, put at their offsets, are the report: every line has the report's bytes, and every byte of the
-- report lies in one of them.
use Prim.Native.Nat.{ℕ, zero, suc, ◌+◌, ◌≤◌, ◌<◌}
use mathlib.Core.Path.{◌≡◌, refl, sym, ap, ◌∙◌}
use mathlib.Core.List.{List, [], ◌∷◌, ◌++◌, append_assoc}
use mathlib.Core.Logic.{◌⊎◌, inl, inr}
use native.Mathlib.Omega.{arith}
use native.Mathlib.Decide.{dec_lt}
use native.Mathlib.Nat.{mul-le-mul_left}
use native.Mathlib.Numerals.{add-one}
use lib.ListN.{length, drop, get_or, length-drop}
use lib.Seq.{drop-append-le, drop-cons, drop-drop, ext_get_or}
use Rattle.exact.specs.Logic.{mapped_at}
use Rattle.columns.specs.Columns.{put}
use Rattle.columns.proofs.ColumnsLaws.{put_length, put_behind}
use Rattle.layout.specs.Layout.{stack_width, shape, record_of, order, length_of, date_column, rank_of, hourly, count_of, bytes_of, front_of, offset_of, report_length}
use Rattle.layout.specs.LayoutLaws.{in_order_lem}
use Rattle.layout.proofs.PlaceLaws.{line_inside}
use Rattle.layout.proofs.RunLaws.{once_type, in_run, once_or_dated_lem, dated_run, by_run, dated_count}
use Rattle.layout.specs.declared.Run.TheVariants.{Once}
use Rattle.stamp.specs.Stamp.{stamp_of}
use Rattle.totals.specs.Totals.{quarter_totals}
use Rattle.totals.specs.declared.Quarter.{Quarter}
use Rattle.layout.specs.declared.RecordType.{RecordType}
use Rattle.layout.specs.declared.RecordType.TheVariants.{Facility, QuarterTotals}
use Rattle.layout.specs.declared.Shape.{Shape}
use Rattle.writer.specs.Recorded.{ReportHour, recorded_hours}
use Rattle.records.specs.Records.{ended, facility_record, totals_record}
use Rattle.writer.specs.Written.{hour_record, written_records, report}
use Rattle.writer.specs.HourLines.{hour_lines, hours_lines}
use Rattle.records.specs.RecordLaws.{facility_length, totals_length}
use Rattle.writer.proofs.LineLaws.{hour_length}
use Rattle.writer.proofs.ReportLaws.{ended_length, hour_records, behind_record, record_place, report_bytes}
use Rattle.writer.proofs.Puts.{Own, Right, unknown, put_fills, put_keeps}

drop_next : {A : Type 0} (xs : List A) (k : ℕ) (a : A) (rest : List A) → drop k xs ≡ a ∷ rest → drop (k + 1) xs ≡ rest
drop_next xs k a rest e = sym (drop-drop 1 k xs) ∙ ap (drop 1) e

module _ (year quarter : ℕ) (name : List ℕ) (named : length name ≡ stack_width) (hours : List ReportHour) (s : Shape)
    (own : s ≡ shape (length hours)) (before : List ℕ) (room : report_length s ≤ length before) where
  count : length hours ≡ s.hours
  count = ap (λ (s : Shape). s.hours) (sym own)

  dated_hours : (t : RecordType) → 1 ≤ date_column t → count_of s t ≡ s.hours
  dated_hours t d = ap (λ (s : Shape). count_of s t) own ∙ dated_count t d (length hours) ∙ count

  abbrev text : List ℕ
  text = report year quarter name hours

  abbrev whole : List ℕ
  whole = put 1 text before

  text_long : length text ≡ report_length s
  text_long = report_bytes year quarter name hours named s own

  whole_long : length whole ≡ length before
  whole_long = put_length 1 text before (omega (arith, text_long))

  -- a line of the report
  own_line : (t : RecordType) (k : ℕ) (line : List ℕ) → k < count_of s t → get_or (written_records year quarter name hours t) k [] ≡ line → length line ≡ length_of t
      → Own whole (offset_of s t k) (ended line)
  unfolding put
  own_line t k line h e l =
      let i = line_inside s t k h in
      let at : offset_of s t k ≤ length text = omega (arith, text_long) in
      record {
        rest = behind_record year quarter name hours named s own t k ++ drop (0 + length text) before;
        there =
            drop-append-le (offset_of s t k) text (drop (0 + length text) before) at
            ∙ ap (λ (l : List ℕ). l ++ drop (0 + length text) before)
            (record_place year quarter name hours named s own t k h
            ∙ ap (λ (r : List ℕ). ended r ++ behind_record year quarter name hours named s own t k) e)
            ∙ append_assoc (ended line) _ _;
        fits = omega (arith, ended_length line l, whole_long);
      }

  -- hour k's lines, of the types that have one an hour
  module _ (k : ℕ) (h : ReportHour) (rest : List ReportHour) (here : drop k hours ≡ h ∷ rest) where
    pub rank_below : k < s.hours
    rank_below = omega (arith, length-drop k hours, ap length here, count)

    own_hour : (t : RecordType) → 1 ≤ date_column t → Own whole (offset_of s t k) (ended (hour_record year quarter name t h))
    own_hour t e =
        let few : k < count_of s t = rw (dated_hours t e) rank_below in
        let rs = ap (λ (rs : List (List ℕ)). get_or rs k []) (hour_records year quarter name hours t e) in
        let m = rank_below in
        let own : get_or hours k h ≡ h = ap (λ (l : List ReportHour). get_or l 0 h) (sym (drop-cons hours k h (omega (arith, count, m))) ∙ here) in
        let r = mapped_at (hour_record year quarter name t) hours h [] k (omega (arith, count, m)) ∙ ap (hour_record year quarter name t) own in
        own_line t k (hour_record year quarter name t h) few (rs ∙ r) (hour_length name named year quarter t h)

    line_length_lem : (t : RecordType) → length (ended (hour_record year quarter name t h)) ≡ length_of t + 1
    line_length_lem t = ended_length (hour_record year quarter name t h) (hour_length name named year quarter t h)

    abbrev with_lines : List RecordType → List ℕ → List ℕ
    with_lines ts buffer = hour_lines name s k (stamp_of year quarter h.hour) h.recorded ts buffer

    module _ (i : ℕ) {P : Type 0} where
      lines_keep : (ts : List RecordType) (buffer : List ℕ) → Right whole i P buffer → Right whole i P (with_lines (hourly ts) buffer)
      unfolding hour_lines hour_record
      lines_keep [] buffer r = r
      lines_keep (t ∷ ts) buffer r =
          by_run (λ (us : List RecordType). Right whole i P (with_lines us buffer)) t (hourly ts) (t ∷ hourly ts)
          (λ e. lines_keep ts buffer r) (λ d. lines_keep ts _ (put_keeps (own_hour t d) r))

      lines_fill : (t : RecordType) → 1 ≤ date_column t → offset_of s t k ≤ i → i < offset_of s t k + (length_of t + 1)
          → (ts : List RecordType) (j : ℕ) (buffer : List ℕ) → j < length ts → get_or ts j Facility ≡ t → length buffer ≡ length whole
          → Right whole i P (with_lines (hourly ts) buffer)
      unfolding hour_lines hour_record
      lines_fill t e l m [] j buffer h q long = absurd (omega arith)
      lines_fill t e l m (u ∷ ts) zero buffer h q long =
          let n = line_length_lem t in
          rw (q, dated_run t e (hourly ts) (t ∷ hourly ts)) (lines_keep ts _ (put_fills (own_hour t e) i buffer long l (omega arith)))
      lines_fill t e l m (u ∷ ts) (suc j) buffer h q long =
          by_run (λ (us : List RecordType). Right whole i P (with_lines us buffer)) u (hourly ts) (u ∷ hourly ts)
          (λ o. lines_fill t e l m ts j buffer (omega arith) q long)
          (λ d. lines_fill t e l m ts j _ (omega arith) q (put_keeps (own_hour u d) (unknown i long)).long)

      hour_fills : (t : RecordType) → 1 ≤ date_column t → offset_of s t k ≤ i → i < offset_of s t k + (length_of t + 1)
          → (buffer : List ℕ) → length buffer ≡ length whole → Right whole i P (with_lines (hourly order) buffer)
      hour_fills t e l m buffer long = lines_fill t e l m order (rank_of t) buffer (in_order_lem t).0 (in_order_lem t).1 long

  -- those of the hours from hour k on
  abbrev with_hours : ℕ → List ReportHour → List ℕ → List ℕ
  with_hours k hs buffer = hours_lines year quarter name s k hs buffer

  hours_keep : {P : Type 0} (i k : ℕ) (hs : List ReportHour) (buffer : List ℕ) → drop k hours ≡ hs → Right whole i P buffer
      → Right whole i P (with_hours k hs buffer)
  unfolding hours_lines
  hours_keep i k [] buffer e r = r
  hours_keep i k (h ∷ hs) buffer e r =
      hours_keep i (suc k) hs (with_lines k h hs e (hourly order) buffer) (rw (← add-one k) (drop_next hours k h hs e)) (lines_keep k h hs e i order buffer r)

  hours_fill : {P : Type 0} (i : ℕ) (t : RecordType) → 1 ≤ date_column t → (k : ℕ) (hs : List ReportHour) (buffer : List ℕ) → drop k hours ≡ hs
      → offset_of s t k ≤ i → i < offset_of s t s.hours → length buffer ≡ length whole → Right whole i P (with_hours k hs buffer)
  unfolding hours_lines
  hours_fill i t f k [] buffer e l m long =
      let n : s.hours ≤ k = omega (arith, length-drop k hours, ap length e, count) in
      absurd (omega (arith, mul-le-mul_left (length_of t + 1) n))
  hours_fill {P} i t f k (h ∷ hs) buffer e l m long = go (dec_lt i (offset_of s t (suc k))) (hours_fill i t f (suc k) hs filled next)
    where
      filled : List ℕ
      filled = with_lines k h hs e (hourly order) buffer

      next : drop (suc k) hours ≡ hs
      next = rw (← add-one k) (drop_next hours k h hs e)

      go : Dec (i < offset_of s t (suc k))
          → (offset_of s t (suc k) ≤ i → i < offset_of s t s.hours → length filled ≡ length whole → Right whole i P (with_hours (suc k) hs filled))
          → Right whole i P (with_hours (suc k) hs filled)
      go (no above) more = more (omega arith) m (lines_keep k h hs e i order buffer (unknown i long)).long
      go (yes below) more = hours_keep i (suc k) hs filled next (hour_fills k h hs e i t f l (omega arith) buffer long)

  -- line 100 and line 301

  own_facility : Own whole (offset_of s Facility 0) (ended (facility_record year quarter name))
  unfolding written_records
  own_facility = own_line Facility 0 (facility_record year quarter name) (omega arith) refl (facility_length name named year quarter)

  abbrev totals : List ℕ
  totals = totals_record name (quarter_totals (recorded_hours hours))

  own_totals : Own whole (offset_of s QuarterTotals 0) (ended totals)
  unfolding written_records
  own_totals = own_line QuarterTotals 0 totals (omega arith) refl (totals_length name named _)

  abbrev with_facility : List ℕ
  with_facility = put (offset_of s Facility 0 + 1) (ended (facility_record year quarter name)) before

  abbrev with_all : List ℕ
  with_all = put (offset_of s QuarterTotals 0 + 1) (ended totals) (with_hours 0 hours with_facility)

  all_right : (i : ℕ) → Right whole i (Unit {0}) with_all
  all_right i = go (dec_lt i (report_length s))
    where
      long : length before ≡ length whole
      long = sym whole_long

      kept : {P : Type 0} → Right whole i P with_facility → Right whole i P with_all
      kept r = put_keeps own_totals (hours_keep i 0 hours with_facility refl r)

      in_type : (t : RecordType) → ((record_of t).run ≡ Once) ⊎ (1 ≤ date_column t) → (front_of s t).bytes ≤ i → i < (front_of s t).bytes + bytes_of s t
          → Right whole i (Unit {0}) with_all
      in_type t (inr d) l m =
          put_keeps own_totals
          (hours_fill i t d 0 hours with_facility refl (omega arith) (rw (dated_hours t d) at m) (put_keeps own_facility (unknown i long)).long)
      in_type t (inl e) l m = go' (once_type t e)
        where
          go' : (t ≡ Facility) ⊎ (t ≡ QuarterTotals) → Right whole i (Unit {0}) with_all
          go' (inl q) =
              let n : i < (front_of s Facility).bytes + bytes_of s Facility = rw q at m in
              let e = ended_length (facility_record year quarter name) (facility_length name named year quarter) in
              kept (put_fills own_facility i before long (rw q at l) (omega arith))
          go' (inr q) =
              let n : i < (front_of s QuarterTotals).bytes + bytes_of s QuarterTotals = rw q at m in
              put_fills own_totals i (with_hours 0 hours with_facility)
              (hours_keep i 0 hours with_facility refl (put_keeps own_facility (unknown i long))).long
              (omega (arith, ap (λ (t : RecordType). (front_of s t).bytes) q))
              (omega (arith, ended_length totals (totals_length name named (quarter_totals (recorded_hours hours)))))

      go : Dec (i < report_length s) → Right whole i (Unit {0}) with_all
      go (yes h) = let r = in_run s i h in in_type r.type (once_or_dated_lem r.type) r.from r.below
      go (no h) =
          let e = text_long in
          kept (put_keeps own_facility (record { long = long; byte = λ p. sym (put_behind 1 text before (omega arith) i (omega arith)) }))

  pub report_written_lem : with_all ≡ put 1 text before
  report_written_lem = ext_get_or 0 with_all whole (all_right 0).long (λ i h. (all_right i).byte tt)

pub with_totals : (name : List ℕ) {at at' : ℕ} {q q' : Quarter} {b b' : List ℕ} → at ≡ at' → q ≡ q' → b ≡ b'
    → put (at + 1) (ended (totals_record name q)) b ≡ put (at' + 1) (ended (totals_record name q')) b'
with_totals name at q b = rw (at, q, b)
