-- The lines of a written report are its records, in the order of their types, and it is right.
use Rattle.std.specs.Prelude.{ℕ, suc, ◌≤◌, true, false, ◌⊎◌, eqb, length}
use Rattle.std.proofs.Math.Path.{◌≡◌, refl, sym, ap}
use Rattle.std.proofs.Common.{◌∙◌, inl, inr, ne_eqb}
use mathlib.Core.List.{List, [], ◌∷◌, ◌++◌, map, append_assoc, append-nil}
use Rattle.std.proofs.Math.Logic.{⊎_elim}
use native.Mathlib.Omega.{arith}
use Rattle.std.proofs.lemmas.List.{length-map}
use Rattle.columns.specs.Bytes.{is_printable, all}
use Rattle.columns.proofs.BytesLaws.{all_head, all_tail}
use Rattle.calendar.specs.Calendar.{most_hours}
use Rattle.layout.specs.Layout.{date_column, stack_width, values_of, order, shape, joined_runs}
use Rattle.exact.specs.Logic.{All}
use Rattle.layout.specs.declared.RecordType.{RecordType}
use Rattle.layout.specs.declared.RecordType.TheVariants.{Facility, So2Concentration, NoxConcentration, Co2Concentration, VolumetricFlow, Operation}
use Rattle.layout.specs.declared.RecordType.TheVariants.{QuarterTotals, So2Mass, NoxRate, Co2Mass}
use Rattle.formulas.specs.Hour.{HourWithin, HoursWithin}
use Rattle.totals.proofs.FitLaws.{totals_fit}
use Rattle.lines.specs.Lines.{onto, lines, last}
use Rattle.lines.specs.LineFaults.{type_is}
use Rattle.columns.specs.Columns.{columns}
use Rattle.lines.proofs.FaultLaws.{facility_said, hour_said_lem, right_due}
use Rattle.lines.proofs.OperationLaws.{said_operating}
use Rattle.lines.specs.RightLine.{RightListed}
use Rattle.lines.proofs.RightLaws.{facility_right, hour_right, due_says, RightTime, operation_right}
use Rattle.lines.proofs.RightLaws.RightTime.{runs}
use Rattle.calendar.specs.Calendar.{Period}
use Rattle.reading.specs.RightFile.{RightHours, RightRun, RightOperations, RightFile}
use Rattle.reading.specs.RightFile.RightOperations.{done, operating}
use Rattle.reading.specs.declared.Report.{Report}
use Rattle.sheet.specs.SheetTests.{Heading}
use Rattle.writer.specs.Recorded.{ReportHour, recorded_hours}
use Rattle.records.specs.Records.{ended, facility_record, hour_values, total_values, totals_record}
use Rattle.writer.specs.Written.{hour_record, written_records, lined, report}
use Rattle.writer.proofs.ReportLaws.{records_each, records_printable}
use Rattle.agreement.specs.Reportable.{AllWritable, Rising, formed}
use Rattle.agreement.specs.RecordLaws.{framed_type, ValuesWithin}
use Rattle.agreement.specs.HourRecordLaws.{facility, period, facility_framed, facility_named, hour_framed, hour_due_lem, hour_named, operation_named}
use Rattle.agreement.specs.HourRecordLaws.{totals_framed, totals_due}

-- a line of printable bytes and its byte 10 are the first line of what follows
printable_not_end : (b : ℕ) → is_printable b ≡ true → eqb b 10 ≡ false
printable_not_end b h = ne_eqb b 10 (λ e. absurd (no (rw e at h)))
  where
    no : is_printable 10 ≡ true → ⊥
    no k = let y : ◌≡◌ {A = ℕ} 0 1 = cc in omega arith

lines_ended : (line rest : List ℕ) → all is_printable line ≡ true → lines (line ++ (10 ∷ rest)) ≡ line ∷ lines rest
unfolding lines onto
lines_ended [] rest p = refl
lines_ended (b ∷ line) rest p =
    rw (printable_not_end b (all_head is_printable b line p), lines) (ap (onto b) (lines_ended line rest (all_tail is_printable b line p)))

lines_lined : (rs : List (List ℕ)) (rest : List ℕ) → All (λ r. all is_printable r ≡ true) rs → lines (lined rs ++ rest) ≡ rs ++ lines rest
unfolding lined
lines_lined [] rest p = refl
lines_lined (r ∷ rs) rest p =
    ap lines (append_assoc (ended r) (lined rs) rest ∙ append_assoc r (10 ∷ []) (lined rs ++ rest))
    ∙ lines_ended r (lined rs ++ rest) p.0
    ∙ ap (λ (l : List (List ℕ)). r ∷ l) (lines_lined rs rest p.1)

-- nothing, or something that ends with byte 10
Closed : List ℕ → Type 0
Closed xs = (xs ≡ []) ⊎ (last xs ≡ 10)

last_behind : (xs : List ℕ) (y : ℕ) (ys : List ℕ) → last (xs ++ (y ∷ ys)) ≡ last (y ∷ ys)
unfolding last
last_behind [] y ys = refl
last_behind (x ∷ []) y ys = refl
last_behind (x ∷ z ∷ xs) y ys = last_behind (z ∷ xs) y ys

closed_append : (xs ys : List ℕ) → Closed xs → Closed ys → Closed (xs ++ ys)
unfolding Closed
closed_append xs [] p q = rw (append-nil xs) p
closed_append xs (y ∷ ys) p q = ⊎_elim (λ e. absurd (let z : ◌≡◌ {A = ℕ} 0 1 = cc in omega arith)) (λ e. inr (last_behind xs y ys ∙ e)) q

closed_lined : (rs : List (List ℕ)) → Closed (lined rs)
unfolding lined Closed last
closed_lined [] = inl refl
closed_lined (r ∷ rs) = closed_append (ended r) (lined rs) (inr (last_behind r 10 [])) (closed_lined rs)

closed_texts : (text : RecordType → List (List ℕ)) (ts : List RecordType) → Closed (joined_runs (λ t. lined (text t)) ts)
unfolding Closed
closed_texts text [] = inl refl
closed_texts text (t ∷ ts) = closed_append (lined (text t)) (joined_runs (λ t. lined (text t)) ts) (closed_lined (text t)) (closed_texts text ts)

-- the values of an hour in the record of a type lie in their ranges
pub hour_values_within : (t : RecordType) (h : ReportHour) → 1 ≤ date_column t → HourWithin h.recorded →
    ValuesWithin (values_of t) (hour_values t h.recorded)
hour_values_within Facility h d w = tt
hour_values_within So2Concentration h d w = (w.readings.so2, tt)
hour_values_within NoxConcentration h d w = (w.readings.nox, tt)
hour_values_within Co2Concentration h d w = (w.readings.co2, tt)
hour_values_within VolumetricFlow h d w = (w.readings.flow, tt)
hour_values_within Operation h d w = (w.time, (w.figures.heat, tt))
hour_values_within QuarterTotals h d w = absurd (omega arith)
hour_values_within So2Mass h d w = (w.figures.so2, tt)
hour_values_within NoxRate h d w = (w.readings.fc, (w.figures.nox, tt))
hour_values_within Co2Mass h d w = (w.figures.co2, tt)

recorded_within : (year quarter : ℕ) (hs : List ReportHour) → AllWritable year quarter hs → HoursWithin (recorded_hours hs)
recorded_within year quarter [] a = tt
recorded_within year quarter (h ∷ hs) a = (a.0.within, recorded_within year quarter hs a.1)

pub recorded_length : (hs : List ReportHour) → length (recorded_hours hs) ≡ length hs
recorded_length [] = refl
recorded_length (h ∷ hs) = ap suc (recorded_length hs)

pub totals_within : (year quarter : ℕ) (hs : List ReportHour) → AllWritable year quarter hs → length hs ≤ most_hours →
    ValuesWithin (values_of QuarterTotals) (total_values (formed hs))
totals_within year quarter hs a b =
    let f = totals_fit (recorded_hours hs) (recorded_within year quarter hs a) (omega (arith, recorded_length hs)) in
    (f.so2, (f.co2, (f.heat, (f.nox, (f.nox_tons, tt)))))

module _ (year quarter : ℕ) (name : List ℕ) (g : Heading year quarter name) (named : length name ≡ stack_width) (hs : List ReportHour) where
  abbrev records : RecordType → List (List ℕ)
  records t = written_records year quarter name hs t

  -- the records of these types, one type after the other
  abbrev pub records_in : List RecordType → List (List ℕ)
  records_in [] = []
  records_in (t ∷ ts) = records t ++ records_in ts

  lines_in_lem : (ts : List RecordType) → lines (joined_runs (λ t. lined (records t)) ts) ≡ records_in ts
  unfolding lines
  lines_in_lem [] = refl
  lines_in_lem (t ∷ ts) =
      lines_lined (records t) (joined_runs (λ t. lined (records t)) ts) (records_printable year quarter name hs g.printable t)
      ∙ ap (λ (l : List (List ℕ)). records t ++ l) (lines_in_lem ts)

  pub report_lines : lines (report year quarter name hs) ≡ records_in order
  unfolding report
  report_lines = lines_in_lem order

  report_last : last (report year quarter name hs) ≡ 10
  unfolding Closed report written_records lined
  report_last = ⊎_elim (λ e. absurd (some (facility_record year quarter name) _ e)) (λ e. e) (closed_texts records order)
    where
      some : (line rest : List ℕ) → (ended line ++ []) ++ rest ≡ [] → ⊥
      some [] rest e = let z : ◌≡◌ {A = ℕ} 0 1 = cc in omega arith
      some (b ∷ line) rest e = let z : ◌≡◌ {A = ℕ} 0 1 = cc in omega arith

  pub records_typed : (t : RecordType) → All (λ r. type_is t r ≡ true) (records t)
  records_typed t =
      records_each year quarter name hs (λ t r. type_is t r ≡ true)
      (framed_type Facility name _ (facility_framed year quarter name g named))
      (framed_type QuarterTotals name _ (totals_framed year quarter name g named (formed hs)))
      (λ t d h. framed_type t name _ (hour_framed year quarter name g named t d h))
      t

  -- the lines of the hours are right

  abbrev first : List ℕ
  first = facility year quarter name g named

  abbrev own_period : Period
  own_period = period year quarter name g named

  abbrev lines_of : RecordType → List ReportHour → List (List ℕ)
  lines_of t xs = map (hour_record year quarter name t) xs

  so2_within : (x : ReportHour) → HourWithin x.recorded → ValuesWithin (values_of So2Concentration) (hour_values So2Concentration x.recorded)
  so2_within x w = hour_values_within So2Concentration x (omega arith) w

  hours_right : (xs : List ReportHour) (from : ℕ) → AllWritable year quarter xs → Rising from xs →
      RightHours first own_period from (lines_of So2Concentration xs)
  hours_right [] from a r = tt
  hours_right (x ∷ xs) from a r =
      let l = hour_record year quarter name So2Concentration x in
      let said = hour_said_lem first own_period from l x.hour
      (hour_named year quarter name g named x a.0.exists (so2_within x a.0.within) from r.0) in
      let right = hour_right first own_period from l said.0 in
      (x.hour, r.0, rw said.1 at right.1, hours_right xs (suc x.hour) a.1 r.1)

  run_right : (t : RecordType) → 1 ≤ date_column t → (xs : List ReportHour) → AllWritable year quarter xs →
      RightRun first t (lines_of So2Concentration xs) (lines_of t xs)
  run_right t d [] a = tt
  run_right t d (x ∷ xs) a =
      let due = hour_due_lem year quarter name g named t d x (hour_values_within t x d a.0.within) (so2_within x a.0.within) in
      (due_says first t _ _ (right_due first _ _ due), run_right t d xs a.1)

  -- none of the 300 lines is idle
  operations_right : (xs : List ReportHour) (from : ℕ) → AllWritable year quarter xs → Rising from xs →
      RightOperations first own_period from (lines_of So2Concentration xs) (lines_of Operation xs)
  operations_right [] from a r = done
  operations_right (x ∷ xs) from a r =
      let l = hour_record year quarter name Operation x in
      let date = columns 16 8 (hour_record year quarter name So2Concentration x) in
      let w = hour_values_within Operation x (omega arith) a.0.within in
      let said = said_operating first own_period from date l x.hour
      (operation_named year quarter name g named x a.0.exists w (so2_within x a.0.within) from r.0) in
      let right = operation_right first own_period from date l said.right in
      on (rw said.operates at right.2) (rw said.hour at right.1) (operations_right xs (suc x.hour) a.1 r.1)
    where
      on : RightTime (columns 16 8 (hour_record year quarter name So2Concentration x)) (hour_record year quarter name Operation x) true →
          RightListed first own_period x.hour (hour_record year quarter name Operation x) →
          RightOperations first own_period (suc x.hour) (lines_of So2Concentration xs) (lines_of Operation xs) →
          RightOperations first own_period from (lines_of So2Concentration (x ∷ xs)) (lines_of Operation (x ∷ xs))
      on (runs d t h) w m = operating x.hour r.0 w (record { date = d; time = t; heat = h }) m

  module _ (a : AllWritable year quarter hs) (r : Rising 0 hs) (few : length hs ≤ most_hours) where
    abbrev pub own : Report
    own = record { period = own_period; shape = shape (length hs) }

    pub report_right : RightFile (report year quarter name hs) own
    unfolding written_records
    report_right =
        let said = facility_said first own_period (facility_named year quarter name g named) in
        record {
          ended = report_last;
          facility = first;
          hours = lines_of So2Concentration hs;
          nox = lines_of NoxConcentration hs;
          co2 = lines_of Co2Concentration hs;
          flow = lines_of VolumetricFlow hs;
          operations = lines_of Operation hs;
          totals = totals_record name (formed hs);
          so2_mass = lines_of So2Mass hs;
          nox_rate = lines_of NoxRate hs;
          co2_mass = lines_of Co2Mass hs;
          order = report_lines ∙ rw (append-nil (lines_of Co2Mass hs));
          right_facility = rw said.1 at (facility_right first said.0);
          right_hours = hours_right hs 0 a r;
          right_nox = run_right NoxConcentration (omega arith) hs a;
          right_co2 = run_right Co2Concentration (omega arith) hs a;
          right_flow = run_right VolumetricFlow (omega arith) hs a;
          right_operations = operations_right hs 0 a r;
          right_totals = due_says first QuarterTotals [] _ (totals_due year quarter name g named (formed hs) (totals_within year quarter hs a few));
          right_so2_mass = run_right So2Mass (omega arith) hs a;
          right_nox_rate = run_right NoxRate (omega arith) hs a;
          right_co2_mass = run_right Co2Mass (omega arith) hs a;
          hour_count = sym (length-map hs (hour_record year quarter name So2Concentration));
          operation_count = sym (length-map hs (hour_record year quarter name Operation));
        }
