-- The hours and totals of a written report are read back as they were recorded.
use Prim.Native.Nat.{ℕ, zero, suc, ◌+◌, ◌≤◌, ◌<◌}
use Rattle.std.specs.Prelude.{◌≡◌, true, false, not, drop}
use Rattle.std.proofs.Math.Path.{refl, sym, ap, ap₂}
use Rattle.std.proofs.Common.{subst, ◌∙◌, ⊎_elim, drop_of_length-le, drop-cons, lit≤}
use mathlib.Core.List.{List, [], ◌∷◌, ◌++◌, map}
use native.Mathlib.Omega.{arith}
use Rattle.std.proofs.Math.ListN.{length, get_or}
use Rattle.calendar.specs.Calendar.{most_hours}
use Rattle.exact.specs.Logic.{All, ranked, all_at, mapped_at}
use Rattle.exact.specs.Sums.{total_of}
use Rattle.columns.specs.Columns.{columns}
use Rattle.columns.specs.Number.{number_of}
use Rattle.stamp.specs.Stamp.{stamp_of}
use Rattle.layout.specs.Layout.{date_column, stack_width, value_count, value_at, order, earlier, count_of, bytes_of, shape}
use Rattle.layout.specs.Values.{thousands_of}
use Rattle.layout.specs.declared.RecordType.{RecordType}
use Rattle.layout.specs.declared.RecordType.TheVariants.{So2Concentration, NoxConcentration, Co2Concentration, VolumetricFlow, Operation}
use Rattle.layout.specs.declared.RecordType.TheVariants.{QuarterTotals, So2Mass, NoxRate, Co2Mass}
use Rattle.layout.specs.LayoutLaws.{thousands_back}
use Rattle.totals.proofs.TotalLaws.{quarter_hours}
use Rattle.lines.specs.Lines.{lines}
use Rattle.lines.specs.LineFaults.{type_is, field_in, operates, has_gas}
use Rattle.reading.specs.Idle.{without_idle}
use Rattle.reading.specs.IdleLaws.{kept_line}
use Rattle.reading.specs.RecordedLaws.{operation_idle, typed_idle}
use Rattle.reading.specs.Recorded.{Line, idle, lines_with, records_of, value_on, hour_count, hour_at, hours_of, totals_in, record_at}
use Rattle.reading.specs.Places.{numbered, having}
use Rattle.reading.specs.RecordLaws.{either_type, other_records, operating_records}
use Rattle.reading.specs.RunLaws.{LineRun, Typed, joined, runs_from, order_chosen, numbered_length, numbered_at, having_all}
use Rattle.sheet.specs.SheetTests.{Heading}
use Rattle.writer.specs.Recorded.{ReportHour, recorded_hours}
use Rattle.records.specs.Records.{headed, hour_values, total_values, totals_record}
use Rattle.writer.specs.Writable.{HourWritable}
use Rattle.writer.specs.Written.{hour_record, written_records, report}
use Rattle.writer.proofs.ReportLaws.{hour_records, records_count}
use Rattle.agreement.specs.Reportable.{AllWritable, AllMonitored, formed}
use Rattle.agreement.specs.RecordLaws.{framed_headed, value_back}
use Rattle.agreement.specs.HourRecordLaws.{stamped, stamped_framed, hour_date, hour_operates, no_gas}
use Rattle.agreement.specs.ReportLaws.{hour_values_within, recorded_length, totals_within, records_in, report_lines, records_typed}

abbrev no_hour : ReportHour
no_hour = record {
  hour = 0;
  recorded = record {
    time = 0;
    gas = false;
    readings = record { so2 = 0; nox = 0; co2 = 0; flow = 0; fc = 0 };
    figures = record { heat = 0; so2 = 0; nox = 0; co2 = 0 };
  };
}

module _ (year quarter : ℕ) (name : List ℕ) (g : Heading year quarter name) (named : length name ≡ stack_width) (hs : List ReportHour) where
  abbrev file : List ℕ
  file = report year quarter name hs

  abbrev records : RecordType → List (List ℕ)
  records t = written_records year quarter name hs t

  abbrev counted : (at : ℕ) (t : RecordType) → length (records t) ≡ count_of (shape (length hs)) t
  counted at t = records_count year quarter name hs named (shape (length hs)) refl t

  abbrev runs : List RecordType → ℕ → List LineRun
  runs = runs_from (λ at t. records t) (count_of (shape (length hs))) (bytes_of (shape (length hs))) counted

  runs_joined : (ts : List RecordType) (at : ℕ) → records_in year quarter name g named hs ts ≡ joined (runs ts at)
  runs_joined [] at = refl
  runs_joined (t ∷ ts) at = ap (λ (l : List (List ℕ)). records t ++ l) (runs_joined ts (at + bytes_of (shape (length hs)) t))

  runs_typed : (ts : List RecordType) (at : ℕ) → Typed (runs ts at)
  runs_typed [] at = tt
  runs_typed (t ∷ ts) at = (records_typed year quarter name g named hs t, runs_typed ts (at + bytes_of (shape (length hs)) t))

  -- the lines of a type in the report are the records that were written, and each of them is a record: the hours operate
  lines_back : (t : RecordType) → lines_with (type_is t) 1 (lines file) ≡ numbered (1 + total_of (count_of (shape (length hs))) (earlier t)) (records t)
  lines_back t =
      ap (lines_with (type_is t) 1) (report_lines year quarter name g named hs ∙ runs_joined order 0)
      ∙ order_chosen (λ at t. records t) (count_of (shape (length hs))) (bytes_of (shape (length hs))) counted t 1 0 (runs_typed order 0)

  all_operate : (xs : List ReportHour) → AllWritable year quarter xs → All (λ l. operates l ≡ true) (map (hour_record year quarter name Operation) xs)
  all_operate [] a = tt
  all_operate (x ∷ xs) a =
      let so2 = hour_values_within So2Concentration x (omega arith) a.0.within in
      (hour_operates year quarter name g named x a.0.exists (hour_values_within Operation x (omega arith) a.0.within) so2, all_operate xs a.1)

  -- none of them is idle
  none_idle : (t : RecordType) → AllWritable year quarter hs → All (λ l. idle l ≡ false) (records t)
  none_idle t a = ⊎_elim others (λ e. subst (λ u. All (λ l. idle l ≡ false) (records u)) (sym e) operating) (either_type t)
    where
      both_all : (u : RecordType) (P : List ℕ → Type 0) → ((l : List ℕ) → type_is u l ≡ true → P l → idle l ≡ false) → (ls : List (List ℕ)) →
          All (λ l. type_is u l ≡ true) ls → All P ls → All (λ l. idle l ≡ false) ls
      both_all u P f [] t p = tt
      both_all u P f (l ∷ ls) t p = (f l t.0 p.0, both_all u P f ls t.1 p.1)

      others : (t ≡ Operation → ⊥) → All (λ l. idle l ≡ false) (records t)
      others o = typed_all (records t) (records_typed year quarter name g named hs t)
        where
          typed_all : (ls : List (List ℕ)) → All (λ l. type_is t l ≡ true) ls → All (λ l. idle l ≡ false) ls
          typed_all [] a = tt
          typed_all (l ∷ ls) a = (typed_idle t o l a.0, typed_all ls a.1)

      operating : All (λ l. idle l ≡ false) (records Operation)
      operating =
          both_all Operation (λ l. operates l ≡ true) (λ l t o. operation_idle l t ∙ ap not o) (records Operation)
          (records_typed year quarter name g named hs Operation)
          (rw (hour_records year quarter name hs Operation (lit≤ tt)) (all_operate hs a))

  kept_all : (ls rest : List (List ℕ)) → All (λ l. idle l ≡ false) ls → without_idle (ls ++ rest) ≡ ls ++ without_idle rest
  kept_all [] rest a = refl
  kept_all (l ∷ ls) rest a = kept_line l (ls ++ rest) a.0 ∙ ap (λ (x : List (List ℕ)). l ∷ x) (kept_all ls rest a.1)

  kept_in : AllWritable year quarter hs → (ts : List RecordType) →
      without_idle (records_in year quarter name g named hs ts) ≡ records_in year quarter name g named hs ts
  unfolding without_idle
  kept_in a [] = refl
  kept_in a (t ∷ ts) =
      kept_all (records t) (records_in year quarter name g named hs ts) (none_idle t a) ∙ ap (λ (x : List (List ℕ)). records t ++ x) (kept_in a ts)

  -- the report lists no idle hour
  pub lists_none : AllWritable year quarter hs → without_idle (lines file) ≡ lines file
  lists_none a = let e = report_lines year quarter name g named hs in ap without_idle e ∙ kept_in a order ∙ sym e

  records_back : (t : RecordType) → AllWritable year quarter hs →
      records_of file t ≡ numbered (1 + total_of (count_of (shape (length hs))) (earlier t)) (records t)
  records_back t a = ⊎_elim (λ o. other_records file t o ∙ lines_back t) (λ e. subst Back (sym e) operating) (either_type t)
    where
      Back : RecordType → Type 0
      Back t = records_of file t ≡ numbered (1 + total_of (count_of (shape (length hs))) (earlier t)) (records t)

      operating : Back Operation
      operating =
          operating_records file
          ∙ ap (having operates) (lines_back Operation)
          ∙ having_all operates (records Operation) _ (rw (hour_records year quarter name hs Operation (lit≤ tt)) (all_operate hs a))

  -- the k-th record of a type, and its values
  text_from : (t : RecordType) (k : ℕ) → AllWritable year quarter hs → k < count_of (shape (length hs)) t → (record_at file t k).text ≡ get_or (records t) k []
  text_from t k a h =
      let c : k < length (records t) = rw (counted 0 t) h in
      rw (records_back t a, numbered_at (records t) (record { number = 0; text = [] }) k (1 + total_of (count_of (shape (length hs))) (earlier t)) c)

  value_from : (t : RecordType) (k i : ℕ) → AllWritable year quarter hs → k < count_of (shape (length hs)) t →
      value_on file t k i ≡ number_of (field_in (value_at t i) (get_or (records t) k []))
  unfolding value_on
  value_from t k i a h = ap (λ (l : List ℕ). number_of (field_in (value_at t i) l)) (text_from t k a h)

  -- of an hour
  record_of_lem : (t : RecordType) → 1 ≤ date_column t → (k : ℕ) → k < length hs → get_or (records t) k [] ≡ hour_record year quarter name t (get_or hs k no_hour)
  record_of_lem t d k h =
      ap (λ (rs : List (List ℕ)). get_or rs k []) (hour_records year quarter name hs t d) ∙ mapped_at (hour_record year quarter name t) hs no_hour [] k h

  hour_value : (t : RecordType) → 1 ≤ date_column t → (k i : ℕ) → k < length hs → k < count_of (shape (length hs)) t → i < value_count t →
      AllWritable year quarter hs →
      value_on file t k i ≡ get_or (hour_values t (get_or hs k no_hour).recorded) i 0
  unfolding number_of hour_record stamped
  hour_value t d k i h b c a =
      let x = get_or hs k no_hour in
      let w = (all_at (HourWritable year quarter) hs no_hour k a h).within in
      value_from t k i a b
      ∙ ap (λ (r : List ℕ). number_of (field_in (value_at t i) r)) (record_of_lem t d k h)
      ∙ ap number_of (value_back t (hour_values t x.recorded) (stamped year quarter name g named t d x)
      (stamped_framed year quarter name g named t d x).long (hour_values_within t x d w) i c)

  module _ (a : AllWritable year quarter hs) where
    -- an hour of the report is that of the sheet
    hour_back : AllMonitored hs → (k : ℕ) → k < length hs → hour_at file k ≡ (get_or hs k no_hour).recorded
    unfolding hour_at
    hour_back m k h =
        let value : (t : RecordType) → 1 ≤ date_column t → (i : ℕ) → k < count_of (shape (length hs)) t → i < value_count t →
        value_on file t k i ≡ get_or (hour_values t (get_or hs k no_hour).recorded) i 0 = λ t d i b c. hour_value t d k i h b c a in
        let gas = ap has_gas (text_from So2Mass k a h ∙ record_of_lem So2Mass (lit≤ tt) k h) ∙ no_gas year quarter name g named (get_or hs k no_hour) in
        λ j. record {
          time = value Operation (lit≤ tt) 0 h (omega arith) j;
          gas = (gas ∙ sym (all_at (λ (x : ReportHour). x.recorded.gas ≡ false) hs no_hour k m h)) j;
          readings = record {
            so2 = value So2Concentration (lit≤ tt) 0 h (omega arith) j;
            nox = value NoxConcentration (lit≤ tt) 0 h (omega arith) j;
            co2 = value Co2Concentration (lit≤ tt) 0 h (omega arith) j;
            flow = (ap thousands_of (value VolumetricFlow (lit≤ tt) 0 h (omega arith)) ∙ thousands_back (get_or hs k no_hour).recorded.readings.flow) j;
            fc = value NoxRate (lit≤ tt) 0 h (omega arith) j;
          };
          figures = record {
            heat = value Operation (lit≤ tt) 1 h (omega arith) j;
            so2 = value So2Mass (lit≤ tt) 0 h (omega arith) j;
            nox = value NoxRate (lit≤ tt) 1 h (omega arith) j;
            co2 = value Co2Mass (lit≤ tt) 0 h (omega arith) j;
          };
        }

    -- the 200 lines have the dates of its hours
    dates_from : (xs : List ReportHour) (number : ℕ) →
        map (λ (l : Line). columns 16 8 l.text) (numbered number (map (hour_record year quarter name So2Concentration) xs))
        ≡ map (λ (h : ReportHour). stamp_of year quarter h.hour) xs
    unfolding numbered
    dates_from [] number = refl
    dates_from (x ∷ xs) number = ap₂ ◌∷◌ (hour_date year quarter name g named So2Concentration (lit≤ tt) x) (dates_from xs (suc number))

    pub dates_back : map (λ (l : Line). columns 16 8 l.text) (records_of file So2Concentration) ≡ map (λ (h : ReportHour). stamp_of year quarter h.hour) hs
    dates_back = rw (records_back So2Concentration a, hour_records year quarter name hs So2Concentration (lit≤ tt)) (dates_from hs _)

    count_back : hour_count file ≡ length hs
    count_back = rw (records_back So2Concentration a) (numbered_length (records So2Concentration) _ ∙ counted 0 So2Concentration)

    hours_from : AllMonitored hs → (k left : ℕ) → k + left ≡ length hs → ranked (hour_at file) k left ≡ recorded_hours (drop k hs)
    unfolding ranked
    hours_from m k zero e =
        let b : length hs ≤ k = omega arith in
        rw (drop_of_length-le hs b)
    hours_from m k (suc left) e =
        let b : k < length hs = omega arith in
        rw (drop-cons hs k no_hour b) (ap₂ ◌∷◌ (hour_back m k b) (hours_from m (suc k) left (omega arith)))

    pub hours_back : AllMonitored hs → hours_of file ≡ recorded_hours hs
    unfolding hours_of
    hours_back m = rw count_back (hours_from m 0 (length hs) (omega arith))

    module _ (few : length hs ≤ most_hours) where
      total_back : (i : ℕ) → i < value_count QuarterTotals → value_on file QuarterTotals 0 i ≡ get_or (total_values (formed hs)) i 0
      unfolding number_of written_records totals_record
      total_back i b =
          value_from QuarterTotals 0 i a (omega arith)
          ∙ ap number_of (value_back QuarterTotals (total_values (formed hs)) (headed QuarterTotals name) (framed_headed QuarterTotals name named).long
          (totals_within year quarter hs a few) i b)

      pub totals_back : totals_in file ≡ formed hs
      unfolding totals_in
      totals_back =
          let n = count_back ∙ sym (recorded_length hs) ∙ sym (quarter_hours (recorded_hours hs)) in
          λ i. record {
            hours = n i;
            so2 = total_back 0 (omega arith) i;
            co2 = total_back 1 (omega arith) i;
            heat = total_back 2 (omega arith) i;
            nox = total_back 3 (omega arith) i;
            nox_tons = total_back 4 (omega arith) i;
          }
