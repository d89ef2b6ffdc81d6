-- What the crates above use of a right file: where its lines stand, that its hours rise, and that the values of its records lie in their ranges.
use Prim.Native.Nat.{ℕ, zero, suc, ◌+◌, ◌*◌, ◌≤◌, ◌<◌}
use Rattle.std.specs.Prelude.{◌≡◌, drop}
use Rattle.std.proofs.Math.Path.{refl, sym, ap}
use Rattle.std.proofs.Common.{subst, ◌∙◌}
use mathlib.Core.List.{List, [], ◌∷◌, append-nil}
use native.Mathlib.Omega.{arith}
use Rattle.std.proofs.Math.Decide.{dec_lt}
use Rattle.std.proofs.Math.Nat.{not-suc-le-zero}
use Rattle.std.proofs.Math.ListN.{length}
use Rattle.exact.specs.Fraction.{whole}
use Rattle.exact.specs.Logic.{ranked}
use Rattle.exact.specs.Sums.{total_of}
use Rattle.calendar.specs.Calendar.{IsQuarter, hours_in_quarter}
use Rattle.layout.specs.Layout.{code_of, length_of, value_count, value_at, order, count_of, line_of, offset_of, report_length, Held, shape, shape_with}
use Rattle.layout.specs.Values.{Within}
use Rattle.layout.specs.LayoutLaws.{flow_within}
use Rattle.layout.specs.declared.RecordType.{RecordType}
use Rattle.layout.specs.declared.RecordType.TheVariants.{Facility, So2Concentration, NoxConcentration, Co2Concentration, VolumetricFlow, Operation}
use Rattle.layout.specs.declared.RecordType.TheVariants.{QuarterTotals, So2Mass, NoxRate, Co2Mass}
use Rattle.layout.specs.declared.Shape.{Shape}
use Rattle.formulas.specs.Hour.{HourWithin, as_recorded}
use Rattle.formulas.proofs.FormulaLaws.{flow_exact}
use Rattle.lines.specs.Lines.{lines}
use Rattle.lines.proofs.LineLaws.{lines_at_lem}
use Rattle.lines.specs.LineFaults.{type_is, hour_in, operates}
use Rattle.lines.proofs.RightLaws.{right_shape}
use Rattle.reading.specs.Recorded.{Line, lines_with, record_at, value_on, hour_at}
use Rattle.reading.specs.Places.{Rising, lines_at, numbered, having, line_at, Standing, hour_start, hour_line_in}
use Rattle.reading.specs.RecordedLaws.{record_runs}
use Rattle.reading.specs.CleanLaws.{LineRight, line_right, due_line, run_one, run_right, RunsRight, order_line}
use Rattle.reading.specs.HoursLaws.{hours_right}
use Rattle.reading.specs.ListedLaws.{listed_right}
use Rattle.reading.specs.RecordLaws.{lines_placed, operating_records, other_stands, stands, records_standing}
use Rattle.reading.specs.RightFile.{RightFile}
use Rattle.reading.specs.declared.Report.{Report}

pub record CleanFile (file : List ℕ) (r : Report) : Type 0 where
  pub standing : Standing file r.shape
  -- the hours on the 200 lines rise within the quarter
  pub rises : Rising (hours_in_quarter r.period.year r.period.quarter) 0
      (ranked (λ (k : ℕ). hour_in r.period So2Concentration (record_at file So2Concentration k).text) 0 r.shape.hours)
  -- every value of every record lies in its range
  pub values : (t : RecordType) (k i : ℕ) → k < count_of (shape r.shape.hours) t → i < value_count t → Within (value_at t i) (value_on file t k i)

pub clean_hour : (file : List ℕ) (r : Report) → CleanFile file r → (k : ℕ) → k < r.shape.hours → HourWithin (hour_at file k)
unfolding hour_at
clean_hour file r c k h =
    let w : (t : RecordType) (i : ℕ) → k < count_of (shape r.shape.hours) t → i < value_count t → Within (value_at t i) (value_on file t k i) =
    λ t i. c.values t k i in
    record {
      time = w Operation 0 h (omega arith);
      readings = record {
        so2 = w So2Concentration 0 h (omega arith);
        nox = w NoxConcentration 0 h (omega arith);
        co2 = w Co2Concentration 0 h (omega arith);
        flow = flow_within _ (w VolumetricFlow 0 h (omega arith));
        fc = w NoxRate 0 h (omega arith);
      };
      figures = record {
        heat = w Operation 1 h (omega arith);
        so2 = w So2Mass 0 h (omega arith);
        nox = w NoxRate 1 h (omega arith);
        co2 = w Co2Mass 0 h (omega arith);
      };
    }

-- an hour's flow, read as exact, is the number on its 220 line
pub clean_flow : (file : List ℕ) (r : Report) → CleanFile file r → (k : ℕ) → k < r.shape.hours →
    (as_recorded (hour_at file k).readings).flow ≡ whole (value_on file VolumetricFlow k 0)
unfolding hour_at
clean_flow file r c k h = flow_exact (value_on file VolumetricFlow k 0) (c.values VolumetricFlow k 0 h (omega arith))

module _ (file : List ℕ) (r : Report) (x : RightFile file r) where
  abbrev own : Shape
  own = shape_with (length x.hours) (length x.operations)

  quarter : IsQuarter r.period.quarter
  quarter = let q = x.right_facility.quarters in record { least = q.0; most = q.1 }

  -- the lines of each type stand one behind the other, and the file ends with the last
  record Placed : Type 0 where
    runs : RunsRight file x.ended x.facility order own 0
    size : length file ≡ report_length own
    held : Held own
    operating : (number : ℕ) → length (having operates (numbered number (lines_at file Operation (offset_of own Operation 0) own.operations))) ≡ own.hours
    rises : Rising (hours_in_quarter r.period.year r.period.quarter) 0
        (ranked (λ (k : ℕ). hour_in r.period So2Concentration (hour_line_in file k)) 0 own.hours)

  file_over : (at : ℕ) → at ≤ length file → lines (drop at file) ≡ [] → at ≡ length file
  file_over at b e = go (dec_lt at (length file))
    where
      go : Dec (at < length file) → at ≡ length file
      go (yes h) = absurd (let f = lines_at_lem file at h in let z : ◌≡◌ {A = ℕ} 0 1 = cc in omega arith)
      go (no h) = omega arith

  placed : Placed
  unfolding RunsRight report_length total_of
  placed =
      let f = x.facility in
      let ends = x.ended in
      let hs = x.hours in
      let n = length hs in
      let only = run_one file ends f in
      let none : (i : ℕ) → i < value_count Facility → ⊥ = λ i h. not-suc-le-zero h in
      let a = line_right file ends f Facility f _ 0 x.order (right_shape Facility f x.right_facility.shaped) (λ i h. absurd (none i h))
      (λ j i h. absurd (none i h)) in
      let h = hours_right file ends f r.period quarter hs _ 0 0 x.right_hours a.1 a.2 (omega arith) in
      let z : 0 + n ≡ n = omega arith in
      let b = run_right file ends f NoxConcentration hs x.nox _ (hour_start n) x.right_nox (rw z at h.next) (rw z at h.room) in
      let c = run_right file ends f Co2Concentration hs x.co2 _ _ x.right_co2 b.1 b.2 in
      let d = run_right file ends f VolumetricFlow hs x.flow _ _ x.right_flow c.1 c.2 in
      let at : offset_of own Operation 0
      ≡ hour_start n + (length_of NoxConcentration + 1) * n + (length_of Co2Concentration + 1) * n + (length_of VolumetricFlow + 1) * n = omega arith in
      let o = listed_right file ends f r.period quarter 0 _ hs x.operations _ x.right_operations d.1 d.2 (omega arith) in
      let t = due_line file ends f QuarterTotals [] x.totals _ _ x.right_totals o.next in
      let s = run_right file ends f So2Mass hs x.so2_mass _ _ x.right_so2_mass t.1 t.2 in
      let e = run_right file ends f NoxRate hs x.nox_rate _ _ x.right_nox_rate s.1 s.2 in
      let g = run_right file ends f Co2Mass hs x.co2_mass [] _ x.right_co2_mass (e.1 ∙ sym (append-nil x.co2_mass)) e.2 in
      let v = file_over _ g.2 g.1 in
      record {
        runs = (only Facility 0 a.0, (h.each, (b.0, (c.0, (d.0, (o.each, (only QuarterTotals _ t.0, (s.0, (e.0, (g.0, tt))))))))));
        size = omega (arith, v);
        held = record { hours = omega (arith, h.most); operations = omega (arith, o.most) };
        operating = rw at o.operating;
        rises = h.rises;
      }

  lines_stand : (t : RecordType) → lines_with (type_is t) 1 (lines file) ≡ numbered (line_of own t 0) (lines_at file t (offset_of own t 0) (count_of own t))
  lines_stand = lines_placed file x.ended x.facility own placed.runs placed.size

  line_stands : (t : RecordType) (p : ℕ) → p < count_of own t → LineRight file x.ended x.facility t (offset_of own t p)
  line_stands = order_line file x.ended x.facility own placed.runs

  standing : Standing file own
  standing = record {
    size = placed.size;
    held = placed.held;
    lines = lines_stand;
    formed = λ t p h. (line_stands t p h).formed;
    operating = ap length (operating_records file ∙ ap (having operates) (lines_stand Operation)) ∙ placed.operating (line_of own Operation 0);
  }

  -- every value of a record lies in its range
  value_within : (t : RecordType) (k i : ℕ) → k < count_of (shape own.hours) t → i < value_count t → Within (value_at t i) (value_on file t k i)
  unfolding value_on
  value_within t k i b v =
      let p = stands file own standing t k b in
      let l = line_stands t p.0 p.1.inside in
      let text : (record_at file t k).text ≡ (line_at file own t p.0).text = ap (λ (y : Line). y.text) p.1.there in
      let runs = record_runs file t k (omega (arith, records_standing file own standing t)) in
      rw text (l.values (rw text at runs) i v)

  -- the hours on the 200 lines
  own_hours : (k left : ℕ) → k + left ≡ own.hours →
      ranked (λ (k : ℕ). hour_in r.period So2Concentration (record_at file So2Concentration k).text) k left
      ≡ ranked (λ (k : ℕ). hour_in r.period So2Concentration (hour_line_in file k)) k left
  unfolding ranked
  own_hours k zero e = refl
  own_hours k (suc left) e =
      let there : (record_at file So2Concentration k).text ≡ hour_line_in file k =
      ap (λ (y : Line). y.text) (other_stands file own standing So2Concentration (λ e. absurd (omega (arith, ap code_of e))) k (omega arith)).there in
      rw there (ap (λ (hs : List ℕ). hour_in r.period So2Concentration (hour_line_in file k) ∷ hs) (own_hours (suc k) left (omega arith)))

  pub clean_file : CleanFile file r
  clean_file =
      let same : own ≡ r.shape = rw (x.hour_count, x.operation_count) in
      subst (λ (s : Shape). CleanFile file (record { period = r.period; shape = s })) same (record {
        standing = standing;
        rises = rw (own_hours 0 own.hours (omega arith)) placed.rises;
        values = value_within;
      })
