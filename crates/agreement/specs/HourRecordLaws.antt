-- The written records of a report, one by one, pass the line checks.
use Prim.Native.Nat.{ℕ, zero, suc, ◌+◌, ◌-◌, ◌≤◌, ◌<◌}
use Rattle.std.specs.Prelude.{◌≡◌, Bool, length, Ok, Some}
use Rattle.std.proofs.Math.Path.{refl, ap}
use Rattle.std.proofs.Common.{◌∙◌}
use Rattle.std.proofs.Math.Bool.{true, false}
use mathlib.Core.List.{List, []}
use native.Mathlib.Omega.{arith}
use Rattle.std.proofs.Math.ListN.{get_or}
use borrow.Author.Tests.{le-leb}
use Rattle.exact.specs.Faults.{or_zero}
use Rattle.columns.specs.Bytes.{same}
use Rattle.columns.proofs.BytesLaws.{same_eq}
use Rattle.columns.specs.Columns.{columns, put}
use Rattle.columns.proofs.ColumnsLaws.{columns_byte, put_behind, columns_before, columns_back}
use Rattle.columns.specs.Number.{number_of}
use Rattle.columns.specs.Written.{digits_of, written}
use Rattle.columns.proofs.WrittenLaws.{digits_length, written_length}
use Rattle.columns.specs.Rewritten.{DigitsWritten}
use Rattle.columns.proofs.RewrittenLaws.{digits_written}
use Rattle.calendar.specs.Calendar.{hours_in_quarter}
use Rattle.layout.specs.Layout.{record_of, length_of, stack_width, date_column, date_width, gas_start, gas_word, values_of}
use Rattle.layout.specs.Values.{year_digits, quarter_digit, so2_ppm, so2_rate, Within}
use Rattle.layout.specs.LayoutLaws.{date_inside, true_within}
use Rattle.layout.proofs.TypeLaws.{gas_type}
use Rattle.stamp.specs.Stamp.{stamp_of}
use Rattle.stamp.specs.StampLaws.{stamp_length, stamp_names}
use Rattle.totals.specs.declared.Quarter.{Quarter}
use Rattle.layout.specs.declared.RecordType.{RecordType}
use Rattle.layout.specs.declared.RecordType.TheVariants.{Facility, So2Concentration, Operation, QuarterTotals, So2Mass}
use Rattle.lines.specs.LineFaults.{common_fault, field_in, values_fault, digits_in, facility_fault, facility_line, so2_fault, has_gas, so2_blank, gas_fault, date_on}
use Rattle.lines.specs.LineFaults.{rising_fault, hour_on, dated_fault, hour_fault, hour_number, hour_line, due_of, date_fault, due_fault, operates, operation_line}
use Rattle.lines.specs.FaultLaws.{DueRight}
use Rattle.lines.proofs.FaultLaws.{so2_right}
use Rattle.lines.proofs.OperationLaws.{operation_said, due_operates, due_operation}
use Rattle.calendar.specs.Calendar.{Period}
use Rattle.lines.specs.declared.operation.OperationLine.TheVariants.{Operating}
use Rattle.sheet.specs.SheetTests.{Heading}
use Rattle.writer.specs.Recorded.{ReportHour}
use Rattle.records.specs.Records.{headed, facility_record, hour_values, total_values, totals_record, valued}
use Rattle.writer.specs.Written.{hour_record}
use Rattle.records.specs.RecordLaws.{facility_printable, totals_printable}
use Rattle.writer.proofs.LineLaws.{hour_printable}
use Rattle.agreement.specs.RecordLaws.{behind_stack, Framed, framed_put, framed_headed, headed_blank, framed_shape, framed_common, framed_valued}
use Rattle.agreement.specs.RecordLaws.{ValuesWithin, front_columns, ordered, valued_before, valued_right}

-- behind date and hour stand the values
dated_front : (t : RecordType) → 1 ≤ date_column t → front_columns t ≡ date_column t - 1 + date_width
dated_front t h = go (date_column t) h
  where
    go : (c : ℕ) → 1 ≤ c → elim c [ zero ↦ behind_stack - 1 | suc d ↦ d + date_width ] ≡ c - 1 + date_width
    go zero k = absurd (omega arith)
    go (suc d) k = omega arith

module _ (year quarter : ℕ) (name : List ℕ) (g : Heading year quarter name) (named : length name ≡ stack_width) where
  abbrev pub facility : List ℕ
  facility = facility_record year quarter name

  abbrev pub period : Period
  period = record { year = year; quarter = quarter }

  pub facility_framed : Framed Facility name facility
  unfolding facility_record
  facility_framed =
      let y = digits_length year_digits.width year in
      let q = digits_length quarter_digit.width quarter in
      framed_put Facility name quarter_digit.start (digits_of quarter_digit.width quarter) _ (omega arith) (omega arith)
      (framed_put Facility name year_digits.start (digits_of year_digits.width year) (headed Facility name) (omega arith) (omega arith)
      (framed_headed Facility name named))

  -- year and quarter are written into it, one after the other
  abbrev with_year : List ℕ
  with_year = put year_digits.start (digits_of year_digits.width year) (headed Facility name)

  year_written : DigitsWritten year_digits.start year_digits.width year (headed Facility name) with_year
  year_written =
      digits_written year_digits.start year_digits.width (headed Facility name) (omega (arith, (framed_headed Facility name named).long)) year

  with_year_long : length with_year ≡ length_of Facility
  with_year_long = year_written.only.long ∙ (framed_headed Facility name named).long

  quarter_written : DigitsWritten quarter_digit.start quarter_digit.width quarter with_year facility
  unfolding facility_record
  quarter_written = digits_written quarter_digit.start quarter_digit.width with_year (omega (arith, with_year_long)) quarter

  year_read : digits_in year_digits facility ≡ year
  unfolding digits_in number_of facility_record
  year_read =
      rw (columns_before quarter_digit.start (digits_of quarter_digit.width quarter) with_year (omega (arith, quarter_written.wide, with_year_long))
      year_digits.start year_digits.width (omega arith))
      (ap number_of (year_written.back.0 (omega (arith, g.year_within.most))))

  quarter_read : digits_in quarter_digit facility ≡ quarter
  unfolding digits_in number_of
  quarter_read = ap number_of (quarter_written.back.0 (omega (arith, g.is_quarter.most)))

  facility_right : facility_fault facility ≡ 0
  unfolding facility_fault
  facility_right =
      let q : Within quarter_digit quarter = record { least = g.is_quarter.least; most = g.is_quarter.most; steps = omega arith } in
      rw (
        framed_shape Facility name facility facility_framed (facility_printable name g.printable year quarter),
        facility_framed.stack,
        g.named,
        year_read,
        quarter_read,
        true_within year_digits year g.year_within,
        true_within quarter_digit quarter q,
      )

  pub facility_named : facility_line facility ≡ Ok period
  unfolding facility_line
  facility_named = rw (facility_right, facility_line) (λ i. Ok (record { year = year_read i; quarter = quarter_read i }))

  -- a record of an hour, of a type that has a date
  module _ (t : RecordType) (dated : 1 ≤ date_column t) (h : ReportHour) where
    abbrev line : List ℕ
    line = hour_record year quarter name t h

    unfoldable pub stamped : List ℕ
    stamped = put (date_column t) (stamp_of year quarter h.hour) (headed t name)

    pub stamped_framed : Framed t name stamped
    unfolding stamped
    stamped_framed =
        let d = date_inside t dated in
        framed_put t name (date_column t) (stamp_of year quarter h.hour) (headed t name) (omega arith)
        (omega (arith, stamp_length year quarter h.hour)) (framed_headed t name named)

    pub hour_framed : Framed t name line
    unfolding hour_record stamped
    hour_framed = framed_valued t name (hour_values t h.recorded) stamped stamped_framed

    pub hour_date : columns (date_column t) date_width line ≡ stamp_of year quarter h.hour
    unfolding hour_record stamped
    hour_date =
        let d = date_inside t dated in
        valued_before (front_columns t) (length_of t) (values_of t) (hour_values t h.recorded) stamped (date_column t) date_width (ordered t)
        stamped_framed.long
        (omega (arith, dated_front t dated))
        ∙ columns_back (date_column t) date_width (stamp_of year quarter h.hour) (headed t name) (stamp_length year quarter h.hour)
        (omega (arith, (framed_headed t name named).long))

    hour_common : common_fault facility t line ≡ 0
    hour_common = framed_common t name facility line facility_framed.stack hour_framed (hour_printable name g.printable year quarter t h)

    module _ (a : ValuesWithin (values_of t) (hour_values t h.recorded)) where
      hour_values_lem : values_fault (values_of t) line ≡ 0
      unfolding hour_record stamped
      hour_values_lem = valued_right t (hour_values t h.recorded) stamped stamped_framed.long a

      date_right : date_fault (date_column t) (stamp_of year quarter h.hour) line ≡ 0
      unfolding date_fault
      date_right = go (date_column t) dated hour_date
        where
          go : (c : ℕ) → 1 ≤ c → columns c date_width line ≡ stamp_of year quarter h.hour → date_fault c (stamp_of year quarter h.hour) line ≡ 0
          go zero k e = absurd (omega arith)
          go (suc c) k e = rw ((same_eq (columns (suc c) date_width line) (stamp_of year quarter h.hour)).1 e)

  -- a written 200 line has a value, and a written 310 line no GAS
  module _ (h : ReportHour) where
    gas_column : get_or (hour_record year quarter name So2Mass h) (gas_start - 1) 0 ≡ 32
    unfolding hour_record stamped valued
    gas_column =
        let s = (stamped_framed So2Mass (omega arith) h).long in
        let w = written_length so2_rate.width so2_rate.decimals h.recorded.figures.so2 (omega arith) in
        put_behind so2_rate.start (written so2_rate.width so2_rate.decimals h.recorded.figures.so2) (stamped So2Mass (omega arith) h)
        (omega arith) (gas_start - 1) (omega arith)
        ∙ put_behind (date_column So2Mass) (stamp_of year quarter h.hour) (headed So2Mass name)
        (omega (arith, stamp_length year quarter h.hour, (framed_headed So2Mass name named).long)) (gas_start - 1)
        (omega (arith, stamp_length year quarter h.hour))
        ∙ headed_blank So2Mass name named (gas_start - 1) (omega arith) (omega arith)

    pub no_gas : has_gas (hour_record year quarter name So2Mass h) ≡ false
    unfolding has_gas
    no_gas = go (same (columns gas_start (length gas_word) (hour_record year quarter name So2Mass h)) gas_word) refl
      where
        go : (b : Bool) → same (columns gas_start (length gas_word) (hour_record year quarter name So2Mass h)) gas_word ≡ b → b ≡ false
        go true e =
            let w = (same_eq (columns gas_start (length gas_word) (hour_record year quarter name So2Mass h)) gas_word).0 e in
            let c = columns_byte gas_start (length gas_word) (hour_record year quarter name So2Mass h) 0 (omega arith) in
            absurd (omega (arith, c, gas_column, ap (λ (l : List ℕ). get_or l 0 0) w))
        go false e = refl

    module _ (a : ValuesWithin (values_of So2Concentration) (hour_values So2Concentration h.recorded)) where
      hour_so2 : (so2_fault (field_in so2_ppm (hour_record year quarter name So2Concentration h)) ≡ 0)
          × (so2_blank (hour_record year quarter name So2Concentration h) ≡ false)
      unfolding values_fault so2_blank
      hour_so2 = so2_right _ (or_zero _ _ (hour_values_lem So2Concentration (omega arith) h a)).0

      gas_right : (t : RecordType) (gas : Bool) → (record_of t).gas ≡ gas →
          gas_fault gas (hour_record year quarter name So2Concentration h) (hour_record year quarter name t h) ≡ 0
      unfolding gas_fault
      gas_right t false e = refl
      gas_right t true e = rw (gas_type t e, no_gas, hour_so2.1)

  -- by the 200 line of its hour
  module _ (t : RecordType) (dated : 1 ≤ date_column t) (h : ReportHour) (a : ValuesWithin (values_of t) (hour_values t h.recorded))
      (b : ValuesWithin (values_of So2Concentration) (hour_values So2Concentration h.recorded)) where
    pub hour_due_lem : DueRight facility (due_of t (hour_record year quarter name So2Concentration h)) (hour_record year quarter name t h)
    hour_due_lem = record {
      common = hour_common t dated h;
      date = rw (hour_date So2Concentration (omega arith) h) (date_right t dated h a);
      gas = gas_right h b t (record_of t).gas refl;
      values = hour_values_lem t dated h a;
    }

  -- the 200 line and the 300 line of an hour that may follow
  module _ (h : ReportHour) (b : h.hour < hours_in_quarter year quarter) where
    named_hour : (t : RecordType) → 1 ≤ date_column t → hour_on period t (hour_record year quarter name t h) ≡ Some h.hour
    named_hour t d = rw (hour_date t d h) (stamp_names year quarter g.is_quarter h.hour b)

    hour_rises : (t : RecordType) → 1 ≤ date_column t → (from : ℕ) → from ≤ h.hour → rising_fault from (hour_on period t (hour_record year quarter name t h)) ≡ 0
    unfolding rising_fault
    hour_rises t d from f = rw (named_hour t d, le-leb from h.hour f)

    module _ (a : ValuesWithin (values_of So2Concentration) (hour_values So2Concentration h.recorded)) where
      hour_right : (from : ℕ) → from ≤ h.hour → hour_fault facility period from (hour_record year quarter name So2Concentration h) ≡ 0
      unfolding hour_fault dated_fault
      hour_right from f =
          rw (hour_common So2Concentration (omega arith) h, hour_rises So2Concentration (omega arith) from f) (hour_so2 h a).0

      pub hour_named : (from : ℕ) → from ≤ h.hour → hour_line facility period from (hour_record year quarter name So2Concentration h) ≡ Ok h.hour
      unfolding hour_line hour_number
      hour_named from f = rw (hour_right from f, hour_line) (ap (λ x. Ok (hour_number x)) (named_hour So2Concentration (omega arith)))

    module _ (a : ValuesWithin (values_of Operation) (hour_values Operation h.recorded))
        (so2 : ValuesWithin (values_of So2Concentration) (hour_values So2Concentration h.recorded)) where
      pub hour_operates : operates (hour_record year quarter name Operation h) ≡ true
      hour_operates =
          due_operates facility period 0 (hour_record year quarter name So2Concentration h) (hour_record year quarter name Operation h)
          (hour_due_lem Operation (omega arith) h a so2)

      pub operation_named : (from : ℕ) → from ≤ h.hour →
          operation_line facility period from (date_on So2Concentration (hour_record year quarter name So2Concentration h))
          (hour_record year quarter name Operation h)
          ≡ Ok (Operating h.hour)
      unfolding hour_number
      operation_named from f =
          let l = hour_record year quarter name Operation h in
          let hour = hour_record year quarter name So2Concentration h in
          operation_said facility period from (date_on So2Concentration hour) l
          (due_operation facility period from hour l (hour_due_lem Operation (omega arith) h a so2) (hour_rises Operation (omega arith) from f))
          ∙ rw (hour_operates) (ap (λ x. Ok (Operating (hour_number x))) (named_hour Operation (omega arith)))

  module _ (q : Quarter) where
    pub totals_framed : Framed QuarterTotals name (totals_record name q)
    unfolding totals_record
    totals_framed = framed_valued QuarterTotals name (total_values q) (headed QuarterTotals name) (framed_headed QuarterTotals name named)

    pub totals_due : ValuesWithin (values_of QuarterTotals) (total_values q) → due_fault facility (due_of QuarterTotals []) (totals_record name q) ≡ 0
    unfolding due_fault date_fault gas_fault totals_record
    totals_due a =
        rw (framed_common QuarterTotals name facility (totals_record name q) facility_framed.stack totals_framed (totals_printable name g.printable q))
        (valued_right QuarterTotals (total_values q) (headed QuarterTotals name) (framed_headed QuarterTotals name named).long a)
