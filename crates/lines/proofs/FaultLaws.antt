-- What a line without fault is like: its length, its type, and every value within its range.
use Rattle.std.specs.Prelude.{ℕ, zero, suc, ◌+◌, ◌-◌, ◌≤◌, ◌<◌, ◌≡◌, List, [], ◌∷◌, true, false, not, eqb, leb, length, take, drop, get_or}
use Rattle.std.proofs.Math.Path.{refl}
use Rattle.std.proofs.Common.{ap, ◌∙◌, arith, le_of_suc-le-suc, not-suc-le-zero, drop-drop, take-take}
use borrow.Author.Tests.{eqb-true, leb-true, eq-eqb}
use Rattle.columns.specs.Bytes.{is_blank, all}
use Rattle.columns.proofs.BytesLaws.{same_eq}
use Rattle.columns.specs.Columns.{columns}
use Rattle.columns.specs.Number.{is_empty, number_of}
use Rattle.columns.specs.declared.Field.{Field}
use Rattle.columns.specs.declared.Field.TheVariants.{Blank, Malformed, Number}
use Rattle.calendar.specs.Calendar.{most_hours, IsQuarter, hours_in_quarter}
use Rattle.calendar.specs.Calendar.{QuarterHour}
use Rattle.std.specs.Prelude.{Some as At, None as Outside}
use Rattle.layout.specs.Layout.{record_of, code_of, length_of, date_column, type_width, type_digits, values_of}
use Rattle.layout.specs.Values.{year_digits, quarter_digit, so2_ppm, no_value, Within, in_range, whole_steps, within}
use Rattle.layout.specs.LayoutLaws.{tests_within, within_true, true_in_range}
use Rattle.layout.proofs.TypeLaws.{digits_tell}
use Rattle.layout.specs.declared.RecordType.{RecordType}
use Rattle.layout.specs.declared.RecordType.TheVariants.{Facility, So2Concentration}
use Rattle.layout.specs.declared.values.Value.{Value}
use Rattle.calendar.specs.CalendarLaws.{hours_in_quarter_lem}
use Rattle.stamp.specs.StampLaws.{stamp_inside}
use Rattle.exact.specs.Faults.{unless, or_zero, unless_zero}
use Rattle.lines.specs.LineFaults.{FacilityLine}
use Rattle.lines.specs.LineFaults.{type_is, shape_fault, stack_of, common_fault, field_fault, field_in, values_fault, digits_in, period_on}
use Rattle.lines.specs.LineFaults.{facility_fault, facility_line, rising_fault, date_on, hour_on, dated_fault, hour_said, hour_fault, hour_number, hour_in, hour_line}
use Rattle.lines.specs.LineFaults.{so2_fault, Due, date_fault, gas_fault, due_fault}
use Rattle.lines.specs.FaultLaws.{ValuesFormed, ValuesRight, DueRight}
use Rattle.calendar.specs.Calendar.{Period}
use Rattle.std.specs.Prelude.{Ok as Of, Err as FaultyFacility}
use Rattle.std.specs.Prelude.{Ok as OfHour, Err as FaultyHour}

module _ (t : RecordType) (line : List ℕ) (e : shape_fault t line ≡ 0) where
  pub shape_type : type_is t line ≡ true
  unfolding shape_fault
  shape_type = unless_zero (type_is t line) 1 (or_zero (unless (type_is t line) 2) _ e).0

  pub shape_length : length line ≡ length_of t
  unfolding shape_fault
  shape_length =
      let r = (or_zero (unless (type_is t line) 2) _ e).1 in
      eqb-true _ _ (unless_zero (eqb (length line) (length_of t)) 2 (or_zero (unless (eqb (length line) (length_of t)) 3) _ r).0)

-- a line of one type is of another exactly where they have the same digits
pub type_same : (t u : RecordType) (line : List ℕ) → type_is t line ≡ true → type_is u line ≡ eqb (code_of t) (code_of u)
unfolding type_is
type_same t u line e = rw ((same_eq (take type_width line) (type_digits t)).0 e) (digits_tell t u)

-- the number in a field without fault lies in the value's range and is a multiple of its step, and a number that is both is without fault
pub field_within : (v : Value) (f : Field) → field_fault v f ≡ 0 → Within v (number_of f)
unfolding field_fault number_of
field_within v Blank e = absurd (omega arith)
field_within v Malformed e = absurd (omega arith)
field_within v (Number k) e =
    let r = or_zero (unless (in_range v k) 9) _ e in
    tests_within v k (unless_zero (in_range v k) 8 r.0) (unless_zero (whole_steps v k) 42 r.1)

pub field_right : (v : Value) (k : ℕ) → Within v k → field_fault v (Number k) ≡ 0
unfolding field_fault
field_right v k w = rw (true_in_range v k (w.least, w.most), eq-eqb _ _ w.steps)

-- so does that of a 200 line, a blank one being 0
so2_within : (f : Field) → so2_fault f ≡ 0 → Within so2_ppm (number_of f)
unfolding so2_fault number_of
so2_within Blank e = omega arith
so2_within Malformed e = absurd (omega arith)
so2_within (Number k) e = field_within so2_ppm (Number k) e

values_within : (vs : List Value) (line : List ℕ) → values_fault vs line ≡ 0 → (i : ℕ) (d : Value) → i < length vs →
    Within (get_or vs i d) (number_of (field_in (get_or vs i d) line))
unfolding values_fault
values_within [] line e i d h = absurd (not-suc-le-zero h)
values_within (v ∷ vs) line e zero d h = field_within v (field_in v line) (or_zero (field_fault v (field_in v line)) _ e).0
values_within (v ∷ vs) line e (suc i) d h = values_within vs line (or_zero (field_fault v (field_in v line)) _ e).1 i d (le_of_suc-le-suc h)

-- a value without fault is not malformed; on a 200 line it may be blank

pub field_formed : (v : Value) (f : Field) → field_fault v f ≡ 0 → f ≡ Malformed → ⊥
unfolding field_fault
field_formed v f e m = let z : field_fault v Malformed ≡ 0 = rw m at e in omega arith

so2_formed : (f : Field) → so2_fault f ≡ 0 → f ≡ Malformed → ⊥
unfolding so2_fault
so2_formed f e m = let z : so2_fault Malformed ≡ 0 = rw m at e in omega arith

all_formed : (vs : List Value) (line : List ℕ) → values_fault vs line ≡ 0 → (i : ℕ) (d : Value) → i < length vs → field_in (get_or vs i d) line ≡ Malformed → ⊥
unfolding values_fault
all_formed [] line e i d h = absurd (not-suc-le-zero h)
all_formed (v ∷ vs) line e zero d h = field_formed v (field_in v line) (or_zero (field_fault v (field_in v line)) _ e).0
all_formed (v ∷ vs) line e (suc i) d h = all_formed vs line (or_zero (field_fault v (field_in v line)) _ e).1 i d (le_of_suc-le-suc h)

pub values_formed : (t : RecordType) (line : List ℕ) → values_fault (values_of t) line ≡ 0 → ValuesFormed t line
values_formed t line e i h = all_formed (values_of t) line e i no_value h

-- a value that has no fault has none on a 200 line, and is not blank
pub so2_right : (f : Field) → field_fault so2_ppm f ≡ 0 → (so2_fault f ≡ 0) × (is_empty f ≡ false)
unfolding field_fault so2_fault is_empty
so2_right Blank e = absurd (omega arith)
so2_right Malformed e = absurd (omega arith)
so2_right (Number k) e = (e, refl)

pub values_right : (t : RecordType) (line : List ℕ) → values_fault (values_of t) line ≡ 0 → ValuesRight t line
values_right t line e i h = values_within (values_of t) line e i no_value h

-- the parts of a line's fault

module _ (facility : List ℕ) (t : RecordType) (line : List ℕ) (e : common_fault facility t line ≡ 0) where
  pub common_shape : shape_fault t line ≡ 0
  unfolding common_fault
  common_shape = (or_zero (shape_fault t line) _ e).0

module _ (line : List ℕ) (e : facility_fault line ≡ 0) where
  pub facility_shape : shape_fault Facility line ≡ 0
  unfolding facility_fault
  facility_shape = (or_zero (shape_fault Facility line) _ e).0

  facility_ranges : (unless (within year_digits (digits_in year_digits line)) 6 ≡ 0) × (unless (within quarter_digit (digits_in quarter_digit line)) 6 ≡ 0)
  unfolding facility_fault
  facility_ranges =
      or_zero (unless (within year_digits (digits_in year_digits line)) 6) _
      (or_zero (unless (not (all is_blank (stack_of line))) 5) _ (or_zero (shape_fault Facility line) _ e).1).1

  pub facility_quarter : Within quarter_digit (period_on line).quarter
  facility_quarter = within_true quarter_digit _ (unless_zero (within quarter_digit (digits_in quarter_digit line)) 5 facility_ranges.1)

module _ (facility : List ℕ) (period : Period) (t : RecordType) (from : ℕ) (line : List ℕ) (e : dated_fault facility period t from line ≡ 0) where
  dated_parts : (common_fault facility t line ≡ 0) × (rising_fault from (hour_on period t line) ≡ 0)
  unfolding dated_fault
  dated_parts = or_zero (common_fault facility t line) _ e

  pub dated_shape : shape_fault t line ≡ 0
  dated_shape = common_shape facility t line dated_parts.0

  -- its hour is not below `from`
  pub dated_from : from ≤ hour_in period t line
  unfolding rising_fault hour_number
  dated_from = go (hour_on period t line) dated_parts.1
    where
      go : (h : QuarterHour) → rising_fault from h ≡ 0 → from ≤ hour_number h
      go Outside f = absurd (omega arith)
      go (At h) f = leb-true from h (unless_zero (leb from h) 5 f)

  -- it is one that the quarter has
  pub dated_inside : hour_in period t line < hours_in_quarter period.year period.quarter
  unfolding rising_fault hour_number
  dated_inside = go (hour_on period t line) refl dated_parts.1
    where
      go : (h : QuarterHour) → hour_on period t line ≡ h → rising_fault from h ≡ 0 → hour_number h < hours_in_quarter period.year period.quarter
      go Outside k f = absurd (omega arith)
      go (At h) k f = stamp_inside period.year period.quarter (date_on t line) h k

  -- it is below the hours of any quarter, and not below `from`
  pub dated_rises : IsQuarter period.quarter → (from ≤ hour_in period t line) × (hour_in period t line < most_hours)
  dated_rises q = (dated_from, omega (arith, dated_inside, hours_in_quarter_lem period.year period.quarter q))

module _ (facility : List ℕ) (period : Period) (from : ℕ) (line : List ℕ) (e : hour_fault facility period from line ≡ 0) where
  hour_parts : (dated_fault facility period So2Concentration from line ≡ 0) × (so2_fault (field_in so2_ppm line) ≡ 0)
  unfolding hour_fault
  hour_parts = or_zero (dated_fault facility period So2Concentration from line) _ e

  pub hour_shape : shape_fault So2Concentration line ≡ 0
  hour_shape = dated_shape facility period So2Concentration from line hour_parts.0

  pub hour_values_lem : ValuesRight So2Concentration line
  hour_values_lem zero h = so2_within (field_in so2_ppm line) hour_parts.1
  hour_values_lem (suc i) h = absurd (omega arith)

  pub hour_formed : ValuesFormed So2Concentration line
  hour_formed zero h = so2_formed (field_in so2_ppm line) hour_parts.1
  hour_formed (suc i) h = absurd (omega arith)

  pub hour_from : from ≤ hour_in period So2Concentration line
  hour_from = dated_from facility period So2Concentration from line hour_parts.0

  pub hour_rises : IsQuarter period.quarter → (from ≤ hour_in period So2Concentration line) × (hour_in period So2Concentration line < most_hours)
  hour_rises = dated_rises facility period So2Concentration from line hour_parts.0

  pub hour_inside : hour_in period So2Concentration line < hours_in_quarter period.year period.quarter
  hour_inside = dated_inside facility period So2Concentration from line hour_parts.0

-- what lines 100 and 200 say, they say without fault

pub facility_said : (line : List ℕ) (period : Period) → ◌≡◌ {A = FacilityLine} (facility_line line) (Of period) → (facility_fault line ≡ 0) × (period_on line ≡ period)
unfolding facility_line
facility_said line period e = go (facility_fault line) refl e
  where
    go : (f : ℕ) → facility_fault line ≡ f → ◌≡◌ {A = FacilityLine} (elim f [ zero ↦ Of (period_on line) | suc c ↦ FaultyFacility (suc c) ]) (Of period) →
        (facility_fault line ≡ 0) × (period_on line ≡ period)
    go zero k w = (k, cc)
    go (suc c) k w = absurd (let z : ◌≡◌ {A = ℕ} 0 1 = cc in omega arith)

pub said_hour : (fault own hour : ℕ) → hour_said fault own ≡ OfHour hour → (fault ≡ 0) × (own ≡ hour)
said_hour zero own hour e = (refl, cc)
said_hour (suc c) own hour e = absurd (let z : ◌≡◌ {A = ℕ} 0 1 = cc in omega arith)

pub said_fault : (fault own number : ℕ) → hour_said fault own ≡ FaultyHour number → (fault ≡ number) × (number ≡ 0 → ⊥)
said_fault zero own number e = absurd (let z : ◌≡◌ {A = ℕ} 0 1 = cc in omega arith)
said_fault (suc c) own number e = let n : suc c ≡ number = cc in (n, (λ z. omega arith))

pub hour_said_lem : (facility : List ℕ) (period : Period) (from : ℕ) (line : List ℕ) (hour : ℕ) → hour_line facility period from line ≡ OfHour hour →
    (hour_fault facility period from line ≡ 0) × (hour_in period So2Concentration line ≡ hour)
unfolding hour_line
hour_said_lem facility period from line hour e = said_hour (hour_fault facility period from line) (hour_in period So2Concentration line) hour e

module _ (facility : List ℕ) (d : Due) (line : List ℕ) where
  pub due_right : due_fault facility d line ≡ 0 → DueRight facility d line
  unfolding due_fault
  due_right e =
      let a = or_zero (common_fault facility d.type line) _ e in
      let b = or_zero (date_fault (date_column d.type) (date_on So2Concentration d.hour) line) _ a.1 in
      let c = or_zero (gas_fault (record_of d.type).gas d.hour line) _ b.1 in
      record { common = a.0; date = b.0; gas = c.0; values = c.1 }

  pub right_due : DueRight facility d line → due_fault facility d line ≡ 0
  unfolding due_fault
  right_due r = rw (r.common, r.date, r.gas, r.values)

  pub due_shape : due_fault facility d line ≡ 0 → shape_fault d.type line ≡ 0
  due_shape e = common_shape facility d.type line (due_right e).common

-- columns of a line are columns of the file
take_drop_take : (w a m : ℕ) (l : List ℕ) → a + w ≤ m → take w (drop a (take m l)) ≡ take w (drop a l)
take_drop_take w zero m l h = take-take w m l (omega arith)
take_drop_take w (suc a) zero l h = absurd (omega arith)
take_drop_take w (suc a) (suc m) [] h = refl
take_drop_take w (suc a) (suc m) (x ∷ xs) h = take_drop_take w a m xs (omega arith)

pub columns_of_line : (file : List ℕ) (at long start width : ℕ) → 1 ≤ start → start - 1 + width ≤ long →
    columns start width (take long (drop at file)) ≡ columns (at + start) width file
unfolding columns
columns_of_line file at long start width p h =
    let e : at + (start - 1) ≡ at + start - 1 = omega arith in
    take_drop_take width (start - 1) long (drop at file) h ∙ ap (take width) (drop-drop (start - 1) at file ∙ ap (λ (n : ℕ). drop n file) e)
