-- What lines 100, 200 and 300 say, from what their tests found.
use Prim.Native.Nat.{ℕ, zero, suc}
use mathlib.Core.Path.{◌≡◌, refl, sym, ap, ◌∙◌}
use mathlib.Core.List.{List}
use mathlib.Core.Bool.{Bool, true, false, cond, not}
use native.Mathlib.Omega.{arith}
use borrow.Author.Tests.{lt-ltb, le-ltb}
use lib.ListN.{length, take}
use Rattle.std.specs.Prelude.{Ok, Err, ◌<◌}
use Rattle.exact.specs.Faults.{◌or_else◌, unless, or_next, or_none}
use Rattle.columns.specs.Bytes.{is_blank, all}
use Rattle.columns.specs.Columns.{columns}
use Rattle.columns.specs.Number.{number_of}
use Rattle.columns.specs.declared.Field.{Field}
use Rattle.calendar.specs.Calendar.{QuarterHour}
use Rattle.layout.specs.Layout.{length_of, date_column, date_width}
use Rattle.layout.specs.Values.{year_digits, quarter_digit, so2_ppm, listed_time, heat_rate, within}
use Rattle.layout.specs.declared.RecordType.{RecordType}
use Rattle.layout.specs.declared.RecordType.TheVariants.{Facility, So2Concentration, Operation}
use Rattle.stamp.specs.Stamp.{stamp_hour}
use Rattle.refusals.specs.Refusals.{fault_number}
use Rattle.refusals.specs.declared.Fault.{Fault}
use Rattle.refusals.specs.declared.Fault.TheVariants as fault
use Rattle.lines.specs.Lines.{first_line}
use Rattle.lines.specs.LineFaults.{shape_fault, stack_of, common_fault, field_fault, field_in}
use Rattle.lines.specs.LineFaults.{digits_in, period_on, FacilityLine, facility_fault, facility_line}
use Rattle.lines.specs.LineFaults.{rising_fault, hour_on, hour_number, hour_in, dated_fault, hour_said, dated_line, so2_fault, hour_fault, hour_line}
use Rattle.lines.specs.LineFaults.{time_in, operates, idle_fault, operating_fault, timed_fault, operation_fault, said_of, operation_of, operation_line}
use Rattle.lines.specs.Beginning.{stamped_line, operating_at}
use Rattle.calendar.specs.Calendar.{Period}
use Rattle.lines.specs.declared.operation.OperationLine.{OperationLine}
use Rattle.lines.specs.declared.operation.OperationLine.TheVariants.{Operating, Idle}
use Rattle.lines.proofs.FaultLaws.{said_hour, said_fault, dated_shape}
use Rattle.lines.proofs.Shapes.{line_known, line_length_lem}
use Rattle.lines.proofs.Told.{some_fault, first_told, hour_told, operation_told}

-- line 100

module _ (line : List ℕ) where
  says : ℕ → FacilityLine
  says f = elim f [ zero ↦ Ok (period_on line) | suc c ↦ Err (suc c) ]

  found : (e : Fault) (f : ℕ) → fault_number e ≡ f → Err (fault_number e) ≡ says f
  unfolding says
  found e zero k = absurd (some_fault e k)
  found e (suc c) k = ap Err k

  faulty : (e : Fault) → fault_number e ≡ facility_fault line → Err (fault_number e) ≡ facility_line line
  unfolding facility_line says
  faulty e k = found e (facility_fault line) k

  pub facility_of_lem : facility_fault line ≡ 0 → Ok (period_on line) ≡ facility_line line
  unfolding facility_line says
  facility_of_lem e = sym (ap says e)

  pub shapeless : (e : Fault) → fault_number e ≡ shape_fault Facility line → Err (fault_number e) ≡ facility_line line
  unfolding facility_fault
  shapeless e k = faulty e (first_told e _ _ k)

-- once its shape is right
module _ (rest : List ℕ) (fine : 0 ≡ shape_fault Facility (first_line rest)) where
  abbrev line : List ℕ
  line = take (length_of Facility) rest

  known : first_line rest ≡ line
  known = line_known Facility rest (sym fine) (length_of Facility) refl

  pub facility_long : length line ≡ length_of Facility
  facility_long = line_length_lem Facility rest (sym fine) (length_of Facility) refl

  -- the tests behind it
  tests : (blank year quarter : Bool) → blank ≡ all is_blank (stack_of line) →
      year ≡ within year_digits (digits_in year_digits line) → quarter ≡ within quarter_digit (digits_in quarter_digit line) →
      unless (not blank) 5 or_else unless year 6 or_else unless quarter 6 ≡ facility_fault (first_line rest)
  unfolding facility_fault
  tests blank year quarter b y q = rw (← fine, known, ← b, ← y, ← q)

  pub no_stack : true ≡ all is_blank (stack_of line) → Err 5 ≡ facility_line (first_line rest)
  no_stack b = faulty (first_line rest) fault.Stack (tests true _ _ b refl refl)

  module _ (b : false ≡ all is_blank (stack_of line)) (y : ℕ) (e : y ≡ digits_in year_digits line) where
    pub no_year : false ≡ within year_digits y → Err 6 ≡ facility_line (first_line rest)
    no_year w = faulty (first_line rest) fault.Period (tests false false _ b (w ∙ ap (within year_digits) e) refl)

    module _ (w : true ≡ within year_digits y) (q : ℕ) (g : q ≡ digits_in quarter_digit line) where
      pub no_quarter : false ≡ within quarter_digit q → Err 6 ≡ facility_line (first_line rest)
      no_quarter v = faulty (first_line rest) fault.Period (tests false true false b (w ∙ ap (within year_digits) e) (v ∙ ap (within quarter_digit) g))

      pub facility_read : true ≡ within quarter_digit q → Ok (record { year = y; quarter = q }) ≡ facility_line (first_line rest)
      facility_read v =
          rw (e, g, ← known)
          (facility_of_lem (first_line rest) (sym (tests false true true b (w ∙ ap (within year_digits) e) (v ∙ ap (within quarter_digit) g))))

pub ruleset facility_tests = (shapeless, facility_long, no_stack, no_year, no_quarter, facility_read)

-- a line of a type with a date

module _ (facility : List ℕ) (period : Period) (t : RecordType) (from : ℕ) (line : List ℕ) where
  pub dated_told : (e : Fault) → fault_number e ≡ common_fault facility t line → Err (fault_number e) ≡ dated_line facility period t from line
  unfolding dated_line dated_fault
  dated_told e k = hour_told e _ (hour_in period t line) (first_told e _ _ k)

  -- behind the tests that every line has, its hour alone is left to try
  pub stamped_dated : 0 ≡ common_fault facility t line → stamped_line period t from line ≡ dated_line facility period t from line
  unfolding stamped_line dated_line dated_fault
  stamped_dated s = rw (← s)

  -- what it says
  dated_at : (hour : ℕ) → Ok hour ≡ dated_line facility period t from line → (dated_fault facility period t from line ≡ 0) × (hour_in period t line ≡ hour)
  unfolding dated_line
  dated_at hour e = said_hour (dated_fault facility period t from line) (hour_in period t line) hour (sym e)

  dated_not : (number : ℕ) → Err number ≡ dated_line facility period t from line → number ≡ dated_fault facility period t from line
  unfolding dated_line
  dated_not number e = sym (said_fault (dated_fault facility period t from line) (hour_in period t line) number (sym e)).0

-- an hour that was read on a line that has no fault so far
module _ (t : RecordType) (period : Period) (from : ℕ) (rest : List ℕ) (fine : shape_fault t (first_line rest) ≡ 0) where
  pub stamped_read : (long column : ℕ) → long ≡ length_of t → column ≡ date_column t → (hour : QuarterHour) →
      hour ≡ stamp_hour period.year period.quarter (columns column date_width (take long rest)) →
      hour_said (rising_fault from hour) (hour_number hour) ≡ stamped_line period t from (first_line rest)
  unfolding stamped_line
  stamped_read long column l d hour e = rw (line_known t rest fine long l, e, d)

-- a line whose hour is known, so far without fault: it is as long as its type's lines are
pub record Dated (facility : List ℕ) (period : Period) (t : RecordType) (from : ℕ) (rest : List ℕ) (hour : ℕ) : Type 0 where
  pub none : dated_fault facility period t from (first_line rest) ≡ 0
  pub own : hour_in period t (first_line rest) ≡ hour
  pub known : first_line rest ≡ take (length_of t) rest
  pub long : length (take (length_of t) rest) ≡ length_of t

pub dated_known : (facility : List ℕ) (period : Period) (t : RecordType) (from : ℕ) (rest : List ℕ) (hour : ℕ) →
    Ok hour ≡ dated_line facility period t from (first_line rest) → Dated facility period t from rest hour
dated_known facility period t from rest hour e =
    let said = dated_at facility period t from (first_line rest) hour e in
    let fine = dated_shape facility period t from (first_line rest) said.0 in
    record { none = said.0; own = said.1; known = line_known t rest fine (length_of t) refl; long = line_length_lem t rest fine (length_of t) refl }

-- a 200 line, from its fault
pub hour_of_lem : (facility : List ℕ) (period : Period) (from : ℕ) (line : List ℕ) → hour_fault facility period from line ≡ 0 →
    Ok (hour_in period So2Concentration line) ≡ hour_line facility period from line
unfolding hour_line
hour_of_lem facility period from line e = sym (ap (λ (f : ℕ). hour_said f (hour_in period So2Concentration line)) e)

-- and test by test
module _ (facility : List ℕ) (period : Period) (from : ℕ) (rest : List ℕ) where
  pub hour_undated : (e : Fault) → Err (fault_number e) ≡ dated_line facility period So2Concentration from (first_line rest) →
      Err (fault_number e) ≡ hour_line facility period from (first_line rest)
  unfolding hour_line hour_fault
  hour_undated e k = hour_told e _ _ (first_told e _ _ (dated_not facility period So2Concentration from (first_line rest) _ k))

  -- behind its hour
  module _ (hour : ℕ) (d : Dated facility period So2Concentration from rest hour) where
    pub hour_valued : (f : ℕ) → f ≡ so2_fault (field_in so2_ppm (take (length_of So2Concentration) rest)) →
        hour_said f hour ≡ hour_line facility period from (first_line rest)
    unfolding hour_line hour_fault
    hour_valued f e = rw (or_next _ (so2_fault (field_in so2_ppm (first_line rest))) d.none, d.own, d.known, e)

-- a 300 line of an operating hour, of which its hour alone is left to try
module _ (period : Period) (from : ℕ) (line : List ℕ) where
  pub operating_not : (e : Fault) → Err (fault_number e) ≡ stamped_line period Operation from line → Err (fault_number e) ≡ operating_at period from line
  unfolding stamped_line operating_at
  operating_not e k = operation_told e _ _ (sym (said_fault (rising_fault from (hour_on period Operation line)) (hour_in period Operation line) _ (sym k)).0)

  pub operating_of : (hour : ℕ) → Ok hour ≡ stamped_line period Operation from line → Ok (Operating hour) ≡ operating_at period from line
  unfolding stamped_line operating_at said_of
  operating_of hour k =
      let e = said_hour (rising_fault from (hour_on period Operation line)) (hour_in period Operation line) hour (sym k) in
      rw (e.0, e.1)

-- it is then what the line says
pub stamped_operation : (facility : List ℕ) (period : Period) (from : ℕ) (date line : List ℕ) → common_fault facility Operation line ≡ 0 →
    operates line ≡ true → timed_fault date line ≡ 0 →
    operating_at period from line ≡ operation_line facility period from date line
unfolding operating_at operation_line operation_fault dated_fault
stamped_operation facility period from date line s o v =
    let alone = or_none (rising_fault from (hour_on period Operation line)) (timed_fault date line) v in
    rw (s, o) (ap (λ (f : ℕ). said_of f (Operating (hour_in period Operation line))) (sym alone))

-- behind its hour, the time of a 300 line
module _ (date line : List ℕ) (hour : ℕ) (time : Field) (own : time ≡ time_in line) where
  pub timeless : (e : Fault) → fault_number e ≡ field_fault listed_time time → Err (fault_number e) ≡ operation_of (timed_fault date line) hour line
  unfolding timed_fault
  timeless e k = operation_told e _ _ (first_told e _ _ (k ∙ ap (field_fault listed_time) own))

  -- and behind a time without fault: an idle hour, and one that operates
  module _ (right : 0 ≡ field_fault listed_time time) where
    by_time : (b : Bool) (f : ℕ) (answer : OperationLine) → operates line ≡ b →
        cond b (operating_fault date line) (idle_fault (field_in heat_rate line)) ≡ f →
        cond b (Operating hour) (Idle hour) ≡ answer → said_of f answer ≡ operation_of (timed_fault date line) hour line
    unfolding timed_fault
    by_time b f answer o e g = rw (or_next _ _ (ap (field_fault listed_time) (sym own) ∙ sym right), o, e, g)

    pub idle_told : number_of time ≡ 0 → (heat : Field) → heat ≡ field_in heat_rate line → (f : ℕ) → f ≡ idle_fault heat →
        said_of f (Idle hour) ≡ operation_of (timed_fault date line) hour line
    unfolding operates
    idle_told z heat h f e =
        by_time false f (Idle hour) (le-ltb 0 (number_of (time_in line)) (omega (arith, z, ap number_of own))) (sym (e ∙ ap idle_fault h)) refl

    pub operating_told : 0 < number_of time → (f : ℕ) → f ≡ operating_fault date line →
        said_of f (Operating hour) ≡ operation_of (timed_fault date line) hour line
    unfolding operates
    operating_told p f e = by_time true f (Operating hour) (lt-ltb 0 (number_of (time_in line)) (omega (arith, p, ap number_of own))) (sym e) refl

-- a 300 line, by its hour
module _ (facility : List ℕ) (period : Period) (from : ℕ) (date rest : List ℕ) where
  pub operation_undated : (e : Fault) → Err (fault_number e) ≡ dated_line facility period Operation from (first_line rest) →
      Err (fault_number e) ≡ operation_line facility period from date (first_line rest)
  unfolding operation_line operation_fault
  operation_undated e k = operation_told e _ _ (first_told e _ _ (dated_not facility period Operation from (first_line rest) _ k))

  pub operation_behind : (hour : ℕ) → Dated facility period Operation from rest hour →
      let line = take (length_of Operation) rest in operation_of (timed_fault date line) hour line ≡ operation_line facility period from date (first_line rest)
  unfolding operation_line operation_fault
  operation_behind hour d = rw (← d.known, or_next _ _ d.none, d.own)
