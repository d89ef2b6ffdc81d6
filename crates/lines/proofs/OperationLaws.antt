-- What a 300 line without fault is like: its hour, its time, and, where it operates, its date and its heat.
use Prim.Native.Nat.{ℕ, zero, suc}
use Rattle.std.proofs.Math.Path.{◌≡◌, refl, ap}
use Rattle.std.proofs.Common.{◌∙◌}
use Rattle.std.specs.Prelude.{Ok, List, [], Bool, cond, ltb, length}
use Rattle.std.proofs.Math.Bool.{true, false}
use native.Mathlib.Omega.{arith}
use borrow.Author.Tests.{ltb-true, lt-ltb}
use Rattle.exact.specs.Faults.{or_zero, unless_zero}
use Rattle.columns.specs.Bytes.{same}
use Rattle.columns.proofs.BytesLaws.{same_eq}
use Rattle.columns.proofs.ColumnsLaws.{columns_length}
use Rattle.columns.specs.Number.{number_of}
use Rattle.columns.specs.declared.Field.{Field}
use Rattle.columns.specs.declared.Field.TheVariants.{Blank, Malformed, Number}
use Rattle.layout.specs.Layout.{date_column, date_width, values_of}
use Rattle.layout.specs.Values.{time_hours, listed_time, heat_rate}
use Rattle.layout.specs.declared.RecordType.TheVariants.{So2Concentration, Operation}
use Rattle.lines.specs.LineFaults.{shape_fault, field_fault, field_in, values_fault, date_on, rising_fault, hour_on, dated_fault, hour_in, date_fault, due_of}
use Rattle.lines.specs.LineFaults.{time_in, operates, idle_fault, operating_fault, timed_fault, operation_fault, said_of, operation_line}
use Rattle.lines.specs.FaultLaws.{ValuesFormed, DueRight}
use Rattle.lines.proofs.FaultLaws.{shape_length, field_within, field_right, field_formed, dated_shape}
use Rattle.calendar.specs.Calendar.{Period}
use Rattle.lines.specs.declared.operation.OperationLine.TheVariants.{Operating, Idle}

-- a time that is right and above 0.00 is that of an operating hour
time_right : (f : Field) → field_fault listed_time f ≡ 0 → ltb 0 (number_of f) ≡ true → field_fault time_hours f ≡ 0
unfolding field_fault number_of
time_right Blank e o = e
time_right Malformed e o = e
time_right (Number k) e o =
    let w = field_within listed_time (Number k) e in
    field_right time_hours k (record { least = ltb-true 0 k o; most = w.most; steps = w.steps })

module _ (facility : List ℕ) (period : Period) (from : ℕ) (date line : List ℕ) (e : operation_fault facility period from date line ≡ 0) where
  pub operation_dated : dated_fault facility period Operation from line ≡ 0
  unfolding operation_fault
  operation_dated = (or_zero (dated_fault facility period Operation from line) _ e).0

  pub operation_timed : timed_fault date line ≡ 0
  unfolding operation_fault
  operation_timed = (or_zero (dated_fault facility period Operation from line) _ e).1

  pub operation_shape : shape_fault Operation line ≡ 0
  operation_shape = dated_shape facility period Operation from line operation_dated

  timed_parts : (field_fault listed_time (time_in line) ≡ 0) × (cond (operates line) (operating_fault date line) (idle_fault (field_in heat_rate line)) ≡ 0)
  unfolding timed_fault
  timed_parts = or_zero (field_fault listed_time (time_in line)) _ operation_timed

  module _ (o : operates line ≡ true) where
    operating_parts : (date_fault (date_column Operation) date line ≡ 0) × (field_fault heat_rate (field_in heat_rate line) ≡ 0)
    unfolding operating_fault
    operating_parts =
        let f : operating_fault date line ≡ 0 = rw o at timed_parts.1 in
        or_zero (date_fault (date_column Operation) date line) _ f

    -- its values are those of an operating hour
    pub operating_values : values_fault (values_of Operation) line ≡ 0
    unfolding values_fault operates
    operating_values = rw (time_right (time_in line) timed_parts.0 o, operating_parts.1)

    -- it has the date that it must have, so one is left
    pub operating_date : date_on Operation line ≡ date
    unfolding date_fault
    operating_date = (same_eq _ _).0 (unless_zero (same (date_on Operation line) date) 6 operating_parts.0)

    pub operating_left : date ≡ [] → ⊥
    operating_left z =
        let l = columns_length (date_column Operation) date_width line (omega (arith, shape_length Operation line operation_shape)) in
        let n : length (date_on Operation line) ≡ 0 = ap length (operating_date ∙ z) in
        omega arith

  -- operating or idle, none of its values is malformed
  idle_formed : (f : Field) → idle_fault f ≡ 0 → f ≡ Malformed → ⊥
  unfolding idle_fault
  idle_formed f z m = let y : idle_fault Malformed ≡ 0 = rw m at z in omega arith

  heat_formed : field_in heat_rate line ≡ Malformed → ⊥
  heat_formed = go (operates line) refl
    where
      go : (b : Bool) → operates line ≡ b → field_in heat_rate line ≡ Malformed → ⊥
      go true o = field_formed heat_rate (field_in heat_rate line) (operating_parts o).1
      go false o = idle_formed (field_in heat_rate line) (rw o at timed_parts.1)

  pub operation_formed : ValuesFormed Operation line
  operation_formed zero h = field_formed listed_time (time_in line) timed_parts.0
  operation_formed (suc zero) h = heat_formed
  operation_formed (suc (suc i)) h = absurd (omega arith)

-- what it says, it says without fault
module _ (facility : List ℕ) (period : Period) (from : ℕ) (date line : List ℕ) where
  abbrev fault : ℕ
  fault = operation_fault facility period from date line

  abbrev hour : ℕ
  hour = hour_in period Operation line

  -- of an hour that operates (true) or is idle
  pub record Said (at : ℕ) (operating : Bool) : Type 0 where
    pub right : operation_fault facility period from date line ≡ 0
    pub hour : hour_in period Operation line ≡ at
    pub operates : operates line ≡ operating

  either_said : (b : Bool) → operates line ≡ b → (f : ℕ) → fault ≡ f → (at : ℕ) →
      (said_of f (cond b (Operating hour) (Idle hour)) ≡ Ok (Operating at) → Said at true)
      × (said_of f (cond b (Operating hour) (Idle hour)) ≡ Ok (Idle at) → Said at false)
  unfolding said_of
  either_said true o zero e at =
      ((λ w. record { right = e; hour = cc; operates = o }), (λ w. absurd (let z : ◌≡◌ {A = ℕ} 0 1 = cc in omega arith)))
  either_said false o zero e at =
      ((λ w. absurd (let z : ◌≡◌ {A = ℕ} 0 1 = cc in omega arith)), (λ w. record { right = e; hour = cc; operates = o }))
  either_said b o (suc c) e at =
      ((λ w. absurd (let z : ◌≡◌ {A = ℕ} 0 1 = cc in omega arith)), (λ w. absurd (let z : ◌≡◌ {A = ℕ} 0 1 = cc in omega arith)))

  pub said_operating : (at : ℕ) → operation_line facility period from date line ≡ Ok (Operating at) → Said at true
  unfolding operation_line
  said_operating at = (either_said (operates line) refl fault refl at).0

  pub said_idle : (at : ℕ) → operation_line facility period from date line ≡ Ok (Idle at) → Said at false
  unfolding operation_line
  said_idle at = (either_said (operates line) refl fault refl at).1

  -- and what has no fault, it says
  pub operation_said : fault ≡ 0 → operation_line facility period from date line ≡ Ok (cond (operates line) (Operating hour) (Idle hour))
  unfolding operation_line said_of
  operation_said e = ap (λ (f : ℕ). said_of f (cond (operates line) (Operating hour) (Idle hour))) e

-- a line of an operating hour, from what a line is tried for that is due
module _ (facility : List ℕ) (period : Period) (from : ℕ) (hour line : List ℕ) (due : DueRight facility (due_of Operation hour) line) where
  value_parts : (field_fault time_hours (time_in line) ≡ 0) × (field_fault heat_rate (field_in heat_rate line) ≡ 0)
  unfolding values_fault
  value_parts =
      let a = or_zero (field_fault time_hours (time_in line)) _ due.values in
      (a.0, (or_zero (field_fault heat_rate (field_in heat_rate line)) _ a.1).0)

  time_listed : (f : Field) → field_fault time_hours f ≡ 0 → (field_fault listed_time f ≡ 0) × (ltb 0 (number_of f) ≡ true)
  unfolding field_fault number_of
  time_listed Blank z = absurd (omega arith)
  time_listed Malformed z = absurd (omega arith)
  time_listed (Number k) z =
      let w = field_within time_hours (Number k) z in
      (field_right listed_time k (record { least = omega arith; most = w.most; steps = w.steps }), lt-ltb 0 k w.least)

  pub due_operates : operates line ≡ true
  unfolding operates
  due_operates = (time_listed (time_in line) value_parts.0).1

  pub due_operation : rising_fault from (hour_on period Operation line) ≡ 0 → operation_fault facility period from (date_on So2Concentration hour) line ≡ 0
  unfolding operation_fault dated_fault timed_fault operating_fault
  due_operation r = rw (due.common, r, (time_listed (time_in line) value_parts.0).0, due_operates, due.date, value_parts.1)
