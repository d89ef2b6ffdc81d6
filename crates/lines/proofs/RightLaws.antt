-- The lines without fault are the right ones. RightLine.antt says what a right line is.
use Prim.Native.Nat.{ℕ, ◌≤◌}
use Rattle.std.specs.Prelude.{◌≡◌, ◌↔◌, ◌⊎◌, Bool, eqb, leb, ltb, take}
use Rattle.std.proofs.Math.Path.{refl, ap}
use Rattle.std.proofs.Common.{sym, ◌∙◌}
use Rattle.std.proofs.Math.Logic.{inl, inr, ⊎_elim}
use mathlib.Core.List.{List, [], ◌∷◌}
use Rattle.std.proofs.Math.Bool.{true, false, cond, not, false≢true}
use native.Mathlib.Omega.{arith}
use Rattle.std.proofs.Math.ListN.{length}
use borrow.Author.Tests.{eq-eqb, leb-true, le-leb, ltb-false, lt-ltb, not-true}
use Rattle.exact.specs.Logic.{All, agree, agreed}
use Rattle.exact.specs.Faults.{unless, or_zero, unless_zero}
use Rattle.columns.specs.Bytes.{is_blank, is_printable, all, same}
use Rattle.columns.proofs.BytesLaws.{same_eq}
use Rattle.columns.specs.Columns.{columns}
use Rattle.columns.specs.Number.{digits_only, is_empty, number_of}
use Rattle.columns.proofs.NumberLaws.{field_blank}
use Rattle.columns.proofs.EachLaws.{printable_says, says_printable, blank_says, says_blank}
use Rattle.columns.proofs.FormatLaws.{digits_only_lem, in_format}
use Rattle.columns.specs.Written.{digits_of}
use Rattle.columns.specs.declared.Field.{Field}
use Rattle.columns.specs.declared.Field.TheVariants.{Blank, Malformed, Number}
use Rattle.calendar.specs.Calendar.{QuarterHour}
use Rattle.std.specs.Prelude.{Some as At, None as Outside}
use Rattle.layout.specs.Layout.{record_of, type_width, type_digits, length_of, date_column, values_of, gas_word}
use Rattle.layout.specs.Values.{year_digits, quarter_digit, so2_ppm, time_hours, listed_time, heat_rate, Within, within}
use Rattle.layout.specs.LayoutLaws.{within_true, true_within}
use Rattle.layout.proofs.TypeLaws.{gas_type}
use Rattle.layout.specs.declared.RecordType.{RecordType}
use Rattle.layout.specs.declared.RecordType.TheVariants.{Facility, So2Concentration, NoxConcentration, Co2Concentration, VolumetricFlow}
use Rattle.layout.specs.declared.RecordType.TheVariants.{Operation, QuarterTotals, So2Mass, NoxRate, Co2Mass}
use Rattle.layout.specs.declared.values.Value.{Value}
use Rattle.stamp.specs.Stamp.{stamp_hour}
use Rattle.stamp.specs.StampLaws.{stamp_says, says_stamp}
use Rattle.lines.specs.LineFaults.{type_is, shape_fault, stack_of, stack_fault, common_fault, field_fault, field_in, values_fault, digits_in, period_on}
use Rattle.lines.specs.LineFaults.{facility_fault, rising_fault, date_on, hour_on, dated_fault, hour_number, hour_in, so2_fault, hour_fault}
use Rattle.lines.specs.LineFaults.{due_of, date_fault, has_gas, so2_blank, gas_fault, due_fault, time_in, operates, idle_fault, operating_fault, timed_fault}
use Rattle.lines.specs.LineFaults.{operation_fault}
use Rattle.lines.proofs.DateLaws.{date_says, says_date}
use Rattle.lines.proofs.FaultLaws.{shape_type, shape_length, field_within, field_right, due_right, right_due}
use Rattle.lines.proofs.OperationLaws.{operating_values, operating_date}
use Rattle.lines.specs.RightLine.{operating_time, PaperRow, paper_row, Shaped, Headed, Reads, RightValue, BlankIn, RightFacility, RightDate, RightHour, RightDue, RightListed, Idles}
use Rattle.calendar.specs.Calendar.{Period}

-- the layout has the paper's rows

abbrev layout_row : RecordType → PaperRow
layout_row t = record { type = type_digits t; long = length_of t; date = date_column t; values = values_of t }

pub paper_row_lem : (t : RecordType) → paper_row t ≡ layout_row t
unfolding digits_of
paper_row_lem Facility = refl
paper_row_lem So2Concentration = refl
paper_row_lem NoxConcentration = refl
paper_row_lem Co2Concentration = refl
paper_row_lem VolumetricFlow = refl
paper_row_lem Operation = refl
paper_row_lem QuarterTotals = refl
paper_row_lem So2Mass = refl
paper_row_lem NoxRate = refl
paper_row_lem Co2Mass = refl

-- type, length, bytes and stack name

module _ (t : RecordType) (line : List ℕ) where
  pub type_right : type_is t line ≡ true → take 3 line ≡ (paper_row t).type
  unfolding type_is
  type_right e = rw (paper_row_lem t) ((same_eq (take type_width line) (type_digits t)).0 e)

  pub right_type : take 3 line ≡ (paper_row t).type → type_is t line ≡ true
  unfolding type_is
  right_type e = (same_eq (take type_width line) (type_digits t)).1 (rw (paper_row_lem t) at e)

  pub shape_right : shape_fault t line ≡ 0 → Shaped t line
  unfolding shape_fault
  shape_right e =
      let r = (or_zero (unless (type_is t line) 2) _ e).1 in
      let p = (or_zero (unless (eqb (length line) (length_of t)) 3) _ r).1 in
      record {
        type = type_right (shape_type t line e);
        long = rw (paper_row_lem t) (shape_length t line e);
        printable = printable_says line (unless_zero (all is_printable line) 3 p);
      }

  pub right_shape : Shaped t line → shape_fault t line ≡ 0
  unfolding shape_fault
  right_shape s =
      let long : length line ≡ length_of t = rw (paper_row_lem t) at s.long in
      rw (right_type s.type, eq-eqb _ _ long, says_printable line s.printable)

  module _ (facility : List ℕ) where
    pub common_right : common_fault facility t line ≡ 0 → Headed facility t line
    unfolding common_fault stack_fault
    common_right e =
        let s = or_zero (shape_fault t line) _ e in
        record { shaped = shape_right s.0; stack = (same_eq _ _).0 (unless_zero (same (stack_of line) (stack_of facility)) 4 s.1) }

    pub right_common : Headed facility t line → common_fault facility t line ≡ 0
    unfolding common_fault stack_fault
    right_common h = rw (right_shape h.shaped, (same_eq (stack_of line) (stack_of facility)).1 h.stack)

-- a value

pub reads_field : (v : Value) (line : List ℕ) (k : ℕ) → Reads v line k → field_in v line ≡ Number k
reads_field v line k r = (in_format v.decimals _ k).1 r

pub field_reads : (v : Value) (line : List ℕ) (k : ℕ) → field_in v line ≡ Number k → Reads v line k
field_reads v line k e = (in_format v.decimals _ k).0 e

pub field_number : (v : Value) (f : Field) → field_fault v f ≡ 0 → (k : ℕ) × (f ≡ Number k) × Within v k
unfolding field_fault number_of
field_number v Blank e = absurd (omega arith)
field_number v Malformed e = absurd (omega arith)
field_number v (Number k) e = (k, refl, field_within v (Number k) e)

module _ (v : Value) (line : List ℕ) where
  pub value_right : field_fault v (field_in v line) ≡ 0 → RightValue v line
  value_right e =
      let n = field_number v (field_in v line) e in
      record { number = n.0; reads = field_reads v line n.0 n.1; least = n.2.least; most = n.2.most; steps = n.2.steps }

  pub right_value : RightValue v line → field_fault v (field_in v line) ≡ 0
  right_value r = rw (reads_field v line r.number r.reads) (field_right v r.number (record { least = r.least; most = r.most; steps = r.steps }))

  pub blank_right : field_in v line ≡ Blank → BlankIn v line
  blank_right e = blank_says _ ((field_blank v.decimals _).0 e)

  pub right_blank : BlankIn v line → field_in v line ≡ Blank
  right_blank a = (field_blank v.decimals _).1 (says_blank _ a)

module _ (line : List ℕ) where
  listed_values : (vs : List Value) → values_fault vs line ≡ 0 → All (λ (v : Value). RightValue v line) vs
  unfolding values_fault
  listed_values [] e = tt
  listed_values (v ∷ vs) e = let f = or_zero (field_fault v (field_in v line)) _ e in (value_right v line f.0, listed_values vs f.1)

  values_listed : (vs : List Value) → All (λ (v : Value). RightValue v line) vs → values_fault vs line ≡ 0
  unfolding values_fault
  values_listed [] a = refl
  values_listed (v ∷ vs) a = rw (right_value v line a.0, values_listed vs a.1)

-- line 100

pub number_digits : (v : Value) (f : Field) → 1 ≤ v.least → Within v (number_of f) → f ≡ Number (number_of f)
unfolding number_of
number_digits v Blank h w = absurd (omega (arith, w.least))
number_digits v Malformed h w = absurd (omega (arith, w.least))
number_digits v (Number k) h w = refl

module _ (line : List ℕ) where
  pub facility_right : facility_fault line ≡ 0 → RightFacility line (period_on line)
  unfolding facility_fault digits_in
  facility_right e =
      let a = or_zero (shape_fault Facility line) _ e in
      let b = or_zero (unless (not (all is_blank (stack_of line))) 5) _ a.1 in
      let c = or_zero (unless (within year_digits (digits_in year_digits line)) 6) _ b.1 in
      let y = within_true year_digits _ (unless_zero (within year_digits (digits_in year_digits line)) 5 c.0) in
      let q = within_true quarter_digit _ (unless_zero (within quarter_digit (digits_in quarter_digit line)) 5 c.1) in
      let named : not (all is_blank (stack_of line)) ≡ true = unless_zero (not (all is_blank (stack_of line))) 4 b.0 in
      record {
        shaped = shape_right Facility line a.0;
        named = λ bs. false≢true (sym (not-true _ named) ∙ says_blank _ bs);
        year = (digits_only_lem (columns 10 4 line) _).0 (number_digits year_digits (digits_only (columns 10 4 line)) (omega arith) y);
        years = (y.least, y.most);
        quarter = (digits_only_lem (columns 14 1 line) _).0 (number_digits quarter_digit (digits_only (columns 14 1 line)) (omega arith) q);
        quarters = (q.least, q.most);
      }

  pub right_facility : (p : Period) → RightFacility line p → (facility_fault line ≡ 0) × (period_on line ≡ p)
  unfolding facility_fault digits_in number_of
  right_facility p r =
      let named : all is_blank (stack_of line) ≡ false = go (all is_blank (stack_of line)) refl in
      let year = (digits_only_lem (columns 10 4 line) p.year).1 r.year in
      let quarter = (digits_only_lem (columns 14 1 line) p.quarter).1 r.quarter in
      let y : Within year_digits p.year = record { least = r.years.0; most = r.years.1; steps = omega arith } in
      let q : Within quarter_digit p.quarter = record { least = r.quarters.0; most = r.quarters.1; steps = omega arith } in (
        rw (right_shape Facility line r.shaped, named, year, quarter, true_within year_digits p.year y, true_within quarter_digit p.quarter q),
        rw (year, quarter),
      )
    where
      go : (b : Bool) → all is_blank (stack_of line) ≡ b → all is_blank (stack_of line) ≡ false
      go true e = absurd (r.named (blank_says _ e))
      go false e = e

-- date and hour

module _ (p : Period) (bs : List ℕ) where
  pub date_right : (hour : ℕ) → stamp_hour p.year p.quarter bs ≡ At hour → RightDate p bs hour
  date_right hour e =
      let s = stamp_says p.year p.quarter bs hour e in
      record { number = s.0; reads = (digits_only_lem bs s.0).0 s.1; year = s.2; lies = s.3; own = s.4 }

  pub right_date : (hour : ℕ) → RightDate p bs hour → stamp_hour p.year p.quarter bs ≡ At hour
  right_date hour r = says_stamp p.year p.quarter bs hour (r.number, (digits_only_lem bs r.number).1 r.reads, r.year, r.lies, r.own)

-- a 200 or a 300 line, of an hour from `from` on
pub record RightDated (facility : List ℕ) (p : Period) (t : RecordType) (from : ℕ) (line : List ℕ) : Type 0 where
  pub hour : ℕ
  pub later : from ≤ hour
  pub named : hour_in p t line ≡ hour
  pub headed : Headed facility t line
  pub date : RightDate p (columns (date_column t) 8 line) hour

module _ (facility : List ℕ) (p : Period) (t : RecordType) (from : ℕ) (line : List ℕ) where
  pub dated_right : dated_fault facility p t from line ≡ 0 → RightDated facility p t from line
  unfolding dated_fault rising_fault hour_number
  dated_right e =
      let a = or_zero (common_fault facility t line) _ e in
      go (common_right t line facility a.0) (hour_on p t line) refl a.1
    where
      go : Headed facility t line → (h : QuarterHour) → hour_on p t line ≡ h → rising_fault from h ≡ 0 → RightDated facility p t from line
      go c Outside k f = absurd (omega arith)
      go c (At h) k f =
          record {
            hour = h;
            later = leb-true from h (unless_zero (leb from h) 5 f);
            named = rw k;
            headed = c;
            date = date_right p (date_on t line) h k;
          }

  pub right_dated : (hour : ℕ) → from ≤ hour → Headed facility t line → RightDate p (columns (date_column t) 8 line) hour →
      (dated_fault facility p t from line ≡ 0) × (hour_in p t line ≡ hour)
  unfolding dated_fault rising_fault hour_number
  right_dated hour l c d =
      let s : hour_on p t line ≡ At hour = right_date p (date_on t line) hour d in
      (rw (right_common t line facility c, s, rising_fault, le-leb from hour l), rw s)

-- a 200 line

so2_says : (f : Field) → so2_fault f ≡ 0 → (f ≡ Blank) ⊎ (field_fault so2_ppm f ≡ 0)
unfolding so2_fault
so2_says Blank e = inl refl
so2_says Malformed e = absurd (omega arith)
so2_says (Number k) e = inr e

says_so2 : (f : Field) → field_fault so2_ppm f ≡ 0 → so2_fault f ≡ 0
unfolding so2_fault field_fault
says_so2 Blank e = refl
says_so2 Malformed e = e
says_so2 (Number k) e = e

module _ (facility : List ℕ) (p : Period) (from : ℕ) (line : List ℕ) where
  pub hour_right : hour_fault facility p from line ≡ 0 → (from ≤ hour_in p So2Concentration line) × RightHour facility p (hour_in p So2Concentration line) line
  unfolding hour_fault
  hour_right e =
      let a = or_zero (dated_fault facility p So2Concentration from line) _ e in
      let d = dated_right facility p So2Concentration from line a.0 in
      let v = ⊎_elim (λ b. inl (blank_right so2_ppm line b)) (λ n. inr (value_right so2_ppm line n)) (so2_says (field_in so2_ppm line) a.1) in
      (rw d.named d.later, rw d.named (record { headed = d.headed; date = d.date; value = v }))

  pub right_hour : (hour : ℕ) → from ≤ hour → RightHour facility p hour line → (hour_fault facility p from line ≡ 0) × (hour_in p So2Concentration line ≡ hour)
  unfolding hour_fault so2_fault
  right_hour hour l r =
      let d = right_dated facility p So2Concentration from line hour l r.headed r.date in
      let v : so2_fault (field_in so2_ppm line) ≡ 0 =
      ⊎_elim (λ b. ap so2_fault (right_blank so2_ppm line b)) (λ n. says_so2 (field_in so2_ppm line) (right_value so2_ppm line n)) r.value in
      (rw d.0 v, d.1)

-- a line of another type

module _ (facility : List ℕ) (t : RecordType) (hour line : List ℕ) where
  empty_says : (f : Field) → is_empty f ≡ true → f ≡ Blank
  unfolding is_empty
  empty_says Blank e = refl
  empty_says Malformed e = absurd (false≢true e)
  empty_says (Number k) e = absurd (false≢true e)

  gas_says : gas_fault true hour line ≡ 0 → (columns 32 3 line ≡ gas_word) ↔ BlankIn so2_ppm hour
  unfolding gas_fault has_gas so2_blank is_empty
  gas_says e =
      let a : has_gas line ≡ so2_blank hour = agreed (has_gas line) (so2_blank hour) (unless_zero (agree (has_gas line) (so2_blank hour)) 48 e) in (
        (λ g. blank_right so2_ppm hour (empty_says (field_in so2_ppm hour) (sym a ∙ (same_eq _ _).1 g))),
        (λ b. (same_eq _ _).0 (a ∙ ap is_empty (right_blank so2_ppm hour b))),
      )

  says_gas : ((columns 32 3 line ≡ gas_word) ↔ BlankIn so2_ppm hour) → gas_fault true hour line ≡ 0
  unfolding gas_fault has_gas so2_blank is_empty
  says_gas g = go (has_gas line) refl (so2_blank hour) refl
    where
      go : (a : Bool) → has_gas line ≡ a → (b : Bool) → so2_blank hour ≡ b → unless (agree (has_gas line) (so2_blank hour)) 49 ≡ 0
      go true e true f = rw (e, f)
      go false e false f = rw (e, f)
      go true e false f = absurd (false≢true (sym f ∙ ap is_empty (right_blank so2_ppm hour (g.0 ((same_eq _ _).0 e)))))
      go false e true f =
          absurd (false≢true (sym e ∙ (same_eq _ _).1 (g.1 (blank_right so2_ppm hour (empty_says (field_in so2_ppm hour) f)))))

  pub gas_either : (g : Bool) → (record_of t).gas ≡ g → gas_fault g hour line ≡ 0 → t ≡ So2Mass → (columns 32 3 line ≡ gas_word) ↔ BlankIn so2_ppm hour
  gas_either true e f s = gas_says f
  gas_either false e f s = absurd (false≢true (sym e ∙ ap (λ (u : RecordType). (record_of u).gas) s))

  pub either_gas : (g : Bool) → (record_of t).gas ≡ g → (t ≡ So2Mass → (columns 32 3 line ≡ gas_word) ↔ BlankIn so2_ppm hour) → gas_fault g hour line ≡ 0
  unfolding gas_fault
  either_gas true e f = says_gas (f (gas_type t e))
  either_gas false e f = refl

  pub due_says : due_fault facility (due_of t hour) line ≡ 0 → RightDue facility t hour line
  due_says e =
      let r = due_right facility (due_of t hour) line e in
      record {
        headed = common_right t line facility r.common;
        date = rw (paper_row_lem t) (date_says facility t hour line (date_column t) r.date);
        gas = gas_either (record_of t).gas refl r.gas;
        values = rw (paper_row_lem t) (listed_values line (values_of t) r.values);
      }

  pub says_due : RightDue facility t hour line → due_fault facility (due_of t hour) line ≡ 0
  says_due r =
      right_due facility (due_of t hour) line (record {
        common = right_common t line facility r.headed;
        date = says_date facility t hour line (date_column t) (rw (paper_row_lem t) at r.date);
        gas = either_gas (record_of t).gas refl r.gas;
        values = values_listed line (values_of t) (rw (paper_row_lem t) at r.values);
      })

-- a 300 line

zero_time : (f : Field) → field_fault listed_time f ≡ 0 → ltb 0 (number_of f) ≡ false → f ≡ Number 0
unfolding field_fault number_of
zero_time Blank e o = absurd (omega arith)
zero_time Malformed e o = absurd (omega arith)
zero_time (Number k) e o = let z : k ≡ 0 = omega (arith, ltb-false 0 k o) in ap Number z

pub idle_says : (f : Field) → idle_fault f ≡ 0 → f ≡ Blank
unfolding idle_fault
idle_says Blank e = refl
idle_says Malformed e = absurd (omega arith)
idle_says (Number k) e = absurd (omega arith)

-- what it says beside its hour: that it operates in the hour of this date, or that it is idle
pub data RightTime (date line : List ℕ) : Bool → Type 0 where
  runs : columns 10 8 line ≡ date → RightValue time_hours line → RightValue heat_rate line → RightTime date line true
  rests : Idles line → RightTime date line false

module _ (facility : List ℕ) (p : Period) (from : ℕ) (date line : List ℕ) where
  pub operation_right : operation_fault facility p from date line ≡ 0 →
      (from ≤ hour_in p Operation line) × RightListed facility p (hour_in p Operation line) line × RightTime date line (operates line)
  unfolding operation_fault timed_fault operates
  operation_right e =
      let d = dated_right facility p Operation from line (or_zero (dated_fault facility p Operation from line) _ e).0 in
      let t = or_zero (field_fault listed_time (time_in line)) _ (or_zero (dated_fault facility p Operation from line) _ e).1 in
      (rw d.named d.later, rw d.named (record { headed = d.headed; date = d.date }), go (operates line) refl t.0 t.1)
    where
      go : (b : Bool) → operates line ≡ b → field_fault listed_time (time_in line) ≡ 0 →
          cond b (operating_fault date line) (idle_fault (field_in heat_rate line)) ≡ 0 → RightTime date line b
      go true o t f =
          let v = listed_values line (values_of Operation) (operating_values facility p from date line e o) in
          runs (operating_date facility p from date line e o) v.0 v.1.0
      go false o t f =
          rests (record {
            time = field_reads operating_time line 0 (zero_time (time_in line) t o);
            heat = blank_right heat_rate line (idle_says (field_in heat_rate line) f);
          })

  -- a line of an hour from `from` on that operates, or is idle, is without fault
  pub right_operation : (hour : ℕ) → from ≤ hour → RightListed facility p hour line → (b : Bool) → RightTime date line b →
      (operation_fault facility p from date line ≡ 0) × (hour_in p Operation line ≡ hour) × (operates line ≡ b)
  unfolding operation_fault timed_fault operates operating_fault idle_fault date_fault field_fault number_of
  right_operation hour l r b t =
      let d = right_dated facility p Operation from line hour l r.headed r.date in
      let f = timed b t in
      (joined d.0 f.0, d.1, f.1)
    where
      joined : dated_fault facility p Operation from line ≡ 0 → timed_fault date line ≡ 0 → operation_fault facility p from date line ≡ 0
      joined a c = rw (a, c)

      timed : (b : Bool) → RightTime date line b → (timed_fault date line ≡ 0) × (operates line ≡ b)
      timed b (runs d v h) =
          let reads = reads_field operating_time line v.number v.reads in
          let o : operates line ≡ true = rw (reads, number_of) (lt-ltb 0 v.number v.least) in
          let e : field_fault listed_time (time_in line) ≡ 0 =
          rw reads (field_right listed_time v.number (record { least = omega arith; most = v.most; steps = v.steps })) in
          (rw (e, o, operating_fault, (same_eq (columns 10 8 line) date).1 d, right_value heat_rate line h), o)
      timed b (rests i) =
          let reads = reads_field operating_time line 0 i.time in
          let o : operates line ≡ false = rw reads in
          let e : field_fault listed_time (time_in line) ≡ 0 = rw reads in
          (rw (e, o, right_blank heat_rate line i.heat), o)
