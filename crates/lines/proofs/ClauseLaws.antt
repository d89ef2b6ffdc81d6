-- A fault is the first clause that a line does not meet. Clauses.antt has the clauses.
use Prim.Native.Nat.{ℕ, zero, suc, ◌%◌, ◌≤◌}
use Rattle.std.specs.Prelude.{◌≡◌, ◌⊎◌, List, [], ◌∷◌, ◌++◌, Bool, cond, eqb, leb, length, take}
use Rattle.std.proofs.Math.Path.{refl, ap}
use Rattle.std.proofs.Common.{sym, subst, ◌∙◌, ⊎_elim, arith, eqb-true, eq-eqb, leb-true, le-leb, lt-ltb}
use Rattle.std.proofs.Math.Logic.{inl, inr}
use Rattle.std.proofs.Math.Bool.{true, false}
use Rattle.exact.specs.Logic.{agree}
use Rattle.exact.specs.Faults.{unless, or_none}
use Rattle.exact.specs.Clauses.{Clause, clause, when}
use Rattle.exact.proofs.ClauseLaws.{Told, told_or, told_by, told_one, told_then, told_skip, told_more, never, told_when, Numbered}
use Rattle.columns.specs.Bytes.{is_printable, all, same}
use Rattle.columns.proofs.BytesLaws.{same_eq}
use Rattle.columns.specs.Columns.{columns}
use Rattle.columns.specs.Format.{DigitsOnly}
use Rattle.columns.proofs.FormatLaws.{digits_only_lem}
use Rattle.columns.proofs.EachLaws.{printable_says, says_printable, named_told}
use Rattle.columns.specs.Number.{digits_only, number_of}
use Rattle.columns.specs.declared.Field.{Field}
use Rattle.columns.specs.declared.Field.TheVariants.{Blank, Malformed, Number}
use Rattle.calendar.specs.Calendar.{QuarterHour}
use Rattle.std.specs.Prelude.{Some as At, None as Outside}
use Rattle.layout.specs.Layout.{record_of, type_width, type_digits, length_of, date_column, values_of}
use Rattle.layout.specs.Values.{year_digits, quarter_digit, so2_ppm, listed_time, heat_rate, InRange, in_range, whole_steps, within}
use Rattle.layout.specs.LayoutLaws.{in_range_true, true_in_range, within_true, true_within}
use Rattle.layout.specs.declared.RecordType.{RecordType}
use Rattle.layout.specs.declared.RecordType.TheVariants.{Facility, So2Concentration, Operation}
use Rattle.layout.specs.declared.values.Value.{Value}
use Rattle.lines.specs.LineFaults.{type_is, shape_fault, stack_of, stack_fault, common_fault, field_fault, field_in, values_fault, digits_in, facility_fault}
use Rattle.lines.specs.LineFaults.{rising_fault, date_on, hour_on, dated_fault, so2_fault, hour_fault, due_of, date_fault, has_gas, so2_blank, gas_fault, due_fault}
use Rattle.lines.specs.LineFaults.{time_in, operates, idle_fault, operating_fault, timed_fault, operation_fault}
use Rattle.lines.proofs.RightLaws.{paper_row_lem, reads_field, field_reads}
use Rattle.lines.proofs.DateLaws.{date_either, date_says, says_date}
use Rattle.lines.proofs.RightLaws.{number_digits, date_right, right_date, gas_either, either_gas, field_number, idle_says, blank_right}
use Rattle.lines.proofs.RightLaws.{right_blank}
use Rattle.lines.specs.Clauses.{shape_clauses, facility_clauses, headed_clauses, value_clauses, values_clauses, Dates, hour_clauses, due_clauses}
use Rattle.lines.specs.Clauses.{any_time, Positive, listed_clauses, of_line_checks}
use Rattle.lines.specs.RightLine.{so2_reading, operating_time, heat_input, Reads, BlankIn}
use Rattle.calendar.specs.Calendar.{Period}

module _ (t : RecordType) (line : List ℕ) where
  shape_told : Told (shape_fault t line) (shape_clauses t line)
  unfolding shape_fault type_is
  shape_told =
      rw (paper_row_lem t) (told_or _ _ (clause 2 _ ∷ []) (clause 3 _ ∷ clause 4 _ ∷ [])
      (told_one (same (take type_width line) (type_digits t)) 1 _ (same_eq _ _).0 (same_eq _ _).1)
      (told_or _ _ (clause 3 _ ∷ []) (clause 4 _ ∷ []) (told_one (eqb (length line) (length_of t)) 2 _ (eqb-true _ _) (eq-eqb _ _))
      (told_one (all is_printable line) 3 _ (printable_says line) (says_printable line))))

  headed_told : (facility : List ℕ) → Told (common_fault facility t line) (headed_clauses facility t line)
  unfolding common_fault stack_fault
  headed_told facility =
      told_or _ _ (shape_clauses t line) (clause 5 _ ∷ []) shape_told (told_one (same (stack_of line) (stack_of facility)) 4 _ (same_eq _ _).0 (same_eq _ _).1)

-- a value

number_same : (j k : ℕ) → Number j ≡ Number k → j ≡ k
unfolding number_of
number_same j k e = ap number_of e

-- no number is read in a field that has none
read_never : (v : Value) (line : List ℕ) (f : Field) → field_in v line ≡ f → ((k : ℕ) → f ≡ Number k → ⊥) → ((k : ℕ) × Reads v line k) → ⊥
read_never v line f e n r = n r.0 (sym e ∙ reads_field v line r.0 r.1)

read_same : (v : Value) (line : List ℕ) (n k : ℕ) → field_in v line ≡ Number n → Reads v line k → n ≡ k
read_same v line n k e r = number_same n k (sym e ∙ reads_field v line k r)

field_told : (v : Value) (line : List ℕ) (f : Field) → field_in v line ≡ f → Told (field_fault v f) (value_clauses v line)
unfolding field_fault
field_told v line Blank r = record {
  right = λ e. absurd (omega arith);
  wrong = λ c e. inl (sym e, read_never v line Blank r (λ k q. absurd (let z : ◌≡◌ {A = ℕ} 0 1 = cc in omega arith)));
}
field_told v line Malformed r = record {
  right = λ e. absurd (omega arith);
  wrong = λ c e. inl (sym e, read_never v line Malformed r (λ k q. absurd (let z : ◌≡◌ {A = ℕ} 0 1 = cc in omega arith)));
}
field_told v line (Number n) r =
    let here = field_reads v line n r in
    let t =
    told_or (unless (in_range v n) 9) (unless (whole_steps v n) 43) (clause 9 _ ∷ []) (clause 43 _ ∷ [])
    (told_one (in_range v n) 8 ((k : ℕ) → Reads v line k → (v.least ≤ k) × (k ≤ v.most))
    (λ e k q. rw (read_same v line n k r q) at (in_range_true v n e)) (λ p. true_in_range v n (p n here)))
    (told_one (whole_steps v n) 42 ((k : ℕ) → Reads v line k → k % v.step ≡ 0)
    (λ e k q. rw (read_same v line n k r q) at (eqb-true (n % v.step) 0 e)) (λ p. eq-eqb _ _ (p n here))) in
    record { right = λ e. ((n, here), t.right e); wrong = λ c e. inr ((n, here), t.wrong c e) }

values_told : (vs : List Value) (line : List ℕ) → Told (values_fault vs line) (values_clauses vs line)
unfolding values_fault
values_told [] line = record { right = λ e. tt; wrong = λ c e. absurd (omega arith) }
values_told (v ∷ vs) line =
    told_or (field_fault v (field_in v line)) (values_fault vs line) (value_clauses v line) (values_clauses vs line)
    (field_told v line (field_in v line) refl) (values_told vs line)

-- a line that is due

module _ (facility : List ℕ) (t : RecordType) (hour line : List ℕ) where
  gas_apart : (g : Bool) → (gas_fault g hour line ≡ 0) ⊎ (gas_fault g hour line ≡ 49)
  unfolding gas_fault
  gas_apart false = inl refl
  gas_apart true = go (agree (has_gas line) (so2_blank hour))
    where
      go : (b : Bool) → (unless b 49 ≡ 0) ⊎ (unless b 49 ≡ 49)
      go true = inl refl
      go false = inr refl

  pub due_told : Told (due_fault facility (due_of t hour) line) (due_clauses facility t hour line)
  unfolding due_fault
  due_told =
      told_or _ _ (headed_clauses facility t line) _ (headed_told t line facility) (rw (paper_row_lem t)
      (told_or _ _ (clause 7 _ ∷ []) _
      (told_by _ 6 _ (date_either facility t hour line (date_column t) (date_on So2Concentration hour)) (date_says facility t hour line (date_column t))
      (says_date facility t hour line (date_column t)))
      (told_or _ _ (clause 49 _ ∷ []) _
      (told_by _ 48 _ (gas_apart (record_of t).gas) (gas_either facility t hour line (record_of t).gas refl)
      (either_gas facility t hour line (record_of t).gas refl))
      (values_told (values_of t) line))))

-- a 200 line

module _ (facility : List ℕ) (p : Period) (from : ℕ) (line : List ℕ) where
  rising_told : (t : RecordType) → Told (rising_fault from (hour_on p t line)) (clause 6 (Dates p from (columns (date_column t) 8 line)) ∷ [])
  unfolding rising_fault
  rising_told t = told_by _ 5 _ (either (hour_on p t line)) (λ e. there (hour_on p t line) refl e) back
    where
      either : (h : QuarterHour) → (rising_fault from h ≡ 0) ⊎ (rising_fault from h ≡ 6)
      either Outside = inr refl
      either (At h) = go (leb from h)
        where
          go : (b : Bool) → (unless b 6 ≡ 0) ⊎ (unless b 6 ≡ 6)
          go true = inl refl
          go false = inr refl

      there : (h : QuarterHour) → hour_on p t line ≡ h → rising_fault from h ≡ 0 → Dates p from (columns (date_column t) 8 line)
      there Outside k e = absurd (omega arith)
      there (At h) k e = go (leb from h) refl e
        where
          go : (b : Bool) → leb from h ≡ b → unless b 6 ≡ 0 → Dates p from (columns (date_column t) 8 line)
          go true l z = (h, leb-true from h l, date_right p (date_on t line) h k)
          go false l z = absurd (omega arith)

      back : Dates p from (columns (date_column t) 8 line) → rising_fault from (hour_on p t line) ≡ 0
      back d = rw (right_date p (date_on t line) d.0 d.2, rising_fault, le-leb from d.0 d.1)

  dated_told : (t : RecordType) →
      Told (dated_fault facility p t from line) (headed_clauses facility t line ++ (clause 6 (Dates p from (columns (date_column t) 8 line)) ∷ []))
  unfolding dated_fault
  dated_told t = told_or _ _ (headed_clauses facility t line) (clause 6 _ ∷ []) (headed_told t line facility) (rising_told t)

abbrev so2_clauses : List ℕ → List Clause
so2_clauses line =
    clause 8 (BlankIn so2_reading line ⊎ ((k : ℕ) × Reads so2_reading line k)) ∷ clause 9 ((k : ℕ) → Reads so2_reading line k → k ≤ 99_999) ∷ []

so2_told : (line : List ℕ) (f : Field) → field_in so2_ppm line ≡ f → Told (so2_fault f) (so2_clauses line)
unfolding so2_fault field_fault
so2_told line Blank r =
    let none = read_never so2_reading line Blank r (λ k q. absurd (let z : ◌≡◌ {A = ℕ} 0 1 = cc in omega arith)) in
    record { right = λ e. (inl (blank_right so2_ppm line r), ((λ k q. absurd (none (k, q))), tt)); wrong = λ c e. absurd (omega arith) }
so2_told line Malformed r =
    let none = read_never so2_reading line Malformed r (λ k q. absurd (let z : ◌≡◌ {A = ℕ} 0 1 = cc in omega arith)) in
    record {
      right = λ e. absurd (omega arith);
      wrong = λ c e. inl (
        sym e,
        λ p. absurd (⊎_elim (λ b. let q = right_blank so2_ppm line b in let z : ◌≡◌ {A = ℕ} 0 1 = cc in omega arith) none p),
      );
    }
so2_told line (Number n) r =
    let here = field_reads so2_reading line n r in
    let w : whole_steps so2_ppm n ≡ true = eq-eqb (n % 1) 0 (omega arith) in
    let t = told_one (in_range so2_ppm n) 8 ((k : ℕ) → Reads so2_reading line k → k ≤ 99_999)
    (λ e k q. let b : InRange so2_ppm k = rw (read_same so2_reading line n k r q) at (in_range_true so2_ppm n e) in b.1)
    (λ p. true_in_range so2_ppm n (omega arith, p n here)) in
    let z = or_none (unless (in_range so2_ppm n) 9) 0 refl in
    record {
      right = λ e. (inr (n, here), t.right (sym z ∙ rw w at e));
      wrong = λ c e. inr (inr (n, here), t.wrong c (sym z ∙ rw w at e));
    }

pub hour_told : (facility : List ℕ) (p : Period) (from : ℕ) (line : List ℕ) → Told (hour_fault facility p from line) (hour_clauses facility p from line)
unfolding hour_fault
hour_told facility p from line =
    told_or (dated_fault facility p So2Concentration from line) _ (headed_clauses facility So2Concentration line ++ (clause 6 _ ∷ [])) _
    (dated_told facility p from line So2Concentration) (so2_told line (field_in so2_ppm line) refl)

-- line 100
module _ (line : List ℕ) where
  digits_told : (v : Value) → 1 ≤ v.least → v.step ≡ 1 →
      Told (unless (within v (digits_in v line)) 6)
      (clause 6 ((y : ℕ) × DigitsOnly (columns v.start v.width line) y × (v.least ≤ y) × (y ≤ v.most)) ∷ [])
  unfolding digits_in number_of
  digits_told v l s =
      told_one (within v (digits_in v line)) 5 _
      (λ e.
      let w = within_true v (digits_in v line) e in
      (digits_in v line, (digits_only_lem _ _).0 (number_digits v (digits_only (columns v.start v.width line)) l w), w.least, w.most))
      (λ y.
      let one : y.0 % v.step ≡ 0 = rw s (omega arith) in
      rw ((digits_only_lem (columns v.start v.width line) y.0).1 y.1) (true_within v y.0 (record { least = y.2; most = y.3; steps = one })))

  pub facility_told : Told (facility_fault line) (facility_clauses line)
  unfolding facility_fault
  facility_told =
      told_or _ _ (shape_clauses Facility line) _ (shape_told Facility line)
      (told_or _ _ (clause 5 _ ∷ []) _ (named_told 4 (stack_of line))
      (told_or _ _ (clause 6 _ ∷ []) (clause 6 _ ∷ []) (digits_told year_digits (omega arith) refl) (digits_told quarter_digit (omega arith) refl)))

-- a 300 line

module _ (date line : List ℕ) where
  abbrev running_clauses : List Clause
  running_clauses = clause 7 (columns 10 8 line ≡ date) ∷ value_clauses heat_input line

  abbrev idle_clauses : List Clause
  idle_clauses = clause 47 (BlankIn heat_input line) ∷ []

  running_told : Told (operating_fault date line) running_clauses
  unfolding operating_fault date_fault
  running_told =
      told_or _ _ (clause 7 (columns 10 8 line ≡ date) ∷ []) (value_clauses heat_input line)
      (told_one (same (columns 10 8 line) date) 6 _ (same_eq _ _).0 (same_eq _ _).1) (field_told heat_rate line (field_in heat_rate line) refl)

  idle_told : Told (idle_fault (field_in heat_rate line)) idle_clauses
  unfolding idle_fault
  idle_told = told_by _ 46 _ (either (field_in heat_rate line)) (λ e. blank_right heat_rate line (idle_says (field_in heat_rate line) e))
      (λ b. ap idle_fault (right_blank heat_rate line b))
    where
      either : (f : Field) → (idle_fault f ≡ 0) ⊎ (idle_fault f ≡ 47)
      either Blank = inl refl
      either Malformed = inr refl
      either (Number k) = inr refl

  operates_not : time_in line ≡ Number 0 → operates line ≡ false
  unfolding operates number_of
  operates_not e = rw e

  operates_so : (k : ℕ) → time_in line ≡ Number (suc k) → operates line ≡ true
  unfolding operates number_of
  operates_so k e = rw e (lt-ltb 0 (suc k) (omega arith))

  abbrev timed_clauses : List Clause
  timed_clauses = when (Positive line) running_clauses ++ when (Reads operating_time line 0) idle_clauses

  abbrev Timed : Bool → Type 0
  Timed b = Told (cond b (operating_fault date line) (idle_fault (field_in heat_rate line))) timed_clauses

  zero_or : (k : ℕ) → time_in line ≡ Number k → Timed (operates line)
  zero_or zero e =
      subst Timed (sym (operates_not e)) (told_skip _ (when (Positive line) running_clauses) (when (Reads operating_time line 0) idle_clauses)
      (never (Positive line) (λ x. absurd (omega (arith, read_same operating_time line 0 (suc x.0) e x.1))) running_clauses)
      (told_when (Reads operating_time line 0) (field_reads operating_time line 0 e) _ idle_clauses idle_told))
  zero_or (suc k) e =
      subst Timed (sym (operates_so k e)) (told_more _ (when (Positive line) running_clauses) (when (Reads operating_time line 0) idle_clauses)
      (told_when (Positive line) (k, field_reads operating_time line (suc k) e) _ running_clauses running_told)
      (never (Reads operating_time line 0) (λ x. absurd (omega (arith, read_same operating_time line (suc k) 0 e x))) idle_clauses))

  timed_told : Told (timed_fault date line) (value_clauses any_time line ++ timed_clauses)
  unfolding timed_fault
  timed_told =
      told_then (field_fault listed_time (time_in line)) _ (value_clauses any_time line) _ (field_told listed_time line (time_in line) refl)
      (λ r. let n = field_number listed_time (time_in line) r in zero_or n.0 n.1)

pub listed_told : (facility : List ℕ) (p : Period) (from : ℕ) (date line : List ℕ) →
    Told (operation_fault facility p from date line) (listed_clauses facility p from date line)
unfolding operation_fault
listed_told facility p from date line =
    told_or (dated_fault facility p Operation from line) _ (headed_clauses facility Operation line ++ (clause 6 _ ∷ [])) _
    (dated_told facility p from line Operation) (timed_told date line)

-- the clauses' numbers
abbrev pub OfLines : List Clause → Type 0
OfLines = Numbered (λ (n : ℕ). of_line_checks n ≡ true)

pub values_numbers : (vs : List Value) (line : List ℕ) → OfLines (values_clauses vs line)
values_numbers [] line = tt
values_numbers (v ∷ vs) line = (refl, (refl, (refl, values_numbers vs line)))
