-- What a line that fits its type's picture has, and when the numbers in its fields are right.
use Prim.Native.Nat.{ℕ, suc, ◌+◌, ◌-◌, ◌≤◌, ◌<◌}
use mathlib.Core.Path.{◌≡◌, refl, sym, ap, ◌∙◌}
use mathlib.Core.List.{List, [], ◌∷◌}
use mathlib.Core.Bool.{Bool, true, false, cond}
use native.Mathlib.Omega.{arith}
use lib.ListN.{length, take, get_or}
use lib.Dec.{ltb}
use borrow.Author.Tests.{eq-eqb, lt-ltb}
use Rattle.exact.specs.Logic.{clash, both}
use Rattle.columns.specs.Bytes.{is_printable, all, same}
use Rattle.columns.proofs.BytesLaws.{same_eq}
use Rattle.columns.specs.Columns.{columns}
use Rattle.columns.proofs.ColumnsLaws.{columns_length, columns_part}
use Rattle.columns.specs.Number.{field_of, number_of}
use Rattle.columns.proofs.NumberLaws.{field_bound}
use Rattle.columns.specs.Worth.{worth_of}
use Rattle.columns.proofs.WorthLaws.{worth_number}
use Rattle.columns.specs.Picture.{Fits}
use Rattle.columns.proofs.PictureLaws.{fits_printable, fits_plain, field_number}
use Rattle.columns.specs.declared.Field.{Field}
use Rattle.columns.specs.declared.Field.TheVariants.{Malformed, Number}
use Rattle.layout.specs.Layout.{length_of, date_column, type_width, type_digits, stack_start, stack_width, values_of, value_at}
use Rattle.layout.specs.Values.{no_value, is_free, Within, time_hours, listed_time, heat_rate}
use Rattle.layout.specs.LayoutLaws.{length_least, within_true, free_within}
use Rattle.layout.proofs.ValueLaws.{value_inside}
use Rattle.layout.specs.Pictures.{picture_of}
use Rattle.layout.proofs.PictureLaws.{picture_length, picture_printable, picture_type, picture_plain, picture_field}
use Rattle.layout.specs.declared.values.Value.{Value}
use Rattle.layout.specs.declared.RecordType.{RecordType}
use Rattle.layout.specs.declared.RecordType.TheVariants.{Operation}
use Rattle.lines.specs.Lines.{first_line}
use Rattle.lines.specs.LineFaults.{type_is, shape_fault, stack_of, stack_fault, common_fault, field_fault, field_in, values_fault, date_fault}
use Rattle.lines.specs.LineFaults.{time_in, operates, operating_fault, timed_fault}
use Rattle.lines.proofs.FaultLaws.{field_right, common_shape}
use Rattle.lines.specs.Beginning.{is_line}
use Rattle.lines.specs.Pictured.{NumbersIn, Pictured, OperatingLine, number_holds, limited, all_hold, ranges_hold}
use Rattle.lines.proofs.Shapes.{type_bytes, line_alone, line_known, line_length_lem}

module _ (t : RecordType) (facility rest : List ℕ) (more : length_of t < length rest) (end : get_or rest (length_of t) 0 ≡ 10) (f : Fits (picture_of t) rest) where
  there : length (picture_of t) ≤ length rest
  there = omega (arith, picture_length t)

  printable : all is_printable (take (length_of t) rest) ≡ true
  printable = rw (picture_length t) at (fits_printable (picture_of t) rest (picture_printable t) there f)

  typed : type_is t (first_line rest) ≡ true
  typed =
      let e : take type_width rest ≡ type_digits t =
      fits_plain type_width (picture_of t) rest (omega (arith, picture_length t, length_least t)) (omega (arith, length_least t)) (picture_plain t) f
      ∙ picture_type t in
      type_bytes t rest ∙ (same_eq _ _).1 e

  is_line_lem : is_line (length_of t) rest ≡ true
  unfolding is_line
  is_line_lem = rw (eq-eqb _ _ end) printable

  shaped : shape_fault t (first_line rest) ≡ 0
  shaped = line_alone (length_of t) rest is_line_lem t typed refl

  known : first_line rest ≡ take (length_of t) rest
  known = line_known t rest shaped (length_of t) refl

  common : same (stack_of rest) (stack_of facility) ≡ true → common_fault facility t (first_line rest) ≡ 0
  unfolding common_fault stack_fault
  common s =
      let p : stack_of (first_line rest) ≡ stack_of rest =
      ap stack_of known ∙ columns_part stack_start stack_width (length_of t) rest (omega (arith, length_least t)) (omega arith) in
      rw (shaped, p, s)

  numbers : NumbersIn t (take (length_of t) rest)
  numbers = record {
    number = λ i h.
        let v = value_at t i in
        let inside = value_inside t i h in
        let last : v.start - 1 + v.width ≤ length (picture_of t) = omega (arith, picture_length t, inside.last) in
        let r = field_number v.start v.width (picture_of t) rest last there f v.decimals inside.room (picture_field t i h) in
        (r.0, ap (field_of v.decimals) (columns_part v.start v.width (length_of t) rest inside.last (omega arith)) ∙ r.1);
  }

  pub pictured : same (stack_of rest) (stack_of facility) ≡ true → Pictured facility t rest
  pictured s = record { common = common s; numbers = numbers }

-- a value's columns hold a number, and whatever number that is, the value may be it

abbrev HasNumber : Value → List ℕ → Type 0
HasNumber v line = (k : ℕ) × (field_in v line ≡ Number k)

abbrev Tested : Value → List ℕ → Type 0
Tested v line = (k : ℕ) → field_in v line ≡ Number k → Within v k

tested_right : (v : Value) (line : List ℕ) → HasNumber v line → Tested v line → field_fault v (field_in v line) ≡ 0
tested_right v line n t = ap (field_fault v) n.1 ∙ field_right v n.0 (t n.0 n.1)

-- by its columns alone
any_tested : (v : Value) (line : List ℕ) → is_free v ≡ true → v.start - 1 + v.width ≤ length line → Tested v line
any_tested v line free h k e =
    let wide : length (columns v.start v.width line) ≡ v.width = columns_length v.start v.width line h in
    free_within v k free (rw wide at (field_bound v.decimals (columns v.start v.width line) k e))

-- by a test of what they are worth
worth_tested : (v : Value) (line : List ℕ) → number_holds v line ≡ true → Tested v line
unfolding number_of
worth_tested v line t k e =
    let bs = columns v.start v.width line in
    let formed : field_of v.decimals bs ≡ Malformed → ⊥ = λ m. clash (let z : Number k ≡ Malformed = sym e ∙ m in cc) in
    let own : worth_of v.decimals bs ≡ k = worth_number v.decimals bs formed ∙ ap number_of e in
    rw own at (within_true v _ t)

all_hold_lem : (v : Value) (vs : List Value) (line : List ℕ) → all_hold (v ∷ vs) line ≡ true → (number_holds v line ≡ true) × (all_hold vs line ≡ true)
all_hold_lem v [] line h = (h, refl)
all_hold_lem v (w ∷ vs) line h = both (number_holds v line) _ h

values_right : (vs : List Value) (line : List ℕ) →
    ((i : ℕ) → i < length vs → let v = get_or vs i no_value in (v.start - 1 + v.width ≤ length line) × HasNumber v line) →
    all_hold (limited vs) line ≡ true → values_fault vs line ≡ 0
unfolding values_fault
values_right [] line n h = refl
values_right (v ∷ vs) line n h = go (n 0 (omega arith)) (values_right vs line (λ i l. n (suc i) (omega arith))) (is_free v) refl h
  where
    go : (v.start - 1 + v.width ≤ length line) × HasNumber v line → (all_hold (limited vs) line ≡ true → values_fault vs line ≡ 0) →
        (free : Bool) → is_free v ≡ free → all_hold (cond free (limited vs) (v ∷ limited vs)) line ≡ true → values_fault (v ∷ vs) line ≡ 0
    go here later true e k = rw (tested_right v line here.1 (any_tested v line e here.0)) (later k)
    go here later false e k =
        let w = all_hold_lem v (limited vs) line k in
        rw (tested_right v line here.1 (worth_tested v line w.0)) (later w.1)

pub ranges_right : (t : RecordType) (line : List ℕ) → length line ≡ length_of t → NumbersIn t line → ranges_hold t line ≡ true →
    values_fault (values_of t) line ≡ 0
unfolding ranges_hold
ranges_right t line l n h = values_right (values_of t) line (λ i k. (omega (arith, l, (value_inside t i k).last), n.number i k)) h

-- a 300 line has a time and a heat; with a time above 0 and its date it is an operating hour's
module _ (facility date rest : List ℕ) (p : Pictured facility Operation rest) where
  abbrev listed : List ℕ
  listed = take (length_of Operation) rest

  pub fitting_operation : date_fault (date_column Operation) date listed ≡ 0 → number_holds time_hours listed ≡ true → OperatingLine facility date (first_line rest)
  unfolding number_of operates timed_fault operating_fault
  fitting_operation d h =
      let fine = common_shape facility Operation (first_line rest) p.common in
      let known = line_known Operation rest fine (length_of Operation) refl in
      let long = line_length_lem Operation rest fine (length_of Operation) refl in
      let n = p.numbers.number 0 (omega arith) in
      let w = worth_tested time_hours listed h n.0 n.1 in
      let positive : operates listed ≡ true = ap (λ (f : Field). ltb 0 (number_of f)) n.1 ∙ lt-ltb 0 n.0 w.least in
      let time : field_fault listed_time (time_in listed) ≡ 0 =
      ap (field_fault listed_time) n.1 ∙ field_right listed_time n.0 (record { least = omega arith; most = w.most; steps = w.steps }) in
      let heat = tested_right heat_rate listed (p.numbers.number 1 (omega arith)) (any_tested heat_rate listed refl (omega arith)) in
      record { common = p.common; operating = rw known positive; timed = rw (known, time, positive, d) heat }
