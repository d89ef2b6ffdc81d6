-- What is proved of the records that are written: each has the length of its type, and all its bytes are printable.
use Rattle.std.specs.Prelude.{ℕ, zero, suc, ◌+◌, ◌-◌, ◌≤◌, ◌<◌, ◌≡◌, refl, List, [], ◌∷◌, true, length, get_or, replicate}
use Rattle.std.proofs.Common.{◌∙◌, arith}
use Rattle.std.proofs.lemmas.List.{length-replicate}
use Rattle.columns.specs.Bytes.{all, is_printable}
use Rattle.columns.specs.Columns.{put}
use Rattle.columns.proofs.ColumnsLaws.{put_length, put_all}
use Rattle.columns.specs.Written.{digits_of, written}
use Rattle.columns.proofs.WrittenLaws.{digits_length, digits_printable, written_length, written_printable}
use Rattle.layout.specs.Layout.{
  code_of,
  length_of,
  type_start,
  type_width,
  type_digits,
  stack_start,
  stack_width,
  date_column,
  date_width,
  values_of,
  ValueInside,
}
use Rattle.layout.specs.Values.{year_digits, quarter_digit, no_value}
use Rattle.layout.specs.LayoutLaws.{length_least, date_fits}
use Rattle.layout.proofs.ValueLaws.{value_inside}
use Rattle.totals.specs.declared.Quarter.{Quarter}
use Rattle.layout.specs.declared.values.Value.{Value}
use Rattle.formulas.specs.declared.hour.Hour.{Hour}
use Rattle.layout.specs.declared.RecordType.{RecordType}
use Rattle.layout.specs.declared.RecordType.TheVariants.{Facility, QuarterTotals}
use Rattle.records.specs.Records.{headed, valued, facility_record, hour_values, dated_record, total_values, totals_record}

-- bytes put into a line of known length leave its length
pub put_long : (n start : ℕ) (bs l : List ℕ) (width : ℕ) → length bs ≡ width → start - 1 + width ≤ n → length l ≡ n → length (put start bs l) ≡ n
put_long n start bs l width e h k = put_length start bs l (omega arith) ∙ k

pub headed_length : (t : RecordType) (name : List ℕ) → length name ≡ stack_width → length (headed t name) ≡ length_of t
unfolding headed
headed_length t name e =
    let r = length_least t in
    put_long (length_of t) stack_start name _ stack_width e (omega arith)
    (put_long (length_of t) type_start (type_digits t) _ type_width (digits_length type_width (code_of t)) (omega arith) (length-replicate (length_of t) 32))

-- every value of a list has its columns in the record
abbrev pub ValuesInside : RecordType → List Value → Type 0
ValuesInside t vs = (i : ℕ) → i < length vs → ValueInside t (get_or vs i no_value)

pub values_inside : (t : RecordType) → ValuesInside t (values_of t)
values_inside t i h = value_inside t i h

pub valued_length : (t : RecordType) (vs : List Value) (xs line : List ℕ) → ValuesInside t vs → length line ≡ length_of t
    → length (valued vs xs line) ≡ length_of t
unfolding valued
valued_length t [] xs line h e = e
valued_length t (v ∷ vs) [] line h e = e
valued_length t (v ∷ vs) (x ∷ xs) line h e =
    let i : ValueInside t v = h 0 (omega arith) in
    valued_length t vs xs (put v.start (written v.width v.decimals x) line) (λ j k. h (suc j) (omega arith))
    (put_long (length_of t) v.start (written v.width v.decimals x) line v.width (written_length v.width v.decimals x i.room) i.last e)

module _ (name : List ℕ) (named : length name ≡ stack_width) where
  pub facility_length : (year quarter : ℕ) → length (facility_record year quarter name) ≡ length_of Facility
  unfolding facility_record
  facility_length year quarter =
      let y = year_digits in
      let q = quarter_digit in
      put_long (length_of Facility) q.start (digits_of q.width quarter) _ q.width (digits_length q.width quarter) (omega arith)
      (put_long (length_of Facility) y.start (digits_of y.width year) _ y.width (digits_length y.width year) (omega arith)
      (headed_length Facility name named))

  pub dated_length : (t : RecordType) (date : List ℕ) (h : Hour) → length date ≡ date_width → length (dated_record name t date h) ≡ length_of t
  dated_length t date h e =
      valued_length t (values_of t) (hour_values t h) _ (values_inside t)
      (put_long (length_of t) (date_column t) date _ date_width e (date_fits t) (headed_length t name named))

  pub totals_length : (q : Quarter) → length (totals_record name q) ≡ length_of QuarterTotals
  unfolding totals_record
  totals_length q =
      valued_length QuarterTotals (values_of QuarterTotals) (total_values q) _ (values_inside QuarterTotals) (headed_length QuarterTotals name named)

-- printable bytes

blanks_printable : (n : ℕ) → all is_printable (replicate n 32) ≡ true
unfolding all
blanks_printable zero = refl
blanks_printable (suc n) = blanks_printable n

valued_printable : (vs : List Value) (xs line : List ℕ) → all is_printable line ≡ true → all is_printable (valued vs xs line) ≡ true
unfolding valued
valued_printable [] xs line h = h
valued_printable (v ∷ vs) [] line h = h
valued_printable (v ∷ vs) (x ∷ xs) line h =
    valued_printable vs xs (put v.start (written v.width v.decimals x) line)
    (put_all is_printable v.start (written v.width v.decimals x) line (written_printable v.width v.decimals x) h)

module _ (name : List ℕ) (printable : all is_printable name ≡ true) where
  headed_printable : (t : RecordType) → all is_printable (headed t name) ≡ true
  unfolding headed
  headed_printable t =
      put_all is_printable stack_start name _ printable
      (put_all is_printable type_start (type_digits t) _ (digits_printable type_width (code_of t)) (blanks_printable (length_of t)))

  pub facility_printable : (year quarter : ℕ) → all is_printable (facility_record year quarter name) ≡ true
  unfolding facility_record
  facility_printable year quarter =
      let y = year_digits in
      let q = quarter_digit in
      put_all is_printable q.start (digits_of q.width quarter) _ (digits_printable q.width quarter)
      (put_all is_printable y.start (digits_of y.width year) _ (digits_printable y.width year) (headed_printable Facility))

  pub dated_printable : (t : RecordType) (date : List ℕ) (h : Hour) → all is_printable date ≡ true → all is_printable (dated_record name t date h) ≡ true
  dated_printable t date h p =
      valued_printable (values_of t) (hour_values t h) _ (put_all is_printable (date_column t) date _ p (headed_printable t))

  pub totals_printable : (q : Quarter) → all is_printable (totals_record name q) ≡ true
  unfolding totals_record
  totals_printable q = valued_printable (values_of QuarterTotals) (total_values q) _ (headed_printable QuarterTotals)
