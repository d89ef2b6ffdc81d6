-- A written record has no fault: its type, length, bytes and stack name are right, and each value is read back from its columns.
use Prim.Native.Nat.{ℕ, zero, suc, ◌+◌, ◌-◌, ◌≤◌, ◌<◌, ◌^◌}
use Rattle.std.specs.Prelude.{◌≡◌, refl, Bool, true, ◌&&◌, leb, ltb, get_or, take}
use Rattle.std.proofs.Math.Path.{sym}
use Rattle.std.proofs.Common.{ap, ◌∙◌, arith, le_of_suc-le-suc, not-suc-le-zero, lt_of_le_of_lt}
use mathlib.Core.List.{List, [], ◌∷◌}
use Rattle.std.proofs.Math.ListN.{length, replicate, length-replicate, get_or-replicate}
use borrow.Author.Tests.{eq-eqb, leb-true, ltb-true}
use Rattle.columns.specs.Bytes.{is_printable, all}
use Rattle.columns.proofs.BytesLaws.{same_eq}
use Rattle.columns.specs.Columns.{columns, put}
use Rattle.columns.proofs.ColumnsLaws.{put_length, put_behind, columns_before, columns_back}
use Rattle.columns.specs.Number.{field_of, digits_held, fewest_columns}
use Rattle.columns.specs.Written.{written}
use Rattle.columns.proofs.WrittenLaws.{digits_length}
use Rattle.columns.specs.Rewritten.{NumberWritten}
use Rattle.columns.proofs.RewrittenLaws.{number_written}
use Rattle.columns.specs.declared.Field.TheVariants.{Number}
use Rattle.exact.specs.Logic.{both}
use Rattle.layout.specs.Layout.{code_of, length_of, type_start, type_width, type_digits, stack_start, stack_width, date_column, date_width, values_of}
use Rattle.layout.specs.Values.{no_value, Within}
use Rattle.layout.specs.LayoutLaws.{each, length_least}
use Rattle.lines.proofs.FaultLaws.{field_right}
use Rattle.layout.specs.declared.values.Value.{Value}
use Rattle.layout.specs.declared.RecordType.{RecordType}
use Rattle.lines.specs.LineFaults.{type_is, shape_fault, stack_of, stack_fault, common_fault, field_in, values_fault}
use Rattle.records.specs.Records.{headed, valued}

-- a line with a type's length and digits and a stack name
pub record Framed (t : RecordType) (name line : List ℕ) : Type 0 where
  pub long : length line ≡ length_of t
  pub digits : columns type_start type_width line ≡ type_digits t
  pub stack : stack_of line ≡ name

-- the column behind the stack name
abbrev pub behind_stack : ℕ
behind_stack = stack_start + stack_width

module _ (t : RecordType) (name : List ℕ) where
  -- bytes behind the stack name leave it as it is
  pub framed_put : (start : ℕ) (bs line : List ℕ) → behind_stack ≤ start → start - 1 + length bs ≤ length_of t → Framed t name line →
      Framed t name (put start bs line)
  framed_put start bs line s r h =
      let b : start - 1 + length bs ≤ length line = rw h.long r in
      record {
        long = put_length start bs line b ∙ h.long;
        digits = columns_before start bs line b type_start type_width (omega arith) ∙ h.digits;
        stack = columns_before start bs line b stack_start stack_width (omega arith) ∙ h.stack;
      }

  pub framed_headed : length name ≡ stack_width → Framed t name (headed t name)
  unfolding headed
  framed_headed named =
      let blank : List ℕ = replicate (length_of t) 32 in
      let l : length blank ≡ length_of t = length-replicate (length_of t) 32 in
      let c : length (type_digits t) ≡ type_width = digits_length type_width (code_of t) in
      let a : type_start - 1 + length (type_digits t) ≤ length blank = omega (arith, length_least t) in
      let m = put_length type_start (type_digits t) blank a in
      let line = put type_start (type_digits t) blank in
      let b : stack_start - 1 + length name ≤ length line = omega (arith, length_least t) in
      record {
        long = put_length stack_start name line b ∙ m ∙ l;
        digits =
            columns_before stack_start name line b type_start type_width (omega arith)
            ∙ columns_back type_start type_width (type_digits t) blank c (omega (arith, length_least t));
        stack = columns_back stack_start stack_width name line named (omega (arith, length_least t));
      }

  -- behind the stack name it is blank
  pub headed_blank : length name ≡ stack_width → (i : ℕ) → behind_stack - 1 ≤ i → i < length_of t → get_or (headed t name) i 0 ≡ 32
  unfolding headed
  headed_blank named i b h =
      let blank : List ℕ = replicate (length_of t) 32 in
      let l : length blank ≡ length_of t = length-replicate (length_of t) 32 in
      let c : length (type_digits t) ≡ type_width = digits_length type_width (code_of t) in
      let a : type_start - 1 + length (type_digits t) ≤ length blank = omega (arith, length_least t) in
      let m = put_length type_start (type_digits t) blank a in
      put_behind stack_start name (put type_start (type_digits t) blank) (omega (arith, length_least t)) i (omega arith)
      ∙ put_behind type_start (type_digits t) blank a i (omega arith)
      ∙ get_or-replicate (length_of t) i 32 0 h

  pub framed_type : (line : List ℕ) → Framed t name line → type_is t line ≡ true
  unfolding type_is columns
  framed_type line h = (same_eq (take type_width line) (type_digits t)).1 h.digits

  -- and printable bytes only
  pub framed_shape : (line : List ℕ) → Framed t name line → all is_printable line ≡ true → shape_fault t line ≡ 0
  unfolding shape_fault
  framed_shape line h p = rw (framed_type line h, eq-eqb (length line) (length_of t) h.long, p)

  pub framed_common : (facility line : List ℕ) → stack_of facility ≡ name → Framed t name line → all is_printable line ≡ true → common_fault facility t line ≡ 0
  unfolding common_fault stack_fault
  framed_common facility line e h p = rw (framed_shape line h p, (same_eq (stack_of line) (stack_of facility)).1 (h.stack ∙ sym e))

-- values from left to right, behind so many columns and within the line
pub record InColumns (from long : ℕ) (v : Value) : Type 0 where
  pub first : from ≤ v.start - 1
  pub named : behind_stack ≤ v.start
  pub last : v.start - 1 + v.width ≤ long
  pub room : fewest_columns v.decimals ≤ v.width
  pub most : v.most < 10 ^ digits_held v.decimals v.width

abbrev pub Ordered : ℕ → ℕ → List Value → Type 0
Ordered from long [] = Unit {0}
Ordered from long (v ∷ vs) = InColumns from long v × Ordered (v.start - 1 + v.width) long vs

abbrev ordered_test : ℕ → ℕ → List Value → Bool
ordered_test from long [] = true
ordered_test from long (v ∷ vs) =
    leb from (v.start - 1) && leb behind_stack v.start && leb (v.start - 1 + v.width) long && leb (fewest_columns v.decimals) v.width
    && ltb v.most (10 ^ digits_held v.decimals v.width) && ordered_test (v.start - 1 + v.width) long vs

ordered_of : (from long : ℕ) (vs : List Value) → ordered_test from long vs ≡ true → Ordered from long vs
ordered_of from long [] e = tt
ordered_of from long (v ∷ vs) e =
    let a = both _ _ e in
    let b = both _ _ a.0 in
    let c = both _ _ b.0 in
    let d = both _ _ c.0 in
    let f = both _ _ d.0 in (
      record { first = leb-true _ _ f.0; named = leb-true _ _ f.1; last = leb-true _ _ d.1; room = leb-true _ _ c.1; most = ltb-true _ _ b.1 },
      ordered_of (v.start - 1 + v.width) long vs a.1,
    )

-- the columns in front of the values of a type: date and hour, or the stack name
abbrev pub front_columns : RecordType → ℕ
front_columns t = elim (date_column t) [ zero ↦ behind_stack - 1 | suc c ↦ c + date_width ]

pub ordered : (t : RecordType) → Ordered (front_columns t) (length_of t) (values_of t)
ordered t = ordered_of (front_columns t) (length_of t) (values_of t) (each (λ t. ordered_test (front_columns t) (length_of t) (values_of t)) refl t)

-- each number lies in its value's range
abbrev pub ValuesWithin : List Value → List ℕ → Type 0
ValuesWithin [] [] = Unit {0}
ValuesWithin [] (x ∷ xs) = ⊥
ValuesWithin (v ∷ vs) [] = ⊥
ValuesWithin (v ∷ vs) (x ∷ xs) = Within v x × ValuesWithin vs xs

-- a number is written into its value's columns
value_written : {from long : ℕ} (v : Value) (x : ℕ) (line : List ℕ) → InColumns from long v → length line ≡ long →
    NumberWritten v.start v.width v.decimals x line (put v.start (written v.width v.decimals x) line)
value_written v x line c l = number_written v.start v.width line (omega (arith, c.named, c.last)) v.decimals x c.room

-- columns in front of the values stay as they were
pub valued_before : (from long : ℕ) (vs : List Value) (xs line : List ℕ) (start width : ℕ) → Ordered from long vs → length line ≡ long →
    start - 1 + width ≤ from →
    columns start width (valued vs xs line) ≡ columns start width line
unfolding valued
valued_before from long [] xs line start width o l b = refl
valued_before from long (v ∷ vs) [] line start width o l b = refl
valued_before from long (v ∷ vs) (x ∷ xs) line start width o l b =
    let w = value_written v x line o.0 l in
    let bs = written v.width v.decimals x in
    let r : v.start - 1 + length bs ≤ length line = omega (arith, w.wide, o.0.last) in
    valued_before (v.start - 1 + v.width) long vs xs (put v.start bs line) start width o.1 (w.only.long ∙ l) (omega (arith, o.0.first))
    ∙ columns_before v.start bs line r start width (omega (arith, o.0.first))

-- each number is read back
pub valued_field : (from long : ℕ) (vs : List Value) (xs line : List ℕ) (d : Value) (i : ℕ) → Ordered from long vs → length line ≡ long →
    ValuesWithin vs xs → i < length vs →
    field_in (get_or vs i d) (valued vs xs line) ≡ Number (get_or xs i 0)
unfolding valued
valued_field from long [] xs line d i o l a h = absurd (not-suc-le-zero h)
valued_field from long (v ∷ vs) [] line d i o l a h = absurd a
valued_field from long (v ∷ vs) (x ∷ xs) line d zero o l a h =
    let w = value_written v x line o.0 l in
    let then = put v.start (written v.width v.decimals x) line in
    ap (field_of v.decimals) (valued_before (v.start - 1 + v.width) long vs xs then v.start v.width o.1 (w.only.long ∙ l) (omega arith))
    ∙ w.back.0 (lt_of_le_of_lt a.0.most o.0.most)
valued_field from long (v ∷ vs) (x ∷ xs) line d (suc i) o l a h =
    let w = value_written v x line o.0 l in
    let then = put v.start (written v.width v.decimals x) line in
    valued_field (v.start - 1 + v.width) long vs xs then d i o.1 (w.only.long ∙ l) a.1 (le_of_suc-le-suc h)

-- fields that hold numbers in their ranges have no fault
fields_right : (vs : List Value) (xs line : List ℕ) (d : Value) → ValuesWithin vs xs →
    ((i : ℕ) → i < length vs → field_in (get_or vs i d) line ≡ Number (get_or xs i 0)) → values_fault vs line ≡ 0
unfolding values_fault
fields_right [] xs line d a f = refl
fields_right (v ∷ vs) [] line d a f = absurd a
fields_right (v ∷ vs) (x ∷ xs) line d a f =
    rw (f 0 (omega arith), field_right v x a.0) (fields_right vs xs line d a.1 (λ i h. f (suc i) (omega arith)))

module _ (t : RecordType) (xs line : List ℕ) (long : length line ≡ length_of t) (a : ValuesWithin (values_of t) xs) where
  pub value_back : (i : ℕ) → i < length (values_of t) → field_in (get_or (values_of t) i no_value) (valued (values_of t) xs line) ≡ Number (get_or xs i 0)
  value_back i h = valued_field (front_columns t) (length_of t) (values_of t) xs line no_value i (ordered t) long a h

  pub valued_right : values_fault (values_of t) (valued (values_of t) xs line) ≡ 0
  valued_right = fields_right (values_of t) xs (valued (values_of t) xs line) no_value a value_back

-- values leave the frame as it is
framed_values : (t : RecordType) (name : List ℕ) (from : ℕ) (vs : List Value) (xs line : List ℕ) → Ordered from (length_of t) vs → Framed t name line →
    Framed t name (valued vs xs line)
unfolding valued
framed_values t name from [] xs line o h = h
framed_values t name from (v ∷ vs) [] line o h = h
framed_values t name from (v ∷ vs) (x ∷ xs) line o h =
    let w = value_written v x line o.0 h.long in
    let bs = written v.width v.decimals x in
    framed_values t name (v.start - 1 + v.width) vs xs (put v.start bs line) o.1
    (framed_put t name v.start bs line o.0.named (omega (arith, w.wide, o.0.last)) h)

pub framed_valued : (t : RecordType) (name xs line : List ℕ) → Framed t name line → Framed t name (valued (values_of t) xs line)
framed_valued t name xs line h = framed_values t name (front_columns t) (values_of t) xs line (ordered t) h
