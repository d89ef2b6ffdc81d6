-- An hour's stamp names the hour.
use Rattle.std.specs.Prelude.{◌≡◌, ℕ, ◌/◌, ◌%◌, ◌^◌, ◌<◌, Bool, true, false, cond, List, length, ◌==◌, Some, None}
use Rattle.std.proofs.Math.Path.{refl, ap}
use Rattle.std.proofs.Common.{◌∙◌}
use native.Mathlib.Omega.{arith}
use borrow.Author.Tests.{eqb-true, eq-eqb}
use Rattle.columns.specs.Bytes.{all, is_printable}
use Rattle.columns.specs.Number.{digits_only}
use Rattle.columns.specs.Written.{digits_of}
use Rattle.columns.proofs.WrittenLaws.{read_digits_written, digits_length, digits_printable}
use Rattle.columns.specs.declared.Field.{Field}
use Rattle.columns.specs.declared.Field.TheVariants.{Blank, Malformed, Number}
use Rattle.layout.specs.Layout.{date_width}
use Rattle.layout.specs.Values.{quarter_digit, Within}
use Rattle.calendar.specs.Calendar.{most_hours, IsQuarter, hours_in_quarter, hour_of_quarter, quarter_hour, date_of_hour, LiesIn, TwoDigits}
use Rattle.calendar.specs.CalendarLaws.{date_of_hour_two_digits, hours_in_quarter_lem, hour_at_lem, at_hour, inside}
use Rattle.calendar.specs.declared.Date.{Date}
use Rattle.stamp.specs.Stamp.{number_date, number_hour, field_hour, stamp_hour, date_number, stamp_number, stamp_of}

-- a number in the range of line 100's quarter is a quarter
pub is_quarter_lem : (q : ℕ) → Within quarter_digit q → IsQuarter q
is_quarter_lem q w = record { least = w.least; most = w.most }

pub stamp_digits : (year quarter hour : ℕ) → digits_of date_width (stamp_number year quarter hour) ≡ stamp_of year quarter hour
unfolding stamp_of
stamp_digits year quarter hour = refl

pub stamp_length : (year quarter hour : ℕ) → length (stamp_of year quarter hour) ≡ date_width
unfolding stamp_of
stamp_length year quarter hour = digits_length date_width (stamp_number year quarter hour)

pub date_number_below : (year : ℕ) (date : Date) → TwoDigits date → date_number year date < 10 ^ date_width
date_number_below year date t = omega arith

number_date_lem : (year : ℕ) (date : Date) → TwoDigits date → number_date (date_number year date) ≡ date
number_date_lem year date t =
    let m : date_number year date / 10_000 % 100 ≡ date.month = omega arith in
    let d : date_number year date / 100 % 100 ≡ date.day = omega arith in
    let h : date_number year date % 100 ≡ date.hour = omega arith in
    rw (m, d, h)

module _ (year quarter : ℕ) where
  number_inside : (v hour : ℕ) → number_hour year quarter v ≡ Some hour → hour < hours_in_quarter year quarter
  unfolding number_hour
  number_inside v hour e = go (v / 1_000_000 == year % 100) e
    where
      go : (t : Bool) → cond t (quarter_hour year quarter (number_date v)) None ≡ Some hour → hour < hours_in_quarter year quarter
      go true k = (at_hour year quarter (number_date v) hour k).below
      go false k = absurd (let z : ◌≡◌ {A = ℕ} 0 1 = cc in omega arith)

  -- the hour that columns name is one that the quarter has
  pub stamp_inside : (bs : List ℕ) (hour : ℕ) → stamp_hour year quarter bs ≡ Some hour → hour < hours_in_quarter year quarter
  unfolding stamp_hour field_hour
  stamp_inside bs hour e = go (digits_only bs) e
    where
      go : (f : Field) → field_hour year quarter f ≡ Some hour → hour < hours_in_quarter year quarter
      go Blank k = absurd (let z : ◌≡◌ {A = ℕ} 0 1 = cc in omega arith)
      go Malformed k = absurd (let z : ◌≡◌ {A = ℕ} 0 1 = cc in omega arith)
      go (Number v) k = number_inside v hour k

  -- eight columns that name an hour of the quarter are digits, YY those of the year, MMDD and HH a real date and hour of the quarter, that one
  abbrev Says : List ℕ → ℕ → Type 0
  Says bs hour =
      (v : ℕ) × (digits_only bs ≡ Number v) × (v / 1_000_000 ≡ year % 100) × LiesIn year quarter (number_date v)
      × (hour_of_quarter year quarter (number_date v) ≡ hour)

  pub stamp_says : (bs : List ℕ) (hour : ℕ) → stamp_hour year quarter bs ≡ Some hour → Says bs hour
  unfolding stamp_hour field_hour number_hour
  stamp_says bs hour e = go (digits_only bs) refl e
    where
      own : (v : ℕ) → digits_only bs ≡ Number v → (t : Bool) → (v / 1_000_000 == year % 100) ≡ t →
          cond t (quarter_hour year quarter (number_date v)) None ≡ Some hour → Says bs hour
      own v e true y k = let a = at_hour year quarter (number_date v) hour k in (v, e, eqb-true _ _ y, a.lies, a.own)
      own v e false y k = absurd (let z : ◌≡◌ {A = ℕ} 0 1 = cc in omega arith)

      go : (f : Field) → digits_only bs ≡ f → field_hour year quarter f ≡ Some hour → Says bs hour
      go Blank e k = absurd (let z : ◌≡◌ {A = ℕ} 0 1 = cc in omega arith)
      go Malformed e k = absurd (let z : ◌≡◌ {A = ℕ} 0 1 = cc in omega arith)
      go (Number v) e k = own v e (v / 1_000_000 == year % 100) refl k

  pub says_stamp : (bs : List ℕ) (hour : ℕ) → Says bs hour → stamp_hour year quarter bs ≡ Some hour
  unfolding stamp_hour field_hour number_hour
  says_stamp bs hour s =
      rw (s.1, field_hour, number_hour, eq-eqb _ _ s.2) (inside year quarter (number_date s.0) s.3 ∙ ap Some s.4)

module _ (year quarter : ℕ) (q : IsQuarter quarter) where
  pub stamp_names : (hour : ℕ) → hour < hours_in_quarter year quarter → stamp_hour year quarter (stamp_of year quarter hour) ≡ Some hour
  unfolding stamp_hour stamp_of stamp_number field_hour number_hour
  stamp_names hour h =
      let t = date_of_hour_two_digits year quarter q hour h in
      let date = date_of_hour year quarter hour in
      let y : date_number year date / 1_000_000 ≡ year % 100 = omega arith in
      rw (read_digits_written date_width (date_number year date) (date_number_below year date t), eq-eqb _ _ y, number_date_lem year date t)
      (hour_at_lem year quarter hour h)

  -- the hour that columns name is one of the quarter's
  pub stamp_below : (bs : List ℕ) (hour : ℕ) → stamp_hour year quarter bs ≡ Some hour → hour < most_hours
  stamp_below bs hour e = omega (arith, stamp_inside year quarter bs hour e, hours_in_quarter_lem year quarter q)

pub stamp_printable : (year quarter hour : ℕ) → all is_printable (stamp_of year quarter hour) ≡ true
unfolding stamp_of
stamp_printable year quarter hour = digits_printable date_width (stamp_number year quarter hour)
