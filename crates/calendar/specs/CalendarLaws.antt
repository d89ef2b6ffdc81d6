-- What holds of the hours and the dates of a quarter: how many hours there are, that hours and dates are each other's inverse,
-- and what bounds them.
use Rattle.std.specs.Prelude.{ℕ, ◌+◌, ◌*◌, ◌-◌, ◌/◌, ◌%◌, ◌<◌, Bool, ◌&&◌, ◌≡◌, leb, Some, None}
use Rattle.std.proofs.Math.Bool.{true, false, cond, and-eq-true_iff}
use Rattle.std.proofs.Math.Path.{refl, subst⁻¹}
use Rattle.std.proofs.Common.{ap, sym, ◌∙◌}
use native.Mathlib.Omega.{arith}
use Rattle.std.proofs.Math.Decide.{ℕ_discrete}
use borrow.Author.Tests.{le-leb, leb-true}
use Rattle.calendar.specs.declared.Date.{Date}
use Rattle.calendar.specs.Calendar.{LiesIn, TwoDigits, most_hours, IsQuarter, leap_year, days_in_month, first_month, days_in_quarter, hours_in_quarter}
use Rattle.calendar.specs.Calendar.{in_quarter, days_before, hour_of_quarter, month_of_day, date_of_hour, quarter_hour, Between}
use Rattle.calendar.specs.MonthLaws.{cond_between, days_in_month_lem, month_ends, Holds, month_starts, month_holds, month_of_day_lem}

all_five : (a b c d e : Bool) → (a && b && c && d && e) ≡ true → (a ≡ true) × (b ≡ true) × (c ≡ true) × (d ≡ true) × (e ≡ true)
all_five a b c d e h =
    let p = (and-eq-true_iff (a && b && c && d) e).0 h in
    let q = (and-eq-true_iff (a && b && c) d).0 p.0 in
    let r = (and-eq-true_iff (a && b) c).0 q.0 in
    let s = (and-eq-true_iff a b).0 r.0 in
    (s.0, s.1, r.1, q.1, p.1)

module _ (year quarter : ℕ) (date : Date) where
  pub lies_in : in_quarter year quarter date ≡ true → LiesIn year quarter date
  unfolding in_quarter
  lies_in e =
      let h =
      all_five (leb (first_month quarter) date.month) (leb date.month (first_month quarter + 2))
      (leb 1 date.day) (leb date.day (days_in_month year date.month)) (leb date.hour 23) e
      in
      omega (
        arith,
        leb-true (first_month quarter) date.month h.0,
        leb-true date.month (first_month quarter + 2) h.1,
        leb-true 1 date.day h.2,
        leb-true date.day (days_in_month year date.month) h.3,
        leb-true date.hour 23 h.4,
      )

  pub in_quarter_lem : LiesIn year quarter date → in_quarter year quarter date ≡ true
  unfolding in_quarter
  in_quarter_lem h =
      simp (
        le-leb (first_month quarter) date.month h.months.least,
        le-leb date.month (first_month quarter + 2) h.months.most,
        le-leb 1 date.day h.days.least,
        le-leb date.day (days_in_month year date.month) h.days.most,
        le-leb date.hour 23 h.hours,
      )

same_date :
    {month month' day day' hour hour' : ℕ} → month ≡ month' → day ≡ day' → hour ≡ hour' →
    ◌≡◌ {A = Date} (record { month = month; day = day; hour = hour }) (record { month = month'; day = day'; hour = hour' })
same_date p q r = cc

-- How many hours

by_quarter : (P : ℕ → Type 0) → P 1 → P 2 → P 3 → P 4 → (quarter : ℕ) → IsQuarter quarter → P quarter
by_quarter P one two three four quarter h = go (ℕ_discrete quarter 1) (ℕ_discrete quarter 2) (ℕ_discrete quarter 3)
  where
    go : Dec (quarter ≡ 1) → Dec (quarter ≡ 2) → Dec (quarter ≡ 3) → P quarter
    go (yes e) d f = subst⁻¹ P e one
    go (no n) (yes e) f = subst⁻¹ P e two
    go (no n) (no m) (yes e) = subst⁻¹ P e three
    go (no n) (no m) (no o) = subst⁻¹ P (omega arith) four

pub hours_in_quarter_lem : (year quarter : ℕ) → IsQuarter quarter → Between 2160 (hours_in_quarter year quarter) most_hours
unfolding hours_in_quarter days_in_quarter days_in_month
hours_in_quarter_lem year =
    by_quarter (λ quarter. Between 2160 (hours_in_quarter year quarter) most_hours)
    (omega (arith, cond_between 28 29 29 28 (leap_year year) (omega arith) (omega arith)))
    (omega arith) (omega arith) (omega arith)

pub hours_from :
    (year quarter first : ℕ) → first ≡ first_month quarter →
    hours_in_quarter year quarter ≡ 24 * (days_in_month year first + days_in_month year (first + 1) + days_in_month year (first + 2))
unfolding hours_in_quarter days_in_quarter
hours_from year quarter first e = rw e

-- Hours to dates and back

module _ (year quarter : ℕ) where
  pub hour_of_date : (hour : ℕ) → hour_of_quarter year quarter (date_of_hour year quarter hour) ≡ hour
  unfolding hour_of_quarter date_of_hour
  hour_of_date hour = omega (arith, month_starts year (first_month quarter) (hour / 24))

  pub date_in_quarter : (hour : ℕ) → hour < hours_in_quarter year quarter → LiesIn year quarter (date_of_hour year quarter hour)
  unfolding date_of_hour hours_in_quarter days_in_quarter
  date_in_quarter hour h = omega (arith, month_holds year (first_month quarter) (hour / 24) (omega arith))

  pub hour_in_quarter : (date : Date) → LiesIn year quarter date → hour_of_quarter year quarter date < hours_in_quarter year quarter
  unfolding hour_of_quarter hours_in_quarter days_in_quarter
  hour_in_quarter date h = omega (arith, month_ends year (first_month quarter) date.month h.months)

  -- a date is that of an hour, if its day is the hour's in its month and its hour the hour's in the day
  pub date_at_lem :
      (first : ℕ) → first ≡ first_month quarter → (date : Date) (hour : ℕ) → Holds year first date.month (hour / 24) →
      date.day ≡ hour / 24 - days_before year first date.month + 1 → date.hour ≡ hour % 24 → date_of_hour year quarter hour ≡ date
  unfolding date_of_hour
  date_at_lem first e date hour h d k =
      let m : month_of_day year first (hour / 24) ≡ date.month = month_of_day_lem year first (hour / 24) date.month h in
      rw (← e) (same_date m (rw m (sym d)) (sym k))

  pub date_of_hour_lem : (date : Date) → LiesIn year quarter date → date_of_hour year quarter (hour_of_quarter year quarter date) ≡ date
  unfolding hour_of_quarter
  date_of_hour_lem date h = date_at_lem (first_month quarter) refl date (hour_of_quarter year quarter date) (omega arith) (omega arith) (omega arith)

module _ (year quarter : ℕ) (q : IsQuarter quarter) where
  pub two_digits : (date : Date) → LiesIn year quarter date → TwoDigits date
  two_digits date h = omega (arith, days_in_month_lem year date.month)

  pub date_of_hour_two_digits : (hour : ℕ) → hour < hours_in_quarter year quarter → TwoDigits (date_of_hour year quarter hour)
  date_of_hour_two_digits hour h = two_digits (date_of_hour year quarter hour) (date_in_quarter year quarter hour h)

-- Where a date lies in the quarter

pub record AtHour (year quarter : ℕ) (date : Date) (hour : ℕ) : Type 0 where
  pub lies : LiesIn year quarter date
  pub own : hour_of_quarter year quarter date ≡ hour
  pub below : hour < hours_in_quarter year quarter
  pub back : date_of_hour year quarter hour ≡ date

module _ (year quarter : ℕ) (date : Date) where
  pub inside : LiesIn year quarter date → quarter_hour year quarter date ≡ Some (hour_of_quarter year quarter date)
  unfolding quarter_hour
  inside h = simp (in_quarter_lem year quarter date h)

  pub outside : (LiesIn year quarter date → ⊥) → quarter_hour year quarter date ≡ None
  unfolding quarter_hour
  outside n = go (in_quarter year quarter date) (lies_in year quarter date)
    where
      go : (t : Bool) → (t ≡ true → LiesIn year quarter date) → cond t (Some (hour_of_quarter year quarter date)) None ≡ None
      go true h = absurd (n (h refl))
      go false h = refl

  -- At is the answer for the dates of the quarter alone, each at its own hour
  pub at_hour : (hour : ℕ) → quarter_hour year quarter date ≡ Some hour → AtHour year quarter date hour
  unfolding quarter_hour
  at_hour hour = go (in_quarter year quarter date) (lies_in year quarter date)
    where
      own : LiesIn year quarter date → hour_of_quarter year quarter date ≡ hour → AtHour year quarter date hour
      own h e =
          record {
            lies = h;
            own = e;
            below = rw e at (hour_in_quarter year quarter date h);
            back = rw e at (date_of_hour_lem year quarter date h);
          }

      go :
          (t : Bool) → (t ≡ true → LiesIn year quarter date) → cond t (Some (hour_of_quarter year quarter date)) None ≡ Some hour →
          AtHour year quarter date hour
      go true h e = own (h refl) (cc)
      go false h e = let z : ◌≡◌ {A = ℕ} 0 1 = cc in absurd (omega arith)

  pub at_hour_below : IsQuarter quarter → (hour : ℕ) → quarter_hour year quarter date ≡ Some hour → hour < most_hours
  at_hour_below q hour e = omega (arith, (at_hour hour e).below, hours_in_quarter_lem year quarter q)

-- each hour of the quarter is the answer for its date
pub hour_at_lem : (year quarter hour : ℕ) → hour < hours_in_quarter year quarter → quarter_hour year quarter (date_of_hour year quarter hour) ≡ Some hour
hour_at_lem year quarter hour h =
    inside year quarter (date_of_hour year quarter hour) (date_in_quarter year quarter hour h) ∙ ap Some (hour_of_date year quarter hour)
