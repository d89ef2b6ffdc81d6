-- What the fields of a period say of it, and what it says of its hours.
use Rattle.std.specs.Prelude.{Some}
use Rattle.std.proofs.Common.{◌≡◌, ◌+◌, ◌-◌, ◌*◌, ◌/◌, ◌%◌, ◌≤◌, ◌<◌, ℕ, ap, sym, ◌∙◌, arith}
use mathlib.Core.Path.{subst}
use Rattle.calendar.specs.Calendar.{IsQuarter, TwoDigits, Period, most_hours, first_month, days_in_month, hours_in_quarter, days_before, hour_of_quarter}
use Rattle.calendar.specs.Calendar.{LiesIn, quarter_hour, date_of_hour}
use Rattle.calendar.specs.MonthLaws.{Holds}
use Rattle.calendar.specs.CalendarLaws.{hours_from, hours_in_quarter_lem, date_at_lem, date_of_hour_two_digits, inside}
use Rattle.calendar.specs.declared.Date.{Date}
use Rattle.calendar.specs.declared.Period.TheInside.{Inside}
use Rattle.calendar.specs.contracts.Period.{the_view}

module _ (p : Period) (fields : Inside) (is : the_view fields ≡ p) where
  pub year_is : fields.year ≡ p.year
  year_is = ap (λ (p : Period). p.year) is

  pub quarter_is : IsQuarter fields.quarter → IsQuarter p.quarter
  quarter_is q = subst (λ (p : Period). IsQuarter p.quarter) is q

  module _ (first : ℕ) (months : first ≡ first_month p.quarter) where
    pub hours_are :
        (a b c : ℕ) → a ≡ days_in_month fields.year first → b ≡ days_in_month fields.year (first + 1) → c ≡ days_in_month fields.year (first + 2) →
        24 * (a + b + c) ≡ hours_in_quarter p.year p.quarter
    hours_are a b c d e f =
        let h : 24 * (a + b + c) ≡ hours_in_quarter fields.year p.quarter = omega (arith, hours_from fields.year p.quarter first months) in
        h ∙ ap (λ (year : ℕ). hours_in_quarter year p.quarter) year_is

    pub date_is :
        (hour : ℕ) (date : Date) → Holds fields.year first date.month (hour / 24) →
        date.day ≡ hour / 24 - days_before fields.year first date.month + 1 → date.hour ≡ hour % 24 → date ≡ date_of_hour p.year p.quarter hour
    date_is hour date h d k =
        sym (date_at_lem fields.year p.quarter first months date hour h d k) ∙ ap (λ (year : ℕ). date_of_hour year p.quarter hour) year_is

    pub hour_is :
        (date : Date) (days : ℕ) → days ≡ days_before fields.year first date.month → LiesIn p.year p.quarter date →
        Some (24 * (days + (date.day - 1)) + date.hour) ≡ quarter_hour p.year p.quarter date
    unfolding hour_of_quarter
    hour_is date days e h =
        let d : days ≡ days_before p.year (first_month p.quarter) date.month =
        e ∙ ap (λ (year : ℕ). days_before year first date.month) year_is ∙ ap (λ (first : ℕ). days_before p.year first date.month) months
        in
        ap Some (omega arith) ∙ sym (inside p.year p.quarter date h)

  module _ (q : IsQuarter fields.quarter) where
    pub hours_most : (hours : ℕ) → hours ≡ hours_in_quarter p.year p.quarter → hours ≤ most_hours
    hours_most hours e = omega (arith, hours_in_quarter_lem p.year p.quarter (quarter_is q))

    pub date_digits : (hour : ℕ) → hour < hours_in_quarter p.year p.quarter → (date : Date) → date ≡ date_of_hour p.year p.quarter hour → TwoDigits date
    date_digits hour h date e = subst TwoDigits (sym e) (date_of_hour_two_digits p.year p.quarter (quarter_is q) hour h)
