-- Each refusal by the law `outside`, the answer by `hour_is`.
use Rattle.std.proofs.Common.{ℕ, ap, sym, arith}
use Rattle.calendar.specs.Calendar.{days_in_month}
use Rattle.calendar.specs.MonthLaws.{month_length, days_before_lem}
use Rattle.calendar.specs.CalendarLaws.{outside}
use Rattle.calendar.proofs.Periods.{year_is, hour_is}
use Rattle.calendar.proofs.Period.hour_of.Goals as goal

pub returns-then-month-first : goal.returns-then-month-first
returns-then-month-first c = sym (outside _ _ _ (λ h. omega arith))

pub returns-then-first-month : goal.returns-then-first-month
returns-then-first-month c = sym (outside _ _ _ (λ h. omega arith))

pub returns-then-date-lt1 : goal.returns-then-date-lt1
returns-then-date-lt1 c = sym (outside _ _ _ (λ h. omega arith))

pub returns-then-days_in_month-date : goal.returns-then-days_in_month-date
returns-then-days_in_month-date c =
    let y = ap (λ (year : ℕ). days_in_month year c.args.date.month) (year_is _ c.self.inside c.self.view_is) in
    sym (outside _ _ _ (λ h. omega arith))

pub returns-then-date-gt23 : goal.returns-then-date-gt23
returns-then-date-gt23 c = sym (outside _ _ _ (λ h. omega arith))

pub overflow_add-result : goal.overflow_add-result
overflow_add-result c = omega (arith, days_before_lem _ _ _ _ c.days_before.ensures, month_length _ _ _ c.days_in_month.ensures)

pub overflow_mul-result : goal.overflow_mul-result
overflow_mul-result c = omega (arith, days_before_lem _ _ _ _ c.days_before.ensures, month_length _ _ _ c.days_in_month.ensures)

pub overflow_add-result-2 : goal.overflow_add-result-2
overflow_add-result-2 c = omega (arith, days_before_lem _ _ _ _ c.days_before.ensures, month_length _ _ _ c.days_in_month.ensures)

pub returns : goal.returns
returns c =
    let y = ap (λ (year : ℕ). days_in_month year c.args.date.month) (year_is _ c.self.inside c.self.view_is) in
    hour_is _ c.self.inside c.self.view_is _ c.first_month-first.ensures.months _ _ c.days_before.ensures (omega arith)
