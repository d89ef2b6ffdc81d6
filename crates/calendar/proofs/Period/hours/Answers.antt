-- The days of its months, each of 31 at most.
use Rattle.std.proofs.Common.{arith}
use Rattle.calendar.specs.MonthLaws.{month_length}
use Rattle.calendar.proofs.Periods.{hours_are, hours_most}
use Rattle.calendar.proofs.Period.hours.Goals as goal

pub overflow_add-result : goal.overflow_add-result
overflow_add-result c = omega (arith, month_length _ _ _ c.days_in_month.ensures, month_length _ _ _ c.days_in_month-2.ensures)

pub overflow_add-result-2 : goal.overflow_add-result-2
overflow_add-result-2 c =
    omega (
      arith,
      month_length _ _ _ c.days_in_month.ensures,
      month_length _ _ _ c.days_in_month-2.ensures,
      month_length _ _ _ c.days_in_month-3.ensures,
    )

pub overflow_mul-result : goal.overflow_mul-result
overflow_mul-result c =
    omega (
      arith,
      month_length _ _ _ c.days_in_month.ensures,
      month_length _ _ _ c.days_in_month-2.ensures,
      month_length _ _ _ c.days_in_month-3.ensures,
    )

pub returns-clause-hours : goal.returns-clause-hours
returns-clause-hours c =
    hours_are _ c.self.inside c.self.view_is _ c.first_month-first.ensures.months _ _ _
    c.days_in_month.ensures c.days_in_month-2.ensures c.days_in_month-3.ensures

pub returns-clause-most : goal.returns-clause-most
returns-clause-most c =
    hours_most _ c.self.inside c.self.view_is c.self.invariant _
    (hours_are _ c.self.inside c.self.view_is _ c.first_month-first.ensures.months _ _ _
    c.days_in_month.ensures c.days_in_month-2.ensures c.days_in_month-3.ensures)
