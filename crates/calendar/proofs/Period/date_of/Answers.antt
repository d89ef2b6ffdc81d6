-- By the month in which the day lies.
use Rattle.std.proofs.Common.{refl, arith}
use Rattle.calendar.specs.MonthLaws.{month_length, starts}
use Rattle.calendar.proofs.Periods.{hours_are, date_is, date_digits}
use Rattle.calendar.proofs.Period.date_of.Goals as goal

pub returns-then-day-second-clause-date : goal.returns-then-day-second-clause-date
returns-then-day-second-clause-date c =
    let s = starts c.self.inside.year c.first_month-first.result in
    date_is _ c.self.inside c.self.view_is _ c.first_month-first.ensures.months _ _ (omega arith) (omega arith) refl

pub returns-then-day-second-clause-digits : goal.returns-then-day-second-clause-digits
returns-then-day-second-clause-digits c =
    date_digits _ c.self.inside c.self.view_is c.self.invariant _ c.requires _ (returns-then-day-second-clause-date c)

pub overflow_add-third : goal.overflow_add-third
overflow_add-third c = omega (arith, month_length _ _ _ c.days_in_month-second.ensures, month_length _ _ _ c.days_in_month.ensures)

pub returns-then-day-third-clause-date : goal.returns-then-day-third-clause-date
returns-then-day-third-clause-date c =
    let s = starts c.self.inside.year c.first_month-first.result in
    date_is _ c.self.inside c.self.view_is _ c.first_month-first.ensures.months _ _ (omega arith) (omega arith) refl

pub returns-then-day-third-clause-digits : goal.returns-then-day-third-clause-digits
returns-then-day-third-clause-digits c =
    date_digits _ c.self.inside c.self.view_is c.self.invariant _ c.requires _ (returns-then-day-third-clause-date c)

pub returns-clause-date : goal.returns-clause-date
returns-clause-date c =
    let s = starts c.self.inside.year c.first_month-first.result in
    let h = hours_are _ c.self.inside c.self.view_is _ c.first_month-first.ensures.months _ _ _ refl refl refl in
    date_is _ c.self.inside c.self.view_is _ c.first_month-first.ensures.months _ _ (omega arith) (omega arith) refl

pub returns-clause-digits : goal.returns-clause-digits
returns-clause-digits c = date_digits _ c.self.inside c.self.view_is c.self.invariant _ c.requires _ (returns-clause-date c)
