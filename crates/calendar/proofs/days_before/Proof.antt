-- `calendar::days_before` is `days_before`.
use Prim.Native.Nat.{◌+◌}
use native.Mathlib.Omega.{arith}
use Rattle.calendar.specs.MonthLaws.{month_length, starts}
use Rattle.calendar.specs.Calendar.{days_before}
use mathlib.Core.Path.{◌≡◌, sym, ap, ◌∙◌}
use borrow.Author.Rules.{rules}
use Rattle.calendar.proofs.days_before.Statement.{statement}
use Rattle.calendar.proofs.days_before.Tie as tie

abbrev start : tie.After-days_in_month-days → tie.Start
start c = c.before.before

returns : tie.Need-returns-then-month-first
returns c =
    let d = c.before.args in
    sym (ap (days_before d.year d.first) c.if-month-first.true ∙ (starts d.year d.first).one)

days-in-month-requires : tie.Need-days_in_month-days-requires
days-in-month-requires c κs = search rules

add-if2 : tie.Need-overflow_add-first
add-if2 c = search rules

returns-2 : tie.Need-returns-then-month-first-2
returns-2 c =
    let d = (start c.before).args in
    c.before.days_in_month-days.ensures ∙ sym (ap (days_before d.year d.first) c.if-month-first-2.true ∙ (starts d.year d.first).two)

add-days-in-month : tie.Need-overflow_add-first-2
add-days-in-month c = search rules

days-in-month-requires-2 : tie.Need-days_in_month-requires
days-in-month-requires-2 c κs = search rules

add-result : tie.Need-overflow_add-result
add-result c = omega (arith, month_length _ _ _ c.days_in_month.ensures, month_length _ _ _ c.before.before.days_in_month-days.ensures)

returns-3 : tie.Need-returns
returns-3 c =
    let d = (start c.before.before).args in
    let e : d.month ≡ d.first + 2 = omega arith in
    omega (arith, ap (days_before d.year d.first) e, starts d.year d.first)

pub days_before_spec : {M : Type 1} → statement M
days_before_spec =
    tie.close
    (tie.spec
    returns
    days-in-month-requires
    add-if2
    returns-2
    add-days-in-month
    days-in-month-requires-2
    add-result
    returns-3)
