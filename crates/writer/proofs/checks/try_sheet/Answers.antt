-- What one pass over the hours finds is what the tests find in their order.
use Rattle.std.proofs.Common.{sym, ap, ◌∙◌, arith}
use Rattle.std.proofs.lemmas.Result.{err_from_is_err_and}
use Rattle.layout.specs.Layout.{report_length}
use Rattle.sheet.proofs.TestLaws.{heading_true, sheet_true, shape_held}
use Rattle.refusals.proofs.Numbers.{write_positive}
use Rattle.writer.proofs.FirstRefusal.{heading_wrong, words_wrong, found_first, room_short, room_enough, none_found}
use Rattle.writer.proofs.checks.try_sheet.Goals as goal
use Rattle.writer.proofs.checks.try_sheet.Goals.{then-not-heading_holds-via-then-not-heading_holds}
use Rattle.writer.proofs.checks.try_sheet.Goals.{then-not-heading_holds-via-else-not-heading_holds+then-sheet-ne0}

pub returns-then-not-heading_holds : goal.returns-then-not-heading_holds
returns-then-not-heading_holds c =
    elim c.then-not-heading_holds.branch [
      | then-not-heading_holds-via-then-not-heading_holds w ↦ heading_wrong _ _ _ _ _ (sym c.heading_holds.ensures ∙ w.if-not-heading_holds.true)
      | then-not-heading_holds-via-else-not-heading_holds+then-sheet-ne0 w ↦
          words_wrong _ _ _ _ _ (sym c.heading_holds.ensures ∙ w.if-not-heading_holds.false) w.if-sheet-ne0.true
    ]

pub new-requires : goal.new-requires
new-requires c = (heading_true _ _ _ (sym c.heading_holds.ensures ∙ c.if-not-heading_holds.false)).is_quarter

pub returns-in_err-try_hours : goal.returns-in_err-try_hours
returns-in_err-try_hours c =
    let p = err_from_is_err_and c.from_residual.result c.from_residual.ensures.1 in
    let found = rw (c.hours.ensures.hours, c.new.ensures) at c.in_err-try_hours.ensures in
    rw (p.1, p.2)
    (found_first _ _ _ _ _ (sym c.heading_holds.ensures ∙ c.if-not-heading_holds.false) c.if-sheet-ne0.false _ found
    (λ z. omega (arith, write_positive c.in_err-try_hours.field-0.0)))

pub report_length-requires : goal.report_length-requires
report_length-requires c =
    let found = rw (c.hours.ensures.hours, c.new.ensures) at c.in_ok-try_hours.ensures in
    let headed = sym c.heading_holds.ensures ∙ c.if-not-heading_holds.false in
    rw c.shape_of.ensures (shape_held _ _ _ _ (sheet_true _ _ _ _ (none_found _ _ _ _ 0 headed c.if-sheet-ne0.false (sym found))))

pub returns-then-room-report_length : goal.returns-then-room-report_length
returns-then-room-report_length c =
    let found = rw (c.hours.ensures.hours, c.new.ensures) at c.in_ok-try_hours.ensures in
    let headed = sym c.heading_holds.ensures ∙ c.if-not-heading_holds.false in
    let long = c.report_length.ensures.0 ∙ ap report_length c.shape_of.ensures in
    room_short _ _ _ _ _ headed c.if-sheet-ne0.false (sym found) long c.if-room-report_length.true

pub returns : goal.returns
returns c =
    let found = rw (c.hours.ensures.hours, c.new.ensures) at c.in_ok-try_hours.ensures in
    let headed = sym c.heading_holds.ensures ∙ c.if-not-heading_holds.false in
    let long = c.report_length.ensures.0 ∙ ap report_length c.shape_of.ensures in
    room_enough _ _ _ _ _ headed c.if-sheet-ne0.false (sym found) long c.if-room-report_length.false
