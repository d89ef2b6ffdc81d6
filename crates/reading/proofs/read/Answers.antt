-- The last byte of the file, its facility line, and what follows it.
use Rattle.std.specs.Prelude.{Err}
use Rattle.std.proofs.Common.{sym, ap, ◌∙◌, arith}
use Rattle.refusals.specs.Refusals.{on_paper, told, fault_in, fault_number}
use Rattle.refusals.proofs.There.{refused_there, faulty_there, passed_there, exit_there}
use Rattle.reading.proofs.Starting.{read_empty, read_open, read_ended, walk_found, walk_passed, facility_room}
use Rattle.reading.proofs.read.Goals as goal

pub returns-in_default : goal.returns-in_default
returns-in_default c =
    ap (λ r. Err (on_paper r)) c.at.ensures ∙ sym (read_empty c.args.file.now (omega (arith, c.in_default.ensures.item.3)))

pub returns-then-last-ne10 : goal.returns-then-last-ne10
returns-then-last-ne10 c =
    let there = c.in-Some.ensures.item.3 in
    ap (λ r. Err (on_paper r)) c.at-then-last-ne10.ensures
    ∙ sym (read_open c.args.file.now there.0 (λ e. c.if-last-ne10.true (there.1 0 ∙ e)))

pub returns-in_err-period : goal.returns-in_err-period
returns-in_err-period c =
    let file = c.args.file.now in
    let there = c.in-Some.ensures.item.3 in
    let r = c.facility_line.result in
    let e = c.in_err-period.field-0.0 in
    rw (exit_there c.from_residual.result e c.from_residual.ensures.1)
    (ap Err (refused_there r 1 e c.in_err-period.ensures)
    ∙ walk_found file there.0 (fault_in fault_number r) (sym c.facility_line.ensures ∙ faulty_there r 1 e c.in_err-period.ensures)
    ∙ sym (read_ended file there.0 (sym (there.1 0) ∙ c.if-last-ne10.false)))

pub walk_hours-requires : goal.walk_hours-requires
walk_hours-requires c =
    let file = c.args.file.now in
    let there = c.in-Some.ensures.item.3 in
    let period = c.in_ok-period.period in
    let said = sym c.facility_line.ensures ∙ ap (told fault_number) (passed_there c.facility_line.result 1 period c.in_ok-period.ensures) in
    facility_room file there.0 period said

pub returns : goal.returns
returns c =
    let file = c.args.file.now in
    let there = c.in-Some.ensures.item.3 in
    let period = c.in_ok-period.period in
    let said = sym c.facility_line.ensures ∙ ap (told fault_number) (passed_there c.facility_line.result 1 period c.in_ok-period.ensures) in
    c.walk_hours.ensures ∙ walk_passed file there.0 period said ∙ sym (read_ended file there.0 (sym (there.1 0) ∙ c.if-last-ne10.false))
