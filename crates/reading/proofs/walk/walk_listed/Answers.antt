-- What follows the 300 lines.
use Rattle.std.proofs.Common.{ℕ, ◌-◌, sym, ap, ◌∙◌, drop}
use Rattle.layout.specs.Layout.{shape_with}
use Rattle.lines.specs.Lines.{lines}
use Rattle.refusals.proofs.There.{exit_there}
use Rattle.reading.specs.Reading.{walk_last, walk_listed}
use Rattle.reading.specs.Places.{facility_of, hour_lines_in}
use Rattle.reading.specs.HourLineLaws.{hour_lines_length}
use Rattle.reading.proofs.walk.walk_listed.Goals as goal

pub returns-in_err-next : goal.returns-in_err-next
unfolding walk_listed
returns-in_err-next c =
    let e = c.in_err-next.field-0.0 in
    rw (exit_there c.from_residual.result e c.from_residual.ensures.1) (c.in_err-next.ensures.reads _)

pub returns : goal.returns
unfolding walk_listed
returns c =
    let a = c.args in
    let next = c.in_ok-next.next in
    c.walk_last.ensures
    ∙ ap (λ (n : ℕ). walk_last (facility_of a.file.now) a.period (shape_with n (next.line - a.start.line)) next.line
    (hour_lines_in a.file.now a.n) (lines (drop next.at a.file.now))) (sym (hour_lines_length a.file.now a.n))
    ∙ c.in_ok-next.ensures.reads _
