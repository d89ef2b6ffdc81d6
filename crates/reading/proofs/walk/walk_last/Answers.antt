-- The lines behind the 300 lines: they are passed, and nothing follows them.
use Rattle.std.specs.Prelude.{Err}
use Rattle.std.proofs.Common.{refl, sym, ap, ◌∙◌}
use Rattle.refusals.specs.Refusals.{on_paper}
use Rattle.refusals.proofs.There.{exit_there}
use Rattle.reading.proofs.Last.{last_stopped, last_over, last_done}
use Rattle.reading.proofs.walk.walk_last.Goals as goal

pub returns-in_err-end : goal.returns-in_err-end
returns-in_err-end c =
    let a = c.args in
    let e = c.in_err-end.field-0.0 in
    rw (exit_there c.from_residual.result e c.from_residual.ensures.1)
    (sym (last_stopped a.file.now a.period a.s a.start.line a.start.at _ c.in_err-end.ensures (on_paper e) refl))

pub returns-then-end-file : goal.returns-then-end-file
returns-then-end-file c =
    let a = c.args in
    ap (λ r. Err (on_paper r)) c.at.ensures
    ∙ sym (last_over a.file.now a.period a.s a.start.line a.start.at _ c.in_ok-end.ensures c.in_ok-end.end refl c.if-end-file.true)

pub returns : goal.returns
returns c =
    let a = c.args in
    sym (last_done a.file.now a.period a.s a.start.line a.start.at _ c.in_ok-end.ensures c.in_ok-end.end refl c.if-end-file.false)
