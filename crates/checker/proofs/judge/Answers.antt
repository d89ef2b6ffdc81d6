-- The verdict as an answer: the hour of a failure becomes a line.
use Rattle.std.specs.Prelude.{Err}
use Rattle.std.proofs.Common.{sym, ap, ◌∙◌}
use Rattle.judging.specs.Judged.{rank_told}
use Rattle.refusals.specs.Refusals.{fault_number, on_paper}
use Rattle.checker.specs.Checked.{judged, answer_of, refused_at}
use Rattle.checker.proofs.JudgingLaws.{failure_record}
use Rattle.checker.proofs.judge.Goals as goal

pub failure_line-requires : goal.failure_line-requires
failure_line-requires c =
    let f = c.in-Err.failure in
    failure_record c.args.records.file.now c.args.records.shape c.requires (fault_number f.fault) (rank_told f.hour) (sym c.in-Err.ensures)

pub returns-in-Ok : goal.returns-in-Ok
unfolding judged
returns-in-Ok c = ap (answer_of c.args.records.file.now) c.in-Ok.ensures

pub returns-in-Err : goal.returns-in-Err
unfolding judged
returns-in-Err c =
    let f = c.in-Err.failure in
    ap (λ r. Err (on_paper r)) c.at.ensures ∙ ap (refused_at (fault_number f.fault)) c.failure_line.ensures
    ∙ ap (answer_of c.args.records.file.now) c.in-Err.ensures
