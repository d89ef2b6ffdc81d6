-- What follows the runs in front of the 300 lines.
use Rattle.std.proofs.Common.{◌∙◌}
use Rattle.refusals.proofs.There.{exit_there}
use Rattle.reading.specs.Reading.{walk_later}
use Rattle.reading.proofs.walk.walk_later.Goals as goal

pub returns-in_err-next : goal.returns-in_err-next
unfolding walk_later
returns-in_err-next c =
    let e = c.in_err-next.field-0.0 in
    rw (exit_there c.from_residual.result e c.from_residual.ensures.1) (c.in_err-next.ensures.reads _)

pub returns : goal.returns
unfolding walk_later
returns c = c.walk_listed.ensures ∙ c.in_ok-next.ensures.reads _
