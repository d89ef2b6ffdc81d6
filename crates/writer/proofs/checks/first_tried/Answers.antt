use Rattle.std.proofs.Common.{refl, arith}
use Rattle.refusals.proofs.Numbers.{write_positive}
use Rattle.writer.proofs.OnePass.{tried_second, tried_first, tried_least, tried_kept}
use Rattle.writer.proofs.checks.first_tried.Goals as goal

pub returns-in-Ok-default : goal.returns-in-Ok-default
returns-in-Ok-default c = rw c.in-Ok-default.is-0 (tried_second 0 _ refl)

pub returns-in_default-Ok : goal.returns-in_default-Ok
returns-in_default-Ok c = rw c.in_default-Ok.is-1 (tried_first _ 0 refl)

pub returns-then-number : goal.returns-then-number
returns-then-number c =
    let r = c.in-Err-Err in
    rw (r.is-0, r.is-1) (tried_least _ _ (write_positive r.x) (write_positive r.y) (omega arith))

pub returns-else-number : goal.returns-else-number
returns-else-number c =
    let r = c.in-Err-Err in
    rw (r.is-0, r.is-1) (tried_kept _ _ (write_positive r.x) (write_positive r.y) (omega arith))
