-- The time of a 300 line, and by it what an operating or an idle hour is tried for.
use Rattle.std.proofs.Common.{refl, ◌∙◌, arith}
use Rattle.lines.specs.declared.operation.OperationLine.TheVariants.{Operating, Idle}
use Rattle.lines.specs.LineFaults.{said_of}
use Rattle.lines.proofs.Answers.{idle_told, operating_told}
use Rattle.lines.proofs.Told.{exit_told, operation_told}
use Rattle.lines.proofs.operation.timed_line.Goals as goal

pub returns-in_err-try_idle : goal.returns-in_err-try_idle
returns-in_err-try_idle c =
    rw (exit_told _ _ c.from_residual-in_err-try_idle.ensures.1)
    (operation_told _ _ (Idle c.args.hour) refl
    ∙ idle_told _ _ _ _ c.read_number-time.ensures.0 c.in_ok-try_field.ensures (omega arith) _ c.read_number.ensures.0 _ c.in_err-try_idle.ensures)

pub returns-then-number_of-eq0 : goal.returns-then-number_of-eq0
unfolding said_of
returns-then-number_of-eq0 c =
    idle_told _ _ _ _ c.read_number-time.ensures.0 c.in_ok-try_field.ensures (omega arith) _ c.read_number.ensures.0 0 c.in_ok-try_idle.ensures

pub returns-in_err-try_operating : goal.returns-in_err-try_operating
returns-in_err-try_operating c =
    rw (exit_told _ _ c.from_residual-in_err-try_operating.ensures.1)
    (operation_told _ _ (Operating c.args.hour) refl
    ∙ operating_told _ _ _ _ c.read_number-time.ensures.0 c.in_ok-try_field.ensures (omega arith) _ c.in_err-try_operating.ensures)

pub returns : goal.returns
unfolding said_of
returns c = operating_told _ _ _ _ c.read_number-time.ensures.0 c.in_ok-try_field.ensures (omega arith) 0 c.in_ok-try_operating.ensures
