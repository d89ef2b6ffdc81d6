-- The hour that was read, and whether it is late enough.
use borrow.Author.Tests.{lt-leb, le-leb}
use Rattle.lines.specs.LineFaults.{rising_fault, hour_number}
use Rattle.lines.proofs.Answers.{stamped_read}
use Rattle.lines.proofs.stamped_line.Goals as goal

pub returns-in-Some : goal.returns-in-Some
unfolding rising_fault hour_number
returns-in-Some c =
    rw (le-leb _ _ c.if-from-at.true) at
    (stamped_read _ c.args.period c.args.from _ c.requires.0 _ _ c.line_length.ensures.0 c.date_column.ensures _ c.in-Some.ensures)

pub returns-in_default : goal.returns-in_default
unfolding rising_fault hour_number
returns-in_default c =
    rw (lt-leb _ _ c.if-from-at.false) at
    (stamped_read _ c.args.period c.args.from _ c.requires.0 _ _ c.line_length.ensures.0 c.date_column.ensures _ c.in-Some.ensures)

pub returns-in_default-2 : goal.returns-in_default-2
unfolding rising_fault
returns-in_default-2 c = stamped_read _ _ _ _ c.requires.0 _ _ c.line_length.ensures.0 c.date_column.ensures _ c.in_default.ensures
