-- A line is written number by number: what is left, put behind what stands there, gives the whole line.
use Rattle.std.proofs.Common.{◌≡◌, ◌+◌, ◌*◌, ◌≤◌, length}
use Rattle.columns.specs.Columns.{put}
use Rattle.printing.proofs.Lines.{left_from}
use Rattle.printing.proofs.print_line.Given as goal

abbrev pub invariant-loop-number : goal.invariant-loop-number
invariant-loop-number l =
    (1 ≤ l.column)
    × (l.column ≤ l.initial.column + 21 * l.number-index)
    × (length l.line ≡ length l.initial.line)
    × (l.column + length (left_from l.number-index l.numbers) ≡ l.initial.column + length (left_from 0 l.numbers))
    × (put l.column (left_from l.number-index l.numbers) l.line ≡ put l.initial.column (left_from 0 l.numbers) l.initial.line)
