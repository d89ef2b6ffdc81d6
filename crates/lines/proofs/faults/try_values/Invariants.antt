-- What is left from the i-th value on has the fault of the whole.
use Rattle.std.proofs.Common.{◌≡◌, drop}
use Rattle.layout.specs.Layout.{values_of}
use Rattle.lines.specs.LineFaults.{values_fault}
use Rattle.lines.proofs.faults.try_values.Given as goal

abbrev pub invariant-loop-i : goal.invariant-loop-i
invariant-loop-i l = values_fault (drop l.i (values_of l.t)) l.line ≡ values_fault (values_of l.t) l.line
