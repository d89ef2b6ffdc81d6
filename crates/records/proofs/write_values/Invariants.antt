-- The values from the i-th on, put into the line as it is, give the whole.
use Rattle.std.proofs.Common.{◌≡◌, length}
use Rattle.layout.specs.Layout.{values_of}
use Rattle.records.specs.Records.{valued}
use Rattle.records.proofs.Lines.{values_left}
use Rattle.records.proofs.write_values.Given as goal

abbrev pub invariant-loop-i : goal.invariant-loop-i
invariant-loop-i l =
    (length l.line ≡ length l.fn.line) × (values_left l.t l.values l.i l.line ≡ valued (values_of l.t) l.values l.fn.line)
