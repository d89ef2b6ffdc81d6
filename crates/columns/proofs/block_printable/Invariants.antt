use Rattle.std.proofs.Common.{◌≡◌, ◌&&◌, drop}
use Rattle.columns.specs.Bytes.{is_printable, all}
use Rattle.columns.proofs.block_printable.Given as goal

abbrev pub invariant-loop-b : goal.invariant-loop-b
invariant-loop-b l = (l.fine && all is_printable (drop l.b-index l.bytes)) ≡ all is_printable l.bytes
