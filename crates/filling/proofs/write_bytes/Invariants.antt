use Rattle.std.proofs.Common.{◌≡◌, ◌-◌}
use lib.Seq.{paste}
use Rattle.filling.proofs.write_bytes.Given as goal

abbrev pub invariant-loop-i : goal.invariant-loop-i
invariant-loop-i l = l.line ≡ paste l.fn.line (l.start - 1) l.bytes l.i
