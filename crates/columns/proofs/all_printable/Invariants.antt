use Rattle.std.proofs.Common.{◌≡◌, ◌*◌, true, take}
use Rattle.columns.specs.Bytes.{is_printable, all}
use Rattle.columns.proofs.all_printable.Given as goal

abbrev pub invariant-loop-k : goal.invariant-loop-k
invariant-loop-k l = all is_printable (take (l.k * 16) l.bytes) ≡ true
