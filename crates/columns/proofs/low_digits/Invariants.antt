use Rattle.columns.proofs.Lows.{LowLeft}
use Rattle.columns.proofs.low_digits.Given as goal

abbrev pub invariant-loop-b : goal.invariant-loop-b
invariant-loop-b l = LowLeft l.before l.bytes l.value l.b-index
