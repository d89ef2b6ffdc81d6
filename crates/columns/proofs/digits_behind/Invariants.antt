use Rattle.columns.proofs.Digits.{Left}
use Rattle.columns.proofs.digits_behind.Given as goal

abbrev pub invariant-loop-b : goal.invariant-loop-b
invariant-loop-b l = Left l.before l.bytes l.value l.b-index
