use Rattle.std.proofs.Common.{◌≡◌, ◌++◌, length, drop}
use Rattle.columns.specs.Written.{leading}
use Rattle.filling.proofs.fill_leading.Given as goal

abbrev pub invariant-loop-place : goal.invariant-loop-place
invariant-loop-place l = leading l.place l.rest ++ drop l.place l.field ≡ leading (length l.fn.field) l.value
