use Rattle.std.proofs.Common.{◌≡◌, ◌+◌, true}
use Rattle.columns.specs.Picture.{FitsFrom}
use Rattle.columns.proofs.block_fits.Given as goal

abbrev pub invariant-loop-i : goal.invariant-loop-i
invariant-loop-i l = l.fine ≡ true → FitsFrom l.from (l.from + l.i) l.picture l.line
