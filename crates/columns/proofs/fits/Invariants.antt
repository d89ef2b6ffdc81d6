use Rattle.std.proofs.Common.{◌*◌}
use Rattle.columns.specs.Picture.{FitsFrom}
use Rattle.columns.proofs.fits.Given as goal

abbrev pub invariant-loop-k : goal.invariant-loop-k
invariant-loop-k l = FitsFrom 0 (l.k * 16) l.picture l.line
