use Rattle.std.proofs.Common.{arith}
use Rattle.columns.specs.Picture.{passes}
use Rattle.columns.proofs.Pictures.{fits_one}
use Rattle.columns.proofs.block_fits.Goals as goal

pub loop-i-preserved : goal.loop-i-preserved
unfolding passes
loop-i-preserved c = fits_one _ _ _ _ _ _ (omega arith) c.loop-i.invariant
