-- The block that ends with the last column reaches back to the others.
use Rattle.std.proofs.Common.{◌≡◌, ℕ, ◌+◌, ◌-◌, ◌*◌, length, refl, subst, arith}
use Rattle.columns.specs.Picture.{FitsFrom}
use Rattle.columns.proofs.Pictures.{fits_joined}
use Rattle.columns.proofs.fits.Goals as goal

pub returns : goal.returns
returns c e =
    let picture = c.args.picture.now in
    let last = length picture - 16 in
    let whole : last + 16 ≡ length picture = omega (arith, c.if-picture-lt-BLOCK.false) in
    fits_joined picture c.args.line.now (c.loop-k.k * 16) last _ (omega (arith, c.div_ceil-k-end.ensures, c.loop-k-test.false)) c.loop-k.invariant
    (subst (λ (n : ℕ). FitsFrom last n picture c.args.line.now) whole (c.if-not-block_fits.ensures refl))
