-- A line with byte 10 behind it that fits its type's picture, and has the stack name.
use Rattle.std.proofs.Common.{sym, ◌∙◌, arith}
use Rattle.lines.proofs.PictureLines.{picture_cut, fitting_line}
use Rattle.lines.proofs.picture.is_pictured.Goals as goal

pub slice_bounds-fits-end : goal.slice_bounds-fits-end
slice_bounds-fits-end c = picture_cut _ _ _ c.requires.1 c.requires.2

pub returns : goal.returns
returns c e =
    fitting_line _ _ _ _ _ c.requires.1 c.requires.2 c.if-rest-long.false (omega arith) (c.fits.ensures c.if-not-fits.false) (sym c.same_bytes.ensures ∙ e)
