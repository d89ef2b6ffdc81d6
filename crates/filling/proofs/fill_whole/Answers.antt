use Rattle.std.proofs.Common.{◌≡◌, ◌-◌, ◌/◌, length, length-set, arith}
use Rattle.std.specs.Prelude.{min}
use lib.ListN.{length-take}
use Rattle.columns.specs.Written.{leading}
use Rattle.filling.proofs.Fields.{whole_filled}
use Rattle.filling.proofs.fill_whole.Goals as goal

pub returns : goal.returns
returns c =
    let field = c.args.field.now in
    let n : min (length field - 1) (length field) ≡ length field - 1 = omega arith in
    let e : c.fill_leading.new.field ≡ leading (length field - 1) (c.args.value / 10) = simp (length-take, length-set, n) at c.fill_leading.ensures in
    rw e (whole_filled field c.args.value (omega arith))
