use Rattle.std.proofs.Common.{◌≡◌, ap, ◌∙◌, arith}
use Rattle.columns.specs.Written.{digits_of}
use Rattle.columns.proofs.WrittenLaws.{digits_length}
use Rattle.filling.proofs.Fields.{put_part, part_length}
use Rattle.filling.proofs.write_digits.Goals as goal

pub returns : goal.returns
returns c =
    let x = c.args in
    let e : c.fill_digits.new.field ≡ digits_of x.width x.value =
    c.fill_digits.ensures.0 ∙ ap (λ n. digits_of n x.value) (part_length x.start x.width x.line.now (omega arith)) in
    rw e (put_part x.start x.width x.line.now (digits_of x.width x.value) (digits_length x.width x.value))
