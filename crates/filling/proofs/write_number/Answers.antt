use Rattle.std.proofs.Common.{◌≡◌, ◌+◌, ◌≤◌, ap, ◌∙◌, arith}
use Rattle.columns.specs.Written.{whole_written, fixed_written}
use Rattle.columns.proofs.NumberLaws.{fewest_decimals}
use Rattle.columns.proofs.WrittenLaws.{whole_length, fixed_length, written_whole, written_fixed}
use Rattle.filling.proofs.Fields.{put_part, part_length}
use Rattle.filling.proofs.write_number.Goals as goal

pub returns-then-decimals-eq0 : goal.returns-then-decimals-eq0
returns-then-decimals-eq0 c =
    let x = c.args in
    let e : c.fill_whole.new.field ≡ whole_written x.width x.value =
    c.fill_whole.ensures ∙ ap (λ n. whole_written n x.value) (part_length x.start x.width x.line.now (omega arith)) in
    rw (e, written_whole x.width x.decimals x.value c.if-decimals-eq0.true)
    (put_part x.start x.width x.line.now (whole_written x.width x.value) (whole_length x.width x.value))

pub returns : goal.returns
returns c =
    let x = c.args in
    let w : x.decimals + 2 ≤ x.width = fewest_decimals x.decimals x.width (omega arith) c.requires.decimals_bound in
    let bytes = fixed_written x.width x.decimals x.value in
    let e : c.fill_fixed.new.field ≡ bytes =
    c.fill_fixed.ensures ∙ ap (λ n. fixed_written n x.decimals x.value) (part_length x.start x.width x.line.now (omega arith)) in
    rw (e, written_fixed x.width x.decimals x.value (omega arith))
    (put_part x.start x.width x.line.now bytes (fixed_length x.width x.decimals x.value (omega arith)))
