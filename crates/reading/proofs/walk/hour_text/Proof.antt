-- The 200 line of a rank.
use mathlib.Core.Path.{sym}
use native.Mathlib.Omega.{arith}
use Rattle.reading.proofs.Runs.{hour_part}
use borrow.Author.Rules.{rules}
use Rattle.reading.proofs.walk.hour_text.Statement.{statement}
use Rattle.reading.proofs.walk.hour_text.Tie as tie

mul-from : tie.Need-overflow_mul-from
mul-from c = omega (arith, c.requires.0.most, c.requires.1)

add-from : tie.Need-overflow_add-from
add-from c = omega (arith, c.requires.0.most, c.requires.1)

add-result : tie.Need-overflow_add-result
add-result c = omega (arith, c.requires.0.most, c.requires.1)

sub-result : tie.Need-slice_bounds-result-count
sub-result c = search rules

part-result-start : tie.Need-slice_bounds-result-start
part-result-start c = search rules

part-result-end : tie.Need-slice_bounds-result-end
part-result-end c = omega (arith, c.requires.0.room, c.requires.1)

returns : tie.Need-returns
returns c = let x = c.before.args in sym (hour_part x.file.now x.k)

pub hour_text_spec : {M : Type 1} → statement M
hour_text_spec =
    tie.close
    (tie.spec
    mul-from
    add-from
    add-result
    sub-result
    part-result-start
    part-result-end
    returns)
