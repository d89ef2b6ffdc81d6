-- By units that are no digit, and units that are one.
use Rattle.std.proofs.Common.{◌∙◌, arith}
use Rattle.stamp.specs.PairLaws.{low_units, high_units, digit_units}
use Rattle.stamp.proofs.two_digits.Goals as goal

pub returns-then-units-lt48 : goal.returns-then-units-lt48
returns-then-units-lt48 c = low_units c.args.start c.args.line.now c.requires (omega arith)

pub returns-then-units-gt57 : goal.returns-then-units-gt57
returns-then-units-gt57 c = high_units c.args.start c.args.line.now c.requires (omega arith)

pub returns : goal.returns
returns c = digit_units c.args.start c.args.line.now c.requires _ (omega arith) (omega arith) (omega arith) (c.wrapping_sub_u64.ensures.value ∙ omega arith)
