use Rattle.std.proofs.Common.{arith}
use Rattle.columns.proofs.Lows.{low_fits, low_next, low_whole}
use Rattle.columns.proofs.low_digits.Goals as goal

pub overflow_mul-value : goal.overflow_mul-value
overflow_mul-value c = omega (arith, low_fits _ _ _ _ c.loop-b.invariant c.loop-b-test.true c.requires)

pub overflow_add-value : goal.overflow_add-value
overflow_add-value c = omega (arith, low_fits _ _ _ _ c.loop-b.invariant c.loop-b-test.true c.requires)

pub loop-b-preserved : goal.loop-b-preserved
loop-b-preserved c = low_next _ _ _ _ c.loop-b.invariant c.loop-b-test.true _ c.from.ensures

pub returns : goal.returns
returns c = low_whole _ _ _ _ c.loop-b.invariant c.loop-b-test.false
