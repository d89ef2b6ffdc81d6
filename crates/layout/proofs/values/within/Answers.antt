-- A number lies within where it is in the range and a multiple of the step.
use Rattle.std.proofs.Common.{ap₂, ◌&&◌}
use Rattle.layout.specs.Values.{within}
use Rattle.layout.proofs.values.within.Goals as goal

pub returns : goal.returns
unfolding within
returns c = ap₂ ◌&&◌ c.in_range.ensures c.whole_steps.ensures
