use Rattle.std.proofs.Common.{◌-◌, ◌≤◌, length}
use Rattle.outside.proofs.read_data.Given as goal

abbrev pub invariant-loop-size : goal.invariant-loop-size
invariant-loop-size l = l.size ≤ length l.data

abbrev pub decreases-loop-size : goal.decreases-loop-size
decreases-loop-size l = length l.data - l.size
