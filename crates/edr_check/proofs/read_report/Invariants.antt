use Rattle.std.proofs.Common.{◌-◌, ◌≤◌, length}
use Rattle.edr_check.proofs.read_report.Given as goal

abbrev pub invariant-loop-size : goal.invariant-loop-size
invariant-loop-size l = l.size ≤ length l.report

abbrev pub decreases-loop-size : goal.decreases-loop-size
decreases-loop-size l = length l.report - l.size
