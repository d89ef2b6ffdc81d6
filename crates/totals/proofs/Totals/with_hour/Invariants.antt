use Rattle.std.proofs.Common.{◌≡◌}
use Rattle.totals.proofs.Sums.{Grown}
use Rattle.totals.proofs.Totals.with_hour.Given as goal

abbrev pub invariant-loop-i : goal.invariant-loop-i
invariant-loop-i l = Grown l.fn.self.sums l.share l.self.sums l.i × (l.self.hours ≡ l.fn.self.hours)
