-- The hour pass stands at an hour, and at a figure of it.
use Rattle.checker.proofs.Pass.{HourPass, FigurePass}
use Rattle.checker.proofs.verdict.Given as goal

abbrev pub invariant-loop-k : goal.invariant-loop-k
invariant-loop-k l = HourPass l.records.file.now l.records.shape l.totals l.k l.from

abbrev pub invariant-loop-figure : goal.invariant-loop-figure
invariant-loop-figure l = FigurePass l.records.file.now l.records.shape l.k l.hour l.figure-index
