-- What is left of the lines, put into the buffer as it is, gives all lines, and the totals so far, grown by the hours that are left, are
-- those of all.
use Rattle.writer.proofs.Hours.{Passed}
use Rattle.writer.proofs.report.write_hours.Given as goal

abbrev pub invariant-loop-k : goal.invariant-loop-k
invariant-loop-k l = Passed l.fn.year l.fn.quarter l.name l.sheet l.fn.buffer l.s l.buffer l.totals l.k
