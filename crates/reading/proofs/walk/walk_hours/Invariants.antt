-- With each 200 line, what is left to walk is what the whole was, and the hours rise.
use Rattle.std.proofs.Common.{◌-◌, length}
use Rattle.reading.proofs.Rising.{Rising}
use Rattle.reading.proofs.walk.walk_hours.Given as goal

abbrev pub invariant-loop-at : goal.invariant-loop-at
invariant-loop-at l = Rising l.file l.period l.n l.from l.at

abbrev pub decreases-loop-at : goal.decreases-loop-at
decreases-loop-at l = length l.file - l.at
