-- With each 300 line, what is left to walk is what the whole was; hours rise, so there are at most 2,208.
use Rattle.std.proofs.Common.{◌-◌, length}
use Rattle.reading.proofs.Listing.{Listing}
use Rattle.reading.proofs.walk.walk_operations.Given as goal

abbrev pub invariant-loop-at : goal.invariant-loop-at
invariant-loop-at l = Listing l.file l.period l.n l.fn.start l.at l.line l.from l.rank

abbrev pub decreases-loop-at : goal.decreases-loop-at
decreases-loop-at l = length l.file - l.at
