use Rattle.std.proofs.Common.{◌≡◌, drop}
use Rattle.judging.specs.Judged.{figures_tried, type_among, type_named}
use Rattle.judging.proofs.type_named.Given as goal

-- what is left of the table names what the whole does
abbrev pub invariant-loop-row : goal.invariant-loop-row
invariant-loop-row l = type_among (drop l.row-index figures_tried) l.number ≡ type_named l.number
