-- The words before rank i are recoded, and those from it on as they were.
use Rattle.std.proofs.Common.{◌≡◌, ◌++◌, take, drop}
use Rattle.conversion.specs.Conversion.{recoded_from}
use Rattle.conversion.proofs.recode.Given as goal

abbrev pub invariant-loop-i : goal.invariant-loop-i
invariant-loop-i l = take l.i l.sheet ++ recoded_from l.i (drop l.i l.sheet) ≡ recoded_from 0 l.fn.sheet
