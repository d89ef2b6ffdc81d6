-- The kinds from word j of the hour on decide as all six do.
use Rattle.std.proofs.Common.{◌≡◌, ◌-◌}
use Rattle.sheet.specs.Sheet.{hour_words}
use Rattle.sheet.specs.SheetTests.{kinds_rise, hour_kinds}
use Rattle.sheet.proofs.kinds_hold.Given as goal

abbrev pub invariant-loop-j : goal.invariant-loop-j
invariant-loop-j l = kinds_rise l.sheet l.k l.j (hour_words - l.j) ≡ hour_kinds l.sheet l.k
