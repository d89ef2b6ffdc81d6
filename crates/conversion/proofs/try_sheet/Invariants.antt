-- The words from rank i on decide as all do, with what the flows before have said.
use Rattle.std.proofs.Common.{◌≡◌, ◌&&◌, drop}
use Rattle.conversion.specs.Conversion.{kind_right, flow_right, each_word}
use Rattle.conversion.proofs.try_sheet.Given as goal

abbrev pub invariant-loop-i : goal.invariant-loop-i
invariant-loop-i l = record {
  kinds : each_word kind_right l.i (drop l.i l.sheet) ≡ each_word kind_right 0 l.sheet;
  thousands : (l.flows && each_word flow_right l.i (drop l.i l.sheet)) ≡ each_word flow_right 0 l.sheet;
}
