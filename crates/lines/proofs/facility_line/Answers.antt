-- Its quarter is in the range of its column.
use Rattle.std.proofs.Common.{sym, ◌∙◌}
use Rattle.layout.specs.LayoutLaws.{within_true}
use Rattle.layout.specs.Values.{quarter_digit}
use Rattle.stamp.specs.StampLaws.{is_quarter_lem}
use Rattle.lines.proofs.facility_line.Goals as goal

pub new-requires : goal.new-requires
new-requires c = is_quarter_lem _ (within_true quarter_digit _ (sym c.within-2.ensures ∙ c.if-not-within-2.false))
