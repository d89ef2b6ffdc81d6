use Rattle.std.proofs.Common.{sym, ◌∙◌}
use Rattle.judging.proofs.RowLaws.{row_names, row_passed}
use Rattle.judging.proofs.type_named.Goals as goal

pub returns-then-number : goal.returns-then-number
returns-then-number c =
    row_names _ c.figures-row-items.ensures _ c.loop-row.row-index c.loop-row-test.true c.args.number (sym c.number.ensures ∙ c.if-number.true)
    ∙ c.loop-row.invariant

pub loop-row-preserved : goal.loop-row-preserved
loop-row-preserved c =
    row_passed _ c.figures-row-items.ensures _ c.loop-row.row-index c.loop-row-test.true c.args.number (λ e. c.if-number.false (c.number.ensures ∙ e))
    ∙ c.loop-row.invariant
