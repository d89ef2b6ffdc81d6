-- A line that is due: what every line is tried for, its date, GAS and its values, in this order.
use Rattle.std.proofs.Common.{sym, ap, ◌∙◌}
use Rattle.layout.specs.Layout.{values_of}
use Rattle.lines.specs.LineFaults.{values_fault, due_fault}
use Rattle.lines.proofs.FaultLaws.{common_shape}
use Rattle.lines.proofs.Rows as rows
use Rattle.lines.proofs.Told.{first_told, next_told, exit_told}
use Rattle.lines.proofs.try_tests.Goals as goal

pub returns-in_err-try_common : goal.returns-in_err-try_common
unfolding due_fault
returns-in_err-try_common c = rw (exit_told _ _ c.from_residual.ensures.1) (first_told _ _ _ c.in_err-try_common.ensures)

pub slice_bounds-line-end : goal.slice_bounds-line-end
slice_bounds-line-end c = rows.cut _ _ c.row_of-row.ensures _ (common_shape _ _ _ (sym c.in_ok-try_common.ensures))

pub try_ranked_date-requires : goal.try_ranked_date-requires
try_ranked_date-requires c = rows.date_room _ _ c.row_of-row.ensures _ (common_shape _ _ _ (sym c.in_ok-try_common.ensures)) _ c.requires.1

pub returns-in_err-try_ranked_date : goal.returns-in_err-try_ranked_date
unfolding due_fault
returns-in_err-try_ranked_date c =
    let date = rows.date_told _ _ c.row_of-row.ensures _ (common_shape _ _ _ (sym c.in_ok-try_common.ensures)) _ c.requires.1 in
    rw (exit_told _ _ c.from_residual-in_err-try_ranked_date.ensures.1)
    (next_told _ _ _ c.in_ok-try_common.ensures (first_told _ _ _ (c.in_err-try_ranked_date.ensures ∙ date)))

pub try_gas-requires : goal.try_gas-requires
try_gas-requires c = rows.gas_room _ _ c.row_of-row.ensures _ (common_shape _ _ _ (sym c.in_ok-try_common.ensures)) _ c.requires.1

pub returns-in_err-try_gas : goal.returns-in_err-try_gas
unfolding due_fault
returns-in_err-try_gas c =
    let date = rows.date_told _ _ c.row_of-row.ensures _ (common_shape _ _ _ (sym c.in_ok-try_common.ensures)) _ c.requires.1 in
    let gas = rows.gas_told _ _ c.row_of-row.ensures _ (common_shape _ _ _ (sym c.in_ok-try_common.ensures)) _ c.requires.1 in
    rw (exit_told _ _ c.from_residual-in_err-try_gas.ensures.1)
    (next_told _ _ _ c.in_ok-try_common.ensures
    (next_told _ _ _ (c.in_ok-try_ranked_date.ensures ∙ date) (first_told _ _ _ (c.in_err-try_gas.ensures ∙ gas))))

pub try_values-requires : goal.try_values-requires
try_values-requires c = rows.long _ _ c.row_of-row.ensures _ (common_shape _ _ _ (sym c.in_ok-try_common.ensures))

pub returns : goal.returns
unfolding due_fault
returns c =
    let date = rows.date_told _ _ c.row_of-row.ensures _ (common_shape _ _ _ (sym c.in_ok-try_common.ensures)) _ c.requires.1 in
    let gas = rows.gas_told _ _ c.row_of-row.ensures _ (common_shape _ _ _ (sym c.in_ok-try_common.ensures)) _ c.requires.1 in
    next_told _ _ _ c.in_ok-try_common.ensures
    (next_told _ _ _ (c.in_ok-try_ranked_date.ensures ∙ date)
    (next_told _ _ _ (c.in_ok-try_gas.ensures ∙ gas)
    (c.try_values.ensures
    ∙ ap (values_fault (values_of c.args.t)) (sym (rows.known _ _ c.row_of-row.ensures _ (common_shape _ _ _ (sym c.in_ok-try_common.ensures)))))))
