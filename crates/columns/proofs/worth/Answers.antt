use Rattle.std.proofs.Common.{◌≡◌, length, sym, ap, ◌∙◌, arith}
use Rattle.columns.specs.Columns.{columns}
use Rattle.columns.specs.Worth.{low_from, fixed_worth}
use Rattle.columns.proofs.ColumnsLaws.{columns_length}
use Rattle.columns.proofs.WorthLaws.{worth_whole, worth_fixed}
use Rattle.columns.proofs.Reading.{part_columns}
use Rattle.columns.proofs.Lows.{low_none}
use Rattle.columns.proofs.worth.Goals as goal

pub low_digits-requires : goal.low_digits-requires
low_digits-requires c =
    let x = c.args in
    let n : length (columns x.start x.width x.line.now) ≡ x.width = columns_length x.start x.width x.line.now (omega arith) in
    low_none _ (rw (part_columns, n) (omega arith))

pub returns-then-decimals-eq0 : goal.returns-then-decimals-eq0
returns-then-decimals-eq0 c =
    let x = c.args in
    c.low_digits.ensures.0
    ∙ ap (low_from 0) (part_columns x.start x.width x.line.now)
    ∙ sym (worth_whole x.decimals (columns x.start x.width x.line.now) c.if-decimals-eq0.true)

pub returns : goal.returns
returns c =
    let x = c.args in
    c.fixed_worth.ensures
    ∙ ap (fixed_worth x.decimals) (part_columns x.start x.width x.line.now)
    ∙ sym (worth_fixed x.decimals (columns x.start x.width x.line.now) (omega arith))
