use Rattle.std.proofs.Common.{◌≡◌, length, ap, ◌∙◌, arith}
use Rattle.columns.specs.Columns.{columns}
use Rattle.columns.specs.Number.{digits_from, digits_only}
use Rattle.columns.proofs.ColumnsLaws.{columns_length}
use Rattle.columns.proofs.NumberLaws.{columns_digits_bound}
use Rattle.columns.proofs.Reading.{part_columns, room_none}
use Rattle.columns.proofs.read_digits.Goals as goal

pub digits_behind-requires : goal.digits_behind-requires
digits_behind-requires c =
    let x = c.args in
    let field = columns x.start x.width x.line.now in
    rw part_columns (room_none (length field) (rw (columns_length x.start x.width x.line.now (omega arith)) (omega arith)))

pub returns : goal.returns
returns c =
    let x = c.args in
    let e : c.digits_behind.result ≡ digits_only (columns x.start x.width x.line.now) =
    c.digits_behind.ensures ∙ ap (digits_from 0) (part_columns x.start x.width x.line.now) in
    (e, rw e (columns_digits_bound x.start x.width x.line.now (omega arith)))
