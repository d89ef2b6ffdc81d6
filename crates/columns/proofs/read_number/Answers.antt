use Rattle.std.proofs.Common.{◌≡◌, sym, ap, ◌∙◌, arith}
use Rattle.columns.specs.Columns.{columns}
use Rattle.columns.specs.Number.{whole_of, fixed_of, field_of}
use Rattle.columns.proofs.NumberLaws.{columns_number_bound, field_whole, field_fixed}
use Rattle.columns.proofs.Reading.{part_columns}
use Rattle.columns.proofs.read_number.Goals as goal

pub returns-then-decimals-eq0 : goal.returns-then-decimals-eq0
returns-then-decimals-eq0 c =
    let x = c.args in
    let field = columns x.start x.width x.line.now in
    let e : c.whole_number.result ≡ field_of x.decimals field =
    c.whole_number.ensures ∙ ap whole_of (part_columns x.start x.width x.line.now) ∙ sym (field_whole x.decimals field c.if-decimals-eq0.true) in
    (e, rw e (columns_number_bound x.start x.width x.line.now (omega arith) x.decimals))

pub returns : goal.returns
returns c =
    let x = c.args in
    let field = columns x.start x.width x.line.now in
    let e : c.fixed_number.result ≡ field_of x.decimals field =
    c.fixed_number.ensures
    ∙ ap (fixed_of x.decimals) (part_columns x.start x.width x.line.now)
    ∙ sym (field_fixed x.decimals field (omega arith)) in
    (e, rw e (columns_number_bound x.start x.width x.line.now (omega arith) x.decimals))
