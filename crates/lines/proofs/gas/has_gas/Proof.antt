-- The columns of GAS, compared with it.
use Rattle.columns.specs.Columns.{columns}
use Rattle.lines.specs.LineFaults.{has_gas}
use borrow.Author.Rules.{rules}
use Rattle.lines.proofs.gas.has_gas.Statement.{statement}
use Rattle.lines.proofs.gas.has_gas.Tie as tie

sub-same-bytes : tie.Need-slice_bounds-same_bytes-count
sub-same-bytes c = search rules

part-same-bytes-start : tie.Need-slice_bounds-same_bytes-start
part-same-bytes-start c = search rules

part-same-bytes-end : tie.Need-slice_bounds-same_bytes-end
part-same-bytes-end c = search rules

same-bytes-requires : tie.Need-same_bytes-requires
same-bytes-requires c κs = search rules

returns : tie.Need-returns
unfolding has_gas columns
returns c = c.same_bytes.ensures

pub has_gas_spec : {M : Type 1} → statement M
has_gas_spec =
    tie.close
    (tie.spec
    sub-same-bytes
    part-same-bytes-start
    part-same-bytes-end
    same-bytes-requires
    returns)
