-- A value is blank where each of its columns is.
use mathlib.Core.Path.{sym, ◌∙◌}
use Rattle.columns.specs.Columns.{columns}
use Rattle.columns.proofs.NumberLaws.{field_empty}
use Rattle.lines.specs.LineFaults.{so2_blank}
use borrow.Author.Rules.{rules}
use Rattle.lines.proofs.gas.so2_blank.Statement.{statement}
use Rattle.lines.proofs.gas.so2_blank.Tie as tie

sub-from : tie.Need-overflow_sub-from
sub-from c = search rules

add-all-blank : tie.Need-overflow_add-from
add-all-blank c = search rules

sub-all-blank : tie.Need-slice_bounds-all_blank-count
sub-all-blank c = search rules

part-all-blank-start : tie.Need-slice_bounds-all_blank-start
part-all-blank-start c = search rules

part-all-blank-end : tie.Need-slice_bounds-all_blank-end
part-all-blank-end c = search rules

all-blank-requires : tie.Need-all_blank-requires
all-blank-requires c κs = search rules

returns : tie.Need-returns
unfolding so2_blank columns
returns c = c.all_blank.ensures ∙ sym (field_empty 1 _)

pub so2_blank_spec : {M : Type 1} → statement M
so2_blank_spec =
    tie.close
    (tie.spec
    sub-from
    add-all-blank
    sub-all-blank
    part-all-blank-start
    part-all-blank-end
    all-blank-requires
    returns)
