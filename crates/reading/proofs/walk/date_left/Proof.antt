-- The date of the operating hour of a rank, and nothing where there is none.
use mathlib.Core.Path.{sym, ap, ◌∙◌}
use native.Mathlib.Omega.{arith}
use lib.ListN.{length}
use Rattle.columns.specs.Columns.{columns}
use Rattle.layout.specs.declared.RecordType.TheVariants.{So2Concentration}
use Rattle.lines.specs.LineFaults.{date_on}
use Rattle.reading.specs.Reading.{next_date}
use Rattle.reading.proofs.Runs.{first_left, hour_lines_over, hour_long}
use borrow.Author.Rules.{rules}
use Rattle.reading.proofs.walk.date_left.Statement.{statement}
use Rattle.reading.proofs.walk.date_left.Tie as tie

-- the places of the code, each from the next one below it
abbrev start : tie.After-hour_text-hour → tie.Start
start c = c.before.before.before

hour-text-requires : tie.Need-hour_text-hour-requires
hour-text-requires c κs = search rules

sub-result : tie.Need-slice_bounds-result-count
sub-result c = search rules

part-result-start : tie.Need-slice_bounds-result-start
part-result-start c = search rules

part-result-end : tie.Need-slice_bounds-result-end
part-result-end c =
    let x = start c in
    omega (arith, ap length c.hour_text-hour.ensures, hour_long x.args.file.now x.args.n x.args.k x.requires c.before.if-k-n.true)

returns : tie.Need-returns-then-k-n
unfolding columns
returns c =
    let h = c.before in
    let x = (start h).args in
    ap (date_on So2Concentration) h.hour_text-hour.ensures ∙ sym (ap next_date (first_left x.file.now x.n x.k h.before.if-k-n.true))

slice-aggregate-result : tie.Need-slice_bounds-result-end-2
slice-aggregate-result c = search rules

returns-2 : tie.Need-returns
unfolding columns
returns-2 c =
    let x = c.before.before.args in
    sym (ap next_date (hour_lines_over x.file.now x.n x.k c.if-k-n.false))

pub date_left_spec : {M : Type 1} → statement M
date_left_spec =
    tie.close
    (tie.spec
    hour-text-requires
    sub-result
    part-result-start
    part-result-end
    returns
    slice-aggregate-result
    returns-2)
