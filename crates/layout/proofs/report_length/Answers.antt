-- The last type's run ends the report.
use Rattle.std.proofs.Common.{◌∙◌, arith}
use Rattle.layout.specs.LayoutLaws.{report_length_lem}
use Rattle.layout.proofs.PlaceLaws.{report_ends}
use Rattle.layout.proofs.report_length.Goals as goal

pub returns : goal.returns
returns c =
    let s = c.args.s in
    let e = c.offset_of.ensures ∙ report_ends s in
    (e, omega (arith, e, report_length_lem s, c.requires.hours, c.requires.operations))
