-- The report that was read lies within the buffer.
use Rattle.std.proofs.Common.{arith, sym}
use Rattle.std.proofs.lemmas.List.{length-take-le}
use Rattle.edr_check.specs.InputLaws.{report_size}
use Rattle.edr_check.proofs.main.Goals as goal

pub slice_bounds-report-end : goal.slice_bounds-report-end
slice_bounds-report-end c =
    let came = report_size _ _ _ c.in-Report.ensures in
    omega (arith, came, c.read_report-reads.ensures.within)

pub slice_bounds-answer_line-end : goal.slice_bounds-answer_line-end
slice_bounds-answer_line-end c =
    let came = report_size _ _ _ c.in-Report.ensures in
    sym (length-take-le _ _ (omega (arith, came, c.read_report-reads.ensures.within)))
