use Rattle.std.proofs.Common.{◌≡◌, ℕ, refl, ◌∙◌}
use Rattle.columns.specs.Number.{number_of}
use Rattle.layout.specs.Layout.{value_at}
use Rattle.layout.specs.declared.RecordType.TheVariants.{QuarterTotals}
use Rattle.lines.specs.LineFaults.{field_in}
use Rattle.reading.specs.Recorded.{value_on, totals_in}
use Rattle.reading.specs.RecordLaws.{hours_standing}
use Rattle.reading.specs.RankLaws.{value_stands, once_stands}
use Rattle.recorded.proofs.LineLaws.{on_line}
use Rattle.recorded.proofs.Records.totals.Goals as goal

pub returns : goal.returns
unfolding totals_in
returns c =
    let r = c.args.self in
    let l = c.line_at-line in
    let total : (i : ℕ) → number_of (field_in (value_at l.result.record_type i) l.result.text.now) ≡ value_on r.file.now QuarterTotals 0 i =
    λ i. on_line l.ensures i ∙ value_stands r.file.now r.shape QuarterTotals 0 0 (once_stands r.file.now r.shape r.standing QuarterTotals refl) i in
    rw (← hours_standing r.file.now r.shape r.standing, c.value.ensures ∙ total 0, c.value-2.ensures ∙ total 1)
    (rw (c.value-3.ensures ∙ total 2, c.value-4.ensures ∙ total 3, c.value-5.ensures ∙ total 4))
