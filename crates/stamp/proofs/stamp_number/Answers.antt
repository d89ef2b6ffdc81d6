-- The number is that of the date of the hour.
use Rattle.std.proofs.Common.{ℕ, ap, ◌∙◌}
use Rattle.calendar.proofs.Periods.{year_is}
use Rattle.stamp.specs.Stamp.{date_number, stamp_number}
use Rattle.stamp.proofs.stamp_number.Goals as goal

pub returns : goal.returns
unfolding stamp_number
returns c =
    let p = c.args.period in
    c.date_number.ensures
    ∙ ap (λ (year : ℕ). date_number year c.date_of.result) (year_is p c.period.inside c.period.view_is)
    ∙ ap (date_number p.year) c.date_of.ensures.date
