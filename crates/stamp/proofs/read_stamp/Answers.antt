-- The law `stamp_by_pairs`, with the four pairs that were read.
use Rattle.std.proofs.Common.{ℕ, ◌%◌, ap, sym, ◌∙◌, eq-eqb, ne_eqb}
use Rattle.calendar.proofs.Periods.{year_is, quarter_is}
use Rattle.stamp.specs.PairLaws.{stamp_by_pairs}
use Rattle.stamp.proofs.read_stamp.Goals as goal

pub returns-then-year_digits-period : goal.returns-then-year_digits-period
returns-then-year_digits-period c =
    let p = c.args.period in
    let y = ap (λ (year : ℕ). year % 100) (year_is p c.period.inside c.period.view_is) in
    sym (stamp_by_pairs c.args.line.now p.year p.quarter (quarter_is p c.period.inside c.period.view_is c.period.invariant) c.args.start c.requires _ _ _ _
    c.two_digits-year_digits.ensures c.two_digits.ensures c.two_digits-2.ensures c.two_digits-3.ensures
    ∙ rw (ne_eqb _ _ (λ e. c.if-year_digits-period.true (e ∙ sym y))))

pub returns : goal.returns
returns c =
    let p = c.args.period in
    let y = ap (λ (year : ℕ). year % 100) (year_is p c.period.inside c.period.view_is) in
    c.hour_of.ensures
    ∙ sym (stamp_by_pairs c.args.line.now p.year p.quarter (quarter_is p c.period.inside c.period.view_is c.period.invariant) c.args.start c.requires _ _ _ _
    c.two_digits-year_digits.ensures c.two_digits.ensures c.two_digits-2.ensures c.two_digits-3.ensures
    ∙ rw (eq-eqb _ _ (c.if-year_digits-period.false ∙ y)))
