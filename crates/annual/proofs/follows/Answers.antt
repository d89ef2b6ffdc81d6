-- Once the record is that of the quarter just before, nothing overflows.
use Rattle.std.proofs.Common.{◌≡◌, ◌+◌, sym, ◌∙◌, arith, eq-eqb}
use Rattle.layout.specs.Values.{quarter_digit}
use Rattle.layout.specs.LayoutLaws.{within_true}
use Rattle.annual.specs.Joined.{follows}
use Rattle.annual.proofs.follows.Goals as goal

pub overflow_sub-quarter : goal.overflow_sub-quarter
overflow_sub-quarter c =
    let w = within_true quarter_digit c.args.quarter (sym c.within.ensures ∙ c.if-not-within.false) in
    omega (arith, w.least)

pub overflow_mul-result : goal.overflow_mul-result
overflow_mul-result c =
    let w = within_true quarter_digit c.args.quarter (sym c.within.ensures ∙ c.if-not-within.false) in
    omega (arith, w.least, w.most)

pub returns : goal.returns
unfolding follows
returns c =
    let w = within_true quarter_digit c.args.quarter (sym c.within.ensures ∙ c.if-not-within.false) in
    let next : c.args.previous.quarter + 1 ≡ c.args.quarter = omega (arith, w.least) in
    rw (← c.within.ensures, c.if-not-within.false, eq-eqb _ _ next, c.all_zeros.ensures)
