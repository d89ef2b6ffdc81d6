use Rattle.std.proofs.Common.{sym, ◌∙◌}
use Rattle.formulas.proofs.Equations.{room_of, figure_most, judges, heat_tested, equation_tested, meets_readings}
use Rattle.formulas.proofs.figure_passes.Goals as goal

pub returns-then-by_heat : goal.returns-then-by_heat
returns-then-by_heat c =
    let q = c.args.q in
    let h = c.args.h in
    judges q h c.requires (c.gas_passes.ensures ∙ heat_tested q h (sym c.by_heat.ensures ∙ c.if-by_heat.true))

pub product_meets-requires : goal.product_meets-requires
product_meets-requires c =
    (room_of _ c.of-formula.ensures.1 c.in-Product.is, rw c.of-figure.ensures (figure_most c.args.q c.args.h.figures c.requires.figures))

pub returns-in-Product : goal.returns-in-Product
returns-in-Product c =
    let q = c.args.q in
    let h = c.args.h in
    judges q h c.requires
    (c.product_meets.ensures
    ∙ meets_readings q h _ _ _ c.of-formula.ensures.0 c.in-Product.is c.of-figure.ensures
    ∙ equation_tested q h (sym c.by_heat.ensures ∙ c.if-by_heat.false))

pub returns-in-Quotient : goal.returns-in-Quotient
returns-in-Quotient c =
    let q = c.args.q in
    let h = c.args.h in
    judges q h c.requires
    (c.quotient_meets.ensures
    ∙ meets_readings q h _ _ _ c.of-formula.ensures.0 c.in-Quotient.is c.of-figure.ensures
    ∙ equation_tested q h (sym c.by_heat.ensures ∙ c.if-by_heat.false))
