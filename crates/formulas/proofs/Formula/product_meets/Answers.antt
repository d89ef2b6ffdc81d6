use Rattle.std.proofs.Common.{ap, ap₂, ◌∙◌, ◌*◌, ℕ, arith}
use Rattle.exact.proofs.MeetsLaws.{meets_at}
use Rattle.formulas.proofs.Formula.product_meets.Goals as goal

pub returns : goal.returns
returns c =
    let f = c.args.self in
    let x = c.of-x.ensures in
    let y = c.of-y.ensures in
    let v = c.of-v.ensures in
    c.meets.ensures
    ∙ meets_at
    (omega (arith, c.scaled.ensures.0, ap (λ (t : ℕ). t * f.num) (c.times.ensures.0 ∙ ap₂ ◌*◌ x.0 y.0)))
    (omega (arith, c.scaled.ensures.1, ap (λ (t : ℕ). t * f.num) (c.times.ensures.1 ∙ ap₂ ◌*◌ x.1 y.1)))
    (c.scaled-2.ensures.0 ∙ ap (λ (t : ℕ). t * (2 * f.den)) v.0)
    (c.scaled-2.ensures.1 ∙ ap (λ (t : ℕ). t * (2 * f.den)) v.1)
