use Rattle.std.proofs.Common.{ap, ap₂, ◌∙◌, ◌*◌, ℕ, arith}
use Rattle.exact.proofs.MeetsLaws.{meets_at}
use Rattle.formulas.proofs.Equations.{divisor_ends}
use Rattle.formulas.proofs.Formula.quotient_meets.Goals as goal

pub times-requires : goal.times-requires
times-requires c = (
  divisor_ends _ _ _ _ (omega arith) (omega arith) (omega arith) c.scaled-2.ensures.0,
  divisor_ends _ _ _ _ (omega arith) (omega arith) (omega arith) c.scaled-2.ensures.1,
)

pub returns : goal.returns
returns c =
    let f = c.args.self in
    let x = c.of-x.ensures in
    let z = c.of-z.ensures in
    let v = c.of-v.ensures in
    c.meets.ensures
    ∙ meets_at
    (c.scaled.ensures.0 ∙ ap (λ (t : ℕ). t * (2 * f.num)) x.0)
    (c.scaled.ensures.1 ∙ ap (λ (t : ℕ). t * (2 * f.num)) x.1)
    (omega (arith, c.times.ensures.0 ∙ ap₂ ◌*◌ v.0 (c.scaled-2.ensures.0 ∙ ap (λ (t : ℕ). t * f.den) z.0)))
    (omega (arith, c.times.ensures.1 ∙ ap₂ ◌*◌ v.1 (c.scaled-2.ensures.1 ∙ ap (λ (t : ℕ). t * f.den) z.1)))
