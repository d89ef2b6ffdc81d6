-- Each sum is that of its two amounts, and within the limit.
use Rattle.std.proofs.Common.{◌≡◌, ℕ, ◌+◌, sym, ◌∙◌, arith}
use Rattle.std.specs.Prelude.{Ok}
use Rattle.annual.specs.Joined.{Joined}
use Rattle.annual.specs.declared.YearToDate.{YearToDate}
use Rattle.annual.proofs.Tests.{all_fit}
use Rattle.annual.proofs.join.Goals as goal

-- a record by its sums
record_of : (y : YearToDate) {so2 co2 heat tons : ℕ} → so2 ≡ y.so2 → co2 ≡ y.co2 → heat ≡ y.heat → tons ≡ y.nox_tons →
    ◌≡◌ {A = Joined}
    (Ok (record { year = y.year; quarter = y.quarter; hours = y.hours; so2 = so2; co2 = co2; heat = heat; nox_tons = tons })) (Ok y)
record_of y s c h n = rw (s, c, h, n)

pub returns : goal.returns
returns c =
    let p = c.args.previous in
    let a = c.args.answer in
    let so2 = c.in_ok-sum.ensures in
    let co2 = c.in_ok-sum-2.ensures in
    let heat = c.in_ok-sum-3.ensures in
    let tons = c.in_ok-sum-4.ensures in
    record_of _ so2.0 co2.0 heat.0 tons.0
    ∙ sym
    (all_fit p c.args.year c.args.quarter a (sym c.follows.ensures ∙ c.if-not-follows.false)
    (omega (arith, so2)) (omega (arith, co2)) (omega (arith, heat)) (omega (arith, tons)))
