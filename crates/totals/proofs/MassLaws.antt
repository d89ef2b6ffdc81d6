-- The fifth sum says what F-24 gives, and the total formed of it lies within 1/20 ton.
use Rattle.std.specs.Prelude.{◌*◌, List}
use Rattle.std.proofs.Common.{mul-one, arith, lit<}
use Rattle.exact.specs.Fraction.{◌≤ᶠ◌, ◌⊕◌, ◌÷◌, over, fraction, whole, sum_of, Near}
use Rattle.exact.proofs.FractionLaws.{near_trans, near_weaken}
use Rattle.exact.specs.Rounding.{recorded, half, half_up}
use Rattle.exact.proofs.RoundingLaws.{records_rounded, record_near}
use Rattle.exact.proofs.SumLaws.{near_over, sum_near}
use Rattle.formulas.specs.Hour.{tenth}
use Rattle.formulas.specs.declared.hour.Hour.{Hour}
use Rattle.totals.specs.Totals.{mass_share, sum_over, totals_of, pounds_per_ton, millionths, quarter_of, quarter_totals}
use Rattle.totals.specs.Mass.{mass_pounds, mass_tons}

-- at most 0 lies between them
pub mass_sum : (hs : List Hour) → Near (sum_of mass_pounds hs) (millionths (sum_over hs mass_share)) (whole 0)
mass_sum hs =
    near_weaken
    (rw (mul-one (sum_over hs mass_share))
    at (sum_near mass_pounds (λ h. mass_share h.figures h.time) 1 1_000_000 0 1 (lit< tt) (lit< tt) each hs))
    (omega arith)
  where
    each : (h : Hour) → Near (mass_pounds h) (fraction (mass_share h.figures h.time * 1) 1_000_000 (lit< tt)) (fraction 0 1 (lit< tt))
    each h = record { over = omega arith; under = omega arith }

-- the total's own half tenth
rounded_once : (whole 0 ÷ whole pounds_per_ton) ⊕ half tenth ≤ᶠ fraction 1 20 (lit< tt)
unfolding over
rounded_once = omega arith

pub mass_near : (hs : List Hour) → Near (mass_tons hs) (recorded tenth (quarter_totals hs).nox_tons) (fraction 1 20 (lit< tt))
unfolding quarter_totals quarter_of totals_of
mass_near hs =
    let tons = millionths (sum_over hs mass_share) ÷ whole pounds_per_ton in
    near_weaken (near_trans (near_over pounds_per_ton (mass_sum hs)) (record_near tenth tons (half_up tenth tons) (records_rounded tenth tons))) rounded_once
