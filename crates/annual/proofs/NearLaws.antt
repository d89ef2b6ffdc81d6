-- A quarter more, and a half tenth more: what lies near what was reported stays near it.
use Rattle.std.specs.Prelude.{ℕ, suc, ◌+◌, ◌<◌}
use Rattle.std.proofs.Common.{arith, mul-le-mul_left, lit<}
use Rattle.exact.specs.Fraction.{Fraction, ◌⊕◌, fraction, Near}
use Rattle.exact.specs.Rounding.{recorded}
use Rattle.formulas.specs.Hour.{tenth}

-- one quarter more: x lies near t tenths with its half tenth and n hours' share, and z near the others' sum
pub one_more_lem : (per : ℕ) (pos : 0 < per) (x z : Fraction) (t rest j n m : ℕ) →
    Near x (recorded tenth t) (fraction 1 20 (lit< tt) ⊕ fraction n per pos) →
    Near z (recorded tenth rest) (fraction j 20 (lit< tt) ⊕ fraction m per pos) →
    Near (x ⊕ z) (recorded tenth (t + rest)) (fraction (suc j) 20 (lit< tt) ⊕ fraction (n + m) per pos)
one_more_lem per pos x z t rest j n m h k = record {
  over = omega (arith, mul-le-mul_left z.den h.over, mul-le-mul_left x.den k.over);
  under = omega (arith, mul-le-mul_left z.den h.under, mul-le-mul_left x.den k.under);
}
