-- Laws of fractions. Each is `omega` over monomials, with every hypothesis handed over multiplied by what it lacks.
use Rattle.std.specs.Prelude.{◌≡◌, refl, ℕ, zero, suc, ◌*◌, ◌<◌}
use Rattle.std.proofs.Common.{mul-le-mul_left, mul-lt-mul_of_pos_right, mul-le-mul, mul-pos, le_of_lt, lt_of_le_of_lt, not-suc-le-zero, arith}
use Rattle.std.proofs.Math.Nat.{mul-lt-mul_of_pos_left, le_of_mul-le-mul_left, lt_of_mul-lt-mul_left}
use Rattle.exact.specs.Fraction.{Fraction, ◌≤ᶠ◌, ◌<ᶠ◌, ◌⊕◌, ◌⊗◌, ◌÷◌, over, Near}

pub le_lt_trans : (x y z : Fraction) → x ≤ᶠ y → y <ᶠ z → x <ᶠ z
le_lt_trans x y z h k =
    lt_of_mul-lt-mul_left y.den
    (omega (arith, mul-le-mul_left z.den h, mul-lt-mul_of_pos_left k x.pos))

pub mul_lt : {a b c d : ℕ} → a < b → c < d → a * c < b * d
mul_lt {a} h k = lt_of_le_of_lt (mul-le-mul_left a (le_of_lt k)) (mul-lt-mul_of_pos_right h (omega arith))

-- a product rises in both factors
pub mul_mono : (x y z w : Fraction) → x ≤ᶠ y → z ≤ᶠ w → x ⊗ z ≤ᶠ y ⊗ w
mul_mono x y z w h k = omega (arith, mul-le-mul h k)

pub mul_mono_lt : (x y z w : Fraction) → x <ᶠ y → z <ᶠ w → x ⊗ z <ᶠ y ⊗ w
mul_mono_lt x y z w h k = omega (arith, mul_lt h k)

pub scale_mono : (c x y : Fraction) → x ≤ᶠ y → c ⊗ x ≤ᶠ c ⊗ y
scale_mono c x y h = omega (arith, mul-le-mul_left (c.num * c.den) h)

pub scale_lt : (c x y : Fraction) → 0 < c.num → x <ᶠ y → c ⊗ x <ᶠ c ⊗ y
scale_lt c x y p h = omega (arith, mul-lt-mul_of_pos_left h (mul-pos p c.pos))

-- what a quotient is where the divisor is above 0
pub record Quotient (x q : Fraction) (num den : ℕ) : Type 0 where
  pub upper : q.num ≡ x.num * den
  pub lower : q.den ≡ x.den * num

pub quotient : (x : Fraction) (num den : ℕ) → 0 < num → Quotient x (over x num den) num den
unfolding over
quotient x zero den h = absurd (not-suc-le-zero h)
quotient x (suc num) den h = record { upper = refl; lower = refl }

-- A quotient rises in what is divided and falls in the divisor, whatever reading the divisor is made of.
pub quotient_mono : (x y z w : Fraction) → 0 < z.num → 0 < w.num → x ≤ᶠ y → w ≤ᶠ z → x ÷ z ≤ᶠ y ÷ w
quotient_mono x y z w hz hw h k =
    let p = quotient x z.num z.den hz in
    let q = quotient y w.num w.den hw in
    rw (p.upper, p.lower, q.upper, q.lower) (omega (arith, mul-le-mul h k))

pub quotient_lt : (x y z w : Fraction) → 0 < z.num → 0 < w.num → x <ᶠ y → w ≤ᶠ z → x ÷ z <ᶠ y ÷ w
quotient_lt x y z w hz hw h k =
    let p = quotient x z.num z.den hz in
    let q = quotient y w.num w.den hw in
    rw (p.upper, p.lower, q.upper, q.lower)
    (omega (arith, mul-le-mul_left (x.num * y.den) k, mul-lt-mul_of_pos_right h (mul-pos {m = z.num} {n = w.den} hz w.pos)))

pub near_trans : {x y z d e : Fraction} → Near x y d → Near y z e → Near x z (d ⊕ e)
near_trans {x} {y} {z} {d} {e} h k = record {
  over =
      le_of_mul-le-mul_left {k = y.den}
      (omega (arith, mul-le-mul_left (z.den * e.den) h.over, mul-le-mul_left (x.den * d.den) k.over)) y.pos;
  under =
      le_of_mul-le-mul_left {k = y.den}
      (omega (arith, mul-le-mul_left (z.den * e.den) h.under, mul-le-mul_left (x.den * d.den) k.under)) y.pos;
}

pub near_weaken : {x y d e : Fraction} → Near x y d → d ≤ᶠ e → Near x y e
near_weaken {x} {y} {d} {e} h k = record {
  over = le_of_mul-le-mul_left {k = d.den} (omega (arith, mul-le-mul_left e.den h.over, mul-le-mul_left (x.den * y.den) k)) d.pos;
  under = le_of_mul-le-mul_left {k = d.den} (omega (arith, mul-le-mul_left e.den h.under, mul-le-mul_left (x.den * y.den) k)) d.pos;
}
