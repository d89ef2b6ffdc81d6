-- A reading between given ends that keeps a value inside given ends: the choice that the product law and the quotient law both make.
use Rattle.std.specs.Prelude.{ℕ, ◌+◌, ◌*◌, ◌≤◌, ◌<◌, max}
use Rattle.std.proofs.Common.{mul-pos, mul-le-mul_left, mul-lt-mul_of_pos_right, arith}
use Rattle.std.proofs.Math.Nat.{mul-lt-mul_of_pos_left, lt_of_mul-lt-mul_left, le-max_left, le-max_right}
use Rattle.std.proofs.Math.Decide.{dec_lt}
use Rattle.exact.specs.Fraction.{Fraction, fraction}
use Rattle.exact.specs.Rounding.{Span, In}

-- x counted in a span's own denominator
abbrev pub scaled : Span → Fraction → Fraction
scaled s x = fraction x.num (x.den * s.scale) (mul-pos x.pos s.pos)

pub in_scaled : (s : Span) (x : Fraction) → s.from * x.den ≤ x.num → x.num < s.below * x.den → In s (scaled s x)
in_scaled s x l h = record { low = omega (arith, mul-le-mul_left s.scale l); high = omega (arith, mul-lt-mul_of_pos_left h s.pos) }

-- e < y < g, with s < r·y and t·y < u
pub record Picks (e g r s t u : ℕ) (y : Fraction) : Type 0 where
  pub low : e * y.den < y.num
  pub high : y.num < g * y.den
  pub above : s * y.den < r * y.num
  pub under : t * y.num < u * y.den

-- the mediant of the greater of e and s / r and the lesser of g and u / t
pub pick : (e g r s t u : ℕ) → e < g → s < r * g → t * e < u → s * t < r * u → (y : Fraction) × Picks e g r s t u y
pick e g r s t u he hr ht h = go (dec_lt s (r * e)) (dec_lt (t * g) u)
  where
    hp : 0 < r
    hp = lt_of_mul-lt-mul_left g {m = 0} (omega arith)

    go : Dec (s < r * e) → Dec (t * g < u) → (y : Fraction) × Picks e g r s t u y
    go (yes a) (yes b) = (fraction (e + g) 2 (omega arith), omega arith)
    go (yes a) (no b) = (fraction (e + u) (1 + t) (omega arith), omega arith)
    go (no a) (yes b) = (fraction (s + g) (r + 1) (omega arith), omega arith)
    go (no a) (no b) = (fraction (s + u) (r + t) (omega (arith, hp)), omega arith)

-- a ≤ x < b, with p ≤ w·x < q
pub record Solves (a b w p q : ℕ) (x : Fraction) : Type 0 where
  pub low : a * x.den ≤ x.num
  pub high : x.num < b * x.den
  pub above : p * x.den ≤ w * x.num
  pub under : w * x.num < q * x.den

-- the greater of a and p / w
pub solve : (a b w p q : ℕ) → 0 < w → a < b → p < q → a * w < q → p < b * w → (x : Fraction) × Solves a b w p q x
solve a b w p q hw hx hq l h = go (max (a * w) p) (le-max_left _ _) (le-max_right _ _) (omega (arith, mul-lt-mul_of_pos_right hx hw)) (omega arith)
  where
    go : (m : ℕ) → a * w ≤ m → p ≤ m → m < b * w → m < q → (x : Fraction) × Solves a b w p q x
    go m i j k n = (fraction m w hw, omega (arith, mul-le-mul_left w j, mul-lt-mul_of_pos_left n hw))
