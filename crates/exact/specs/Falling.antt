-- A divisor that falls with its reading: what a reading leaves of an amount. The divisors lie between the ends of the reading's span, turned
-- over.
use Rattle.std.specs.Prelude.{◌≡◌, ℕ, ◌+◌, ◌*◌, ◌-◌}
use Rattle.std.proofs.Common.{mul-pos, arith}
use Rattle.exact.specs.Fraction.{Fraction, Positive, fraction}
use Rattle.exact.specs.Rounding.{Span, In}
use Rattle.exact.specs.Behind.{ratio}

infixl 60 ◌⊖◌
-- what y leaves of x, 0 at least
abbrev pub ◌⊖◌ : Fraction → Fraction → Fraction
x ⊖ y = fraction (x.num * y.den - y.num * x.den) (x.den * y.den) (mul-pos x.pos y.pos)

-- top of a span's own parts
abbrev pub amount : ℕ → Span → Fraction
amount top t = fraction top t.scale t.pos

-- the reading's span, turned over below the amount
module _ (t : Span) (top from below : ℕ) (low : from + t.below ≡ top) (high : below + t.from ≡ top) where
  abbrev pub turned : Span
  turned = record { from = from; below = below; scale = t.scale; rises = let r = t.rises in omega arith; pos = t.pos }

  -- as large as what a value of the span leaves
  pub record Leaves (z : Fraction) : Type 0 where
    pub reading : Fraction
    pub reading_in : In t reading
    pub same : z.num * (t.scale * reading.den) ≡ (top * reading.den - reading.num * t.scale) * z.den

-- c·x over what y leaves of the amount
pub record BehindRest (c : Positive) (s t : Span) (top : ℕ) (r : Span) : Type 0 where
  pub left : Fraction
  pub right : Fraction
  pub left_in : In s left
  pub right_in : In t right
  pub value_in : In r (ratio c left (amount top t ⊖ right))
