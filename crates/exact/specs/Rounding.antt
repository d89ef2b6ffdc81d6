-- Rounding half up at a unit u: k is recorded for the values from k·u − u/2 (or 0, if greater) up to but not including k·u + u/2.
-- Definitions only; RoundingLaws.antt has what is proved of them.
use Rattle.std.specs.Prelude.{ℕ, ◌+◌, ◌*◌, ◌-◌, ◌/◌, ◌<◌}
use Rattle.std.proofs.Common.{mul-pos, mul-lt-mul_of_pos_right, arith, lit<}
use Rattle.exact.specs.Fraction.{Fraction, Positive, ◌≤ᶠ◌, ◌<ᶠ◌, fraction}

-- the fractions from `from / scale` up to but not including `below / scale`
pub record Span : Type 0 where
  pub from : ℕ
  pub below : ℕ
  pub scale : ℕ
  pub rises : from < below
  pub pos : 0 < scale

abbrev pub first : Span → Fraction
first s = fraction s.from s.scale s.pos

abbrev pub end : Span → Fraction
end s = fraction s.below s.scale s.pos

pub record In (s : Span) (x : Fraction) : Type 0 where
  pub low : first s ≤ᶠ x
  pub high : x <ᶠ end s

-- the ends of the span of k units, in half units: 2k − 1, but 0 for k = 0, and 2k + 1
abbrev pub low_end : ℕ → ℕ
low_end k = 2 * k - 1

abbrev pub high_end : ℕ → ℕ
high_end k = 2 * k + 1

-- the values that are recorded as k units of u
abbrev pub span : Positive → ℕ → Span
span u k = record {
  from = low_end k * u.num;
  below = high_end k * u.num;
  scale = 2 * u.den;
  rises = mul-lt-mul_of_pos_right (omega arith) u.above;
  pos = mul-pos {m = 2} (omega arith) u.pos;
}

abbrev pub Records : Positive → Fraction → ℕ → Type 0
Records u x k = In (span u k) x

-- what a record of k units says, read as exact
abbrev pub recorded : Positive → ℕ → Fraction
recorded u k = fraction (k * u.num) u.den u.pos

abbrev pub twice_pos : (u : Positive) → 0 < 2 * u.den
twice_pos u = mul-pos {m = 2} (lit< tt) u.pos

-- half a unit, and n half units
abbrev pub half : Positive → Fraction
half u = fraction u.num (2 * u.den) (twice_pos u)

abbrev pub halves : Positive → ℕ → Fraction
halves u n = fraction (n * u.num) (2 * u.den) (twice_pos u)

-- x / d + 1/2, rounded down
abbrev pub nearest : (x d : ℕ) → ℕ
nearest x d = (2 * x + d) / (2 * d)

-- x / u, rounded half up
abbrev pub half_up : Positive → Fraction → ℕ
half_up u x = nearest (x.num * u.den) (u.num * x.den)
