-- What lies behind a figure: a value of a span, or values of two whose product or quotient, times a factor lies in a target range.
-- A target is any half-open range; a figure's own span is one, and so is what two figures' spans have in common.
-- Definitions only; ScaleLaw.antt, ProductLaw.antt and QuotientLaw.antt prove the tests exact.
use Rattle.std.specs.Prelude.{Bool, ◌&&◌, ℕ, ◌*◌, ltb}
use Rattle.exact.specs.Fraction.{Fraction, Positive, ◌≤ᶠ◌, ◌<ᶠ◌, ◌⊗◌, ◌÷◌, plain}
use Rattle.exact.specs.Rounding.{Span, In, first, end}

-- c·x·y, rising in both
abbrev pub product : Positive → Fraction → Fraction → Fraction
product c x y = plain c ⊗ (x ⊗ y)

-- c·x/z, rising in x and falling in z
abbrev pub ratio : Positive → Fraction → Fraction → Fraction
ratio c x z = (plain c ⊗ x) ÷ z

-- c·x, of one reading
pub record BehindScale (c : Positive) (s r : Span) : Type 0 where
  pub reading : Fraction
  pub reading_in : In s reading
  pub value_in : In r (plain c ⊗ reading)

pub record BehindProduct (c : Positive) (s t r : Span) : Type 0 where
  pub left : Fraction
  pub right : Fraction
  pub left_in : In s left
  pub right_in : In t right
  pub value_in : In r (product c left right)

-- the divisors that D allows are those between the ends of t: all that lie strictly inside, and none that lie beyond
pub record Divisors (t : Span) (D : Fraction → Type 0) : Type 0 where
  pub inside : (z : Fraction) → first t <ᶠ z → z <ᶠ end t → D z
  pub within : (z : Fraction) → D z → (first t ≤ᶠ z) × (z ≤ᶠ end t)

pub record BehindRatio (c : Positive) (s : Span) (D : Fraction → Type 0) (r : Span) : Type 0 where
  pub left : Fraction
  pub right : Fraction
  pub left_in : In s left
  pub right_in : D right
  pub value_in : In r (ratio c left right)

-- the values from `low` to `high` meet the range from `from` up to but not including `below`
unfoldable pub meets : (low high from below : ℕ) → Bool
meets low high from below = ltb low below && ltb from high

-- c·x at the lowest and at the highest reading against the target, over one denominator
abbrev pub scale_meets : (num den : ℕ) → Span → Span → Bool
scale_meets num den s r =
    meets
    (num * s.from * r.scale)
    (num * s.below * r.scale)
    (r.from * (den * s.scale))
    (r.below * (den * s.scale))

-- c·x·y at the lowest and at the highest readings against the target, over one denominator
abbrev pub product_meets : (num den : ℕ) → Span → Span → Span → Bool
product_meets num den s t r =
    meets
    (num * (s.from * t.from) * r.scale)
    (num * (s.below * t.below) * r.scale)
    (r.from * (den * (s.scale * t.scale)))
    (r.below * (den * (s.scale * t.scale)))

-- c·x/z: lowest at the lowest x over the highest z, highest at the highest x over the lowest z
abbrev pub ratio_meets : (num den : ℕ) → Span → Span → Span → Bool
ratio_meets num den s t r =
    meets
    (num * s.from * t.scale * r.scale)
    (num * s.below * t.scale * r.scale)
    (r.from * (den * s.scale * t.from))
    (r.below * (den * s.scale * t.below))
