-- The scale law: a value of a span has c·x in a target range exactly where the range meets [c·low, c·high).
use Rattle.std.specs.Prelude.{◌≡◌, true, ◌↔◌, ℕ, ◌*◌}
use Rattle.std.proofs.Math.Logic.Iff
use Rattle.std.proofs.Common.{mul-pos, mul-lt-mul_of_pos_right, arith}
use Rattle.exact.specs.Fraction.{Fraction, Positive, ◌<ᶠ◌, ◌⊗◌, plain}
use Rattle.exact.proofs.FractionLaws.{le_lt_trans, scale_mono, scale_lt}
use Rattle.exact.specs.Rounding.{Span, first, end}
use Rattle.exact.specs.Behind.{BehindScale, scale_meets}
use Rattle.exact.proofs.MeetsLaws.{meets_true}
use Rattle.exact.specs.Choose.{scaled, in_scaled, Solves, solve}

module _ (c : Positive) (s r : Span) where
  abbrev Meets : Type 0
  Meets = (plain c ⊗ first s <ᶠ end r) × (first r <ᶠ plain c ⊗ end s)

  fits : BehindScale c s r → Meets
  fits b =
      let x = b.reading in (
        le_lt_trans (plain c ⊗ first s) (plain c ⊗ x) (end r) (scale_mono (plain c) (first s) x b.reading_in.low) b.value_in.high,
        le_lt_trans (first r) (plain c ⊗ x) (plain c ⊗ end s) b.value_in.low (scale_lt (plain c) x (end s) c.above b.reading_in.high),
      )

  finds : Meets → BehindScale c s r
  finds f =
      at (solve s.from s.below k p q (mul-pos c.above r.pos) s.rises
      (mul-lt-mul_of_pos_right r.rises (mul-pos c.pos s.pos)) (omega arith) (omega arith))
    where
      k : ℕ
      k = c.num * r.scale

      p : ℕ
      p = r.from * (c.den * s.scale)

      q : ℕ
      q = r.below * (c.den * s.scale)

      at : (x : Fraction) × Solves s.from s.below k p q x → BehindScale c s r
      at (x, g) = record { reading = scaled s x; reading_in = in_scaled s x g.low g.high; value_in = omega arith }

  pub scale_law : (scale_meets c.num c.den s r ≡ true) ↔ BehindScale c s r
  scale_law = Iff.trans (meets_true _ _ _ _) (finds, fits)
