-- The product law: two values of two spans have c·x·y in a target range exactly where the range meets [c·low·low, c·high·high).
use Rattle.std.specs.Prelude.{◌≡◌, true, ◌↔◌, ℕ, ◌*◌, ◌<◌}
use Rattle.std.proofs.Math.Logic.Iff
use Rattle.std.proofs.Common.{mul-pos, mul-lt-mul_of_pos_right, le_of_lt, arith}
use Rattle.std.proofs.Math.Nat.{mul-lt-mul_of_pos_left, lt_of_mul-lt-mul_left}
use Rattle.exact.specs.Fraction.{Fraction, Positive, ◌<ᶠ◌, ◌⊗◌, plain}
use Rattle.exact.proofs.FractionLaws.{mul_lt, le_lt_trans, mul_mono, mul_mono_lt, scale_mono, scale_lt}
use Rattle.exact.specs.Rounding.{Span, first, end}
use Rattle.exact.specs.Behind.{product, BehindProduct, product_meets}
use Rattle.exact.proofs.MeetsLaws.{meets_true}
use Rattle.exact.specs.Choose.{scaled, in_scaled, Picks, pick, Solves, solve}

module _ (c : Positive) (s t r : Span) where
  abbrev Meets : Type 0
  Meets = (product c (first s) (first t) <ᶠ end r) × (first r <ᶠ product c (end s) (end t))

  fits : BehindProduct c s t r → Meets
  fits b =
      let x = b.left in
      let y = b.right in (
        le_lt_trans (product c (first s) (first t)) (product c x y) (end r)
            (scale_mono (plain c) (first s ⊗ first t) (x ⊗ y) (mul_mono (first s) x (first t) y b.left_in.low b.right_in.low))
            b.value_in.high,
        le_lt_trans (first r) (product c x y) (product c (end s) (end t))
            b.value_in.low
            (scale_lt (plain c) (x ⊗ y) (end s ⊗ end t) c.above (mul_mono_lt x (end s) y (end t) b.left_in.high b.right_in.high)),
      )

  finds : Meets → BehindProduct c s t r
  finds f =
      let y =
      pick t.from t.below (k * s.below) p (k * s.from) q t.rises (omega arith) (omega arith)
      (omega (arith, mul_lt hq (mul-lt-mul_of_pos_left s.rises hk))) in
      found y.0 y.1
    where
      k : ℕ
      k = c.num * r.scale

      p : ℕ
      p = r.from * (c.den * (s.scale * t.scale))

      q : ℕ
      q = r.below * (c.den * (s.scale * t.scale))

      hk : 0 < k
      hk = mul-pos c.above r.pos

      hq : p < q
      hq = mul-lt-mul_of_pos_right r.rises (mul-pos c.pos (mul-pos s.pos t.pos))

      found : (y : Fraction) → Picks t.from t.below (k * s.below) p (k * s.from) q y → BehindProduct c s t r
      found y h =
          at (solve _ _ (k * y.num) (p * y.den) (q * y.den) (lt_of_mul-lt-mul_left s.below {m = 0} (omega arith)) s.rises
          (mul-lt-mul_of_pos_right hq y.pos) (omega arith) (omega arith))
        where
          at : (x : Fraction) × Solves s.from s.below (k * y.num) (p * y.den) (q * y.den) x → BehindProduct c s t r
          at (x, g) = record {
            left = scaled s x;
            right = scaled t y;
            left_in = in_scaled s x g.low g.high;
            right_in = in_scaled t y (le_of_lt h.low) h.high;
            value_in = omega arith;
          }

  pub product_law : (product_meets c.num c.den s t r ≡ true) ↔ BehindProduct c s t r
  product_law = Iff.trans (meets_true _ _ _ _) (finds, fits)
