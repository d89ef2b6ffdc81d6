-- The quotient law: a value of a span and a divisor have c·x/z in a target range exactly where the range meets the values from
-- c·low/high to c·high/low. It is the same whichever end of the divisors is allowed, so it serves a recorded divisor and one
-- that falls with its reading.
use Rattle.std.specs.Prelude.{◌≡◌, true, ◌↔◌, ℕ, ◌*◌, ◌<◌}
use Rattle.std.proofs.Math.Logic.Iff
use Rattle.std.proofs.Common.{mul-pos, mul-lt-mul_of_pos_right, le_of_lt, lt_of_le_of_lt, arith}
use Rattle.std.proofs.Math.Nat.{mul-lt-mul_of_pos_left, lt_of_mul-lt-mul_left}
use Rattle.exact.specs.Fraction.{Fraction, Positive, ◌≤ᶠ◌, ◌<ᶠ◌, ◌⊗◌, plain}
use Rattle.exact.proofs.FractionLaws.{mul_lt, le_lt_trans, scale_mono, scale_lt, quotient, quotient_mono, quotient_lt}
use Rattle.exact.specs.Rounding.{Span, In, first, end}
use Rattle.exact.specs.Behind.{ratio, BehindRatio, Divisors, ratio_meets}
use Rattle.exact.proofs.MeetsLaws.{meets_true}
use Rattle.exact.specs.Choose.{scaled, in_scaled, Picks, pick, solve}

-- the values of a span are divisors between its ends
pub recorded_divisors : (t : Span) → Divisors t (In t)
recorded_divisors t = record {
  inside = λ z l h. record { low = le_of_lt l; high = h };
  within = λ z h. (h.low, le_of_lt h.high);
}

-- a divisor that is no less than one above 0 is above 0
pub divisor_above : (t : Span) (z : Fraction) → 0 < t.from → first t ≤ᶠ z → 0 < z.num
divisor_above t z e h = lt_of_mul-lt-mul_left t.scale {m = 0} (omega (arith, mul-pos e z.pos))

module _ (c : Positive) (s t : Span) (e : 0 < t.from) (D : Fraction → Type 0) (d : Divisors t D) (r : Span) where
  abbrev Meets : Type 0
  Meets = (ratio c (first s) (end t) <ᶠ end r) × (first r <ᶠ ratio c (end s) (first t))

  end_above : 0 < t.below
  end_above = lt_of_le_of_lt (le_of_lt e) t.rises

  fits : BehindRatio c s D r → Meets
  fits b =
      let x = b.left in
      let z = b.right in
      let w = d.within z b.right_in in
      let a = divisor_above t z e w.0 in (
        le_lt_trans (ratio c (first s) (end t)) (ratio c x z) (end r)
            (quotient_mono (plain c ⊗ first s) (plain c ⊗ x) (end t) z end_above a (scale_mono (plain c) (first s) x b.left_in.low) w.1)
            b.value_in.high,
        le_lt_trans (first r) (ratio c x z) (ratio c (end s) (first t))
            b.value_in.low
            (quotient_lt (plain c ⊗ x) (plain c ⊗ end s) z (first t) a e (scale_lt (plain c) x (end s) c.above b.left_in.high) w.0),
      )

  abbrev Tests : Type 0
  Tests =
      (c.num * s.from * t.scale * r.scale < r.below * (c.den * s.scale * t.below))
      × (r.from * (c.den * s.scale * t.from) < c.num * s.below * t.scale * r.scale)

  tests : Meets → Tests
  tests f =
      let l = quotient (plain c ⊗ first s) t.below t.scale end_above in
      let h = quotient (plain c ⊗ end s) t.from t.scale e in
      let f0 = rw (l.upper, l.lower) at f.0 in
      let f1 = rw (h.upper, h.lower) at f.1 in
      omega arith

  finds : Tests → BehindRatio c s D r
  finds f =
      let z =
      pick t.from t.below q (k * s.from) p (k * s.below) t.rises (omega arith) (omega arith)
      (omega (arith, mul_lt hq (mul-lt-mul_of_pos_left s.rises hk))) in
      found z.0 z.1
    where
      k : ℕ
      k = c.num * r.scale * t.scale

      p : ℕ
      p = r.from * (c.den * s.scale)

      q : ℕ
      q = r.below * (c.den * s.scale)

      hk : 0 < k
      hk = mul-pos (mul-pos c.above r.pos) t.pos

      hq : p < q
      hq = mul-lt-mul_of_pos_right r.rises (mul-pos c.pos s.pos)

      found : (z : Fraction) → Picks t.from t.below q (k * s.from) p (k * s.below) z → BehindRatio c s D r
      found z h = at (omega (arith, mul-pos e z.pos))
        where
          at : 0 < z.num → BehindRatio c s D r
          at a =
              let x =
              solve s.from s.below (k * z.den) (p * z.num) (q * z.num) (mul-pos hk z.pos) s.rises (mul-lt-mul_of_pos_right hq a)
              (omega arith) (omega arith) in
              let v = quotient (plain c ⊗ scaled s x.0) z.num (z.den * t.scale) a in
              record {
                left = scaled s x.0;
                right = scaled t z;
                left_in = in_scaled s x.0 x.1.low x.1.high;
                right_in =
                    d.inside (scaled t z) (omega (arith, mul-lt-mul_of_pos_left h.low t.pos))
                    (omega (arith, mul-lt-mul_of_pos_left h.high t.pos));
                value_in = record { low = rw (v.upper, v.lower) (omega (arith, x.1)); high = rw (v.upper, v.lower) (omega (arith, x.1)) };
              }

  pub quotient_law : (ratio_meets c.num c.den s t r ≡ true) ↔ BehindRatio c s D r
  quotient_law = Iff.trans (meets_true _ _ _ _) (finds, (λ b. tests (fits b)))
