-- What a span's readings leave are divisors of the span turned over, so the quotient law serves them as it stands.
use Rattle.std.specs.Prelude.{◌≡◌, refl, true, ◌↔◌, ℕ, ◌+◌, ◌*◌, ◌-◌, ◌≤◌, ◌<◌}
use Rattle.std.proofs.Common.{ap, mul-pos, mul-le-mul_left, le_of_lt, arith}
use Rattle.std.proofs.Math.Logic.Iff
use Rattle.std.proofs.Math.Nat.{mul-lt-mul_of_pos_left, le_of_mul-le-mul_left, lt_of_mul-lt-mul_left}
use Rattle.std.proofs.Math.Decide.{dec_lt}
use Rattle.exact.specs.Fraction.{Fraction, Positive, ◌≤ᶠ◌, ◌<ᶠ◌, ◌⊗◌, ◌÷◌, plain, fraction}
use Rattle.exact.proofs.FractionLaws.{quotient}
use Rattle.exact.specs.Rounding.{Span, In, first, end}
use Rattle.exact.specs.Behind.{Divisors, ratio_meets}
use Rattle.exact.specs.Falling.{◌⊖◌, amount, turned, Leaves, BehindRest}
use Rattle.exact.proofs.QuotientLaw.{quotient_law, divisor_above}

module _ (t : Span) (top from below : ℕ) (low : from + t.below ≡ top) (high : below + t.from ≡ top) where
  abbrev over : Span
  over = turned t top from below low high

  abbrev Left : Fraction → Type 0
  Left = Leaves t top from below low high

  pub left_of : (y : Fraction) → In t y → Left (amount top t ⊖ y)
  left_of y h = record { reading = y; reading_in = h; same = refl }

  -- both ends, in parts of a denominator
  low_in : (d : ℕ) → from * d + t.below * d ≡ top * d
  low_in d = omega (arith, ap (λ (n : ℕ). n * d) low)

  high_in : (d : ℕ) → below * d + t.from * d ≡ top * d
  high_in d = omega (arith, ap (λ (n : ℕ). n * d) high)

  -- what is subtracted is never too much
  taken : (y : Fraction) → In t y → top * y.den - y.num * t.scale + y.num * t.scale ≡ top * y.den
  taken y h = omega (arith, h.high, low_in y.den)

  chosen : (z : Fraction) → first over <ᶠ z → z <ᶠ end over → (m p : ℕ) → m + z.num * t.scale ≡ top * z.den →
      p ≡ top * (t.scale * z.den) - m * t.scale →
      In t (fraction m (t.scale * z.den) (mul-pos t.pos z.pos)) × (z.num * (t.scale * (t.scale * z.den)) ≡ p * z.den)
  chosen z l h m p e q =
      let a : t.from * z.den ≤ m = omega (arith, h, high_in z.den) in
      let b : m < t.below * z.den = omega (arith, l, low_in z.den) in
      let v : p ≡ z.num * t.scale * t.scale = omega (arith, ap (λ (n : ℕ). n * t.scale) e) in (
        record { low = omega (arith, mul-le-mul_left t.scale a); high = omega (arith, mul-lt-mul_of_pos_left b t.pos) },
        omega (arith, ap (λ (n : ℕ). n * z.den) v),
      )

  pub fallen : Divisors over Left
  fallen = record {
    inside =
        λ z l h.
        let m = top * z.den - z.num * t.scale in
        let c = chosen z l h m _ (omega (arith, h, high_in z.den)) refl in
        record { reading = fraction m (t.scale * z.den) (mul-pos t.pos z.pos); reading_in = c.0; same = c.1 };
    within = λ z w. within z w.reading w.reading_in _ (taken w.reading w.reading_in) w.same;
  }
    where
      within : (z y : Fraction) → In t y → (p : ℕ) → p + y.num * t.scale ≡ top * y.den → z.num * (t.scale * y.den) ≡ p * z.den →
          (first over ≤ᶠ z) × (z ≤ᶠ end over)
      within z y h p e same =
          let a : from * y.den ≤ p = omega (arith, h.high, low_in y.den) in
          let b : p ≤ below * y.den = omega (arith, h.low, high_in y.den) in (
            le_of_mul-le-mul_left {k = y.den} (omega (arith, same, mul-le-mul_left z.den a)) y.pos,
            le_of_mul-le-mul_left {k = y.den} (omega (arith, same, mul-le-mul_left z.den b)) y.pos,
          )

-- a quotient by a divisor of the same size lies where the other does
same_quotient : (r : Span) (x z w : Fraction) → 0 < z.num → 0 < w.num → z.num * w.den ≡ w.num * z.den → In r (x ÷ z) → In r (x ÷ w)
same_quotient r x z w hz hw e h =
    let p = quotient x z.num z.den hz in
    let q = quotient x w.num w.den hw in
    let l = rw (p.upper, p.lower) at h.low in
    let k = rw (p.upper, p.lower) at h.high in
    record {
      low =
          rw (q.upper, q.lower)
          (le_of_mul-le-mul_left {k = z.den}
          (omega (arith, mul-le-mul_left w.den l, ap (λ (n : ℕ). n * (r.from * x.den)) e)) z.pos);
      high =
          rw (q.upper, q.lower)
          (lt_of_mul-lt-mul_left z.den
          (omega (arith, mul-lt-mul_of_pos_left k w.pos, ap (λ (n : ℕ). n * (r.below * x.den)) e)));
    }

module _ (c : Positive) (s t : Span) (top from below : ℕ) (low : from + t.below ≡ top) (high : below + t.from ≡ top) (e : 0 < from) (r : Span) where
  above : (z : Fraction) → Leaves t top from below low high z → 0 < z.num
  above z w = divisor_above (turned t top from below low high) z e ((fallen t top from below low high).within z w).0

  pub rest_law : (ratio_meets c.num c.den s (turned t top from below low high) r ≡ true) ↔ BehindRest c s t top r
  rest_law =
      Iff.trans (quotient_law c s (turned t top from below low high) e (Leaves t top from below low high) (fallen t top from below low high) r) (
        λ b.
            let w = b.right_in in
            let own = left_of t top from below low high w.reading w.reading_in in
            record {
              left = b.left;
              right = w.reading;
              left_in = b.left_in;
              right_in = w.reading_in;
              value_in =
                  same_quotient r (plain c ⊗ b.left) b.right (amount top t ⊖ w.reading) (above b.right w)
                  (above (amount top t ⊖ w.reading) own) w.same b.value_in;
            },
        λ b.
            record {
              left = b.left;
              right = amount top t ⊖ b.right;
              left_in = b.left_in;
              right_in = left_of t top from below low high b.right b.right_in;
              value_in = b.value_in;
            },
      )

-- what is left of an amount falls with what is taken
pub rest_falls : (a x y : Fraction) → x ≤ᶠ y → a ⊖ y ≤ᶠ a ⊖ x
rest_falls a x y h = go (dec_lt (y.num * a.den) (a.num * y.den))
  where
    named : (m p : ℕ) → m + y.num * a.den ≡ a.num * y.den → p + x.num * a.den ≡ a.num * x.den →
        m * (a.den * x.den) ≤ p * (a.den * y.den)
    named m p e f =
        let k : m * x.den ≤ p * y.den =
        omega (arith, ap (λ (n : ℕ). n * x.den) e, ap (λ (n : ℕ). n * y.den) f, mul-le-mul_left a.den h) in
        omega (arith, mul-le-mul_left a.den k)

    below : y.num * a.den < a.num * y.den → x.num * a.den ≤ a.num * x.den
    below l =
        le_of_mul-le-mul_left {k = y.den}
        (omega (arith, mul-le-mul_left a.den h, mul-le-mul_left x.den (le_of_lt l))) y.pos

    nothing : (m p d e : ℕ) → m ≡ 0 → m * d ≤ p * e
    nothing m p d e z = rw z (omega arith)

    go : Dec (y.num * a.den < a.num * y.den) → a ⊖ y ≤ᶠ a ⊖ x
    go (yes l) = let b = below l in named _ _ (omega arith) (omega arith)
    go (no l) = nothing _ _ _ _ (omega arith)
