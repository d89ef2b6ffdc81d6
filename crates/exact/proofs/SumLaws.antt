-- How far exact sums and means lie from those formed from records: half a unit for each rate, and half a unit for the total's own rounding.
use Rattle.std.specs.Prelude.{◌≡◌, List, [], ◌∷◌, length}
use Prim.Native.Nat.{ℕ, zero, suc, ◌*◌, ◌<◌}
use Rattle.std.proofs.Math.Nat.{mul-pos}
use Rattle.std.proofs.Common.{mul-le-mul_left}
use native.Mathlib.Omega.{arith}
use Rattle.exact.specs.Fraction.{Fraction, Positive, ◌≤ᶠ◌, ◌⊕◌, ◌÷◌, over, fraction, whole, plain, sum_of, Near}
use Rattle.exact.proofs.FractionLaws.{near_trans, near_weaken}
use Rattle.exact.specs.Rounding.{Records, recorded, half, halves, twice_pos}
use Rattle.exact.proofs.RoundingLaws.{record_near}
use Rattle.exact.specs.Sums.{total_of, Rate, amount, recorded_amount, hundred_pos, hundredths}

-- dividing by n keeps what lies near, near; by 0 both are 0
pub near_over : {x y d : Fraction} (n : ℕ) → Near x y d → Near (x ÷ whole n) (y ÷ whole n) (d ÷ whole n)
unfolding over
near_over zero h = omega arith
near_over (suc n) h = omega (arith, mul-le-mul_left (suc n * suc n) h.over, mul-le-mul_left (suc n * suc n) h.under)

total_scaled : {A : Type 0} (m : A → ℕ) (c : ℕ) (l : List A) → total_of (λ a. m a * c) l ≡ total_of m l * c
unfolding total_of
total_scaled m c [] = omega arith
total_scaled m c (a ∷ l) = let e = total_scaled m c l in omega arith

-- if each x lies at most k/e from m/d, then the sum of n of them lies at most n·k/e from the sum of m, over d
plain_sum_near : {A : Type 0} (x : A → Fraction) (m : A → ℕ) (d k e : ℕ) (hd : 0 < d) (he : 0 < e) →
    ((a : A) → Near (x a) (fraction (m a) d hd) (fraction k e he)) →
    (l : List A) → Near (sum_of x l) (fraction (total_of m l) d hd) (fraction (length l * k) e he)
unfolding sum_of total_of
plain_sum_near x m d k e hd he h [] = omega arith
plain_sum_near x m d k e hd he h (a ∷ l) =
    let r = plain_sum_near x m d k e hd he h l in
    let s = sum_of x l in
    record {
      over = omega (arith, mul-le-mul_left s.den (h a).over, mul-le-mul_left (x a).den r.over);
      under = omega (arith, mul-le-mul_left s.den (h a).under, mul-le-mul_left (x a).den r.under);
    }

-- the same of counts m of c/d
pub sum_near : {A : Type 0} (x : A → Fraction) (m : A → ℕ) (c d k e : ℕ) (hd : 0 < d) (he : 0 < e) →
    ((a : A) → Near (x a) (fraction (m a * c) d hd) (fraction k e he)) →
    (l : List A) → Near (sum_of x l) (fraction (total_of m l * c) d hd) (fraction (length l * k) e he)
sum_near x m c d k e hd he h l = rw (total_scaled m c l) at (plain_sum_near x (λ a. m a * c) d k e hd he h l)

module _ (u : Positive) where
  amount_near : (h : Rate u) → Near (amount h) (hundredths u (recorded_amount h)) (half u)
  amount_near h =
      let r = record_near u h.value h.figure h.records in
      let k = mul-le-mul_left (u.num * u.den * h.value.den * 100) h.short in
      omega (arith, mul-le-mul_left (100 * h.time) r.over, mul-le-mul_left (100 * h.time) r.under, k)

  -- the total of n rates over their times, divided by s and rounded once to units of v: within n half units over s, and half of v
  pub total_near : (v : Positive) (s : ℕ) (l : List (Rate u)) (t : ℕ) →
      Records v (hundredths u (total_of recorded_amount l) ÷ whole s) t →
      Near (sum_of amount l ÷ whole s) (recorded v t) ((halves u (length l) ÷ whole s) ⊕ half v)
  total_near v s l t r =
      near_trans
      (near_over s (sum_near amount recorded_amount u.num (100 * u.den) u.num (2 * u.den) (hundred_pos u) (twice_pos u) amount_near l))
      (record_near v _ t r)

  -- n half units over n, and half a unit, are at most a unit
  mean_share : (n : ℕ) → (halves u n ÷ whole n) ⊕ half u ≤ᶠ plain u
  unfolding over
  mean_share zero = omega (arith, mul-pos u.above u.pos)
  mean_share (suc n) = omega arith

  -- the plain mean of n rates, rounded once to the same unit: within a unit
  pub mean_near : (l : List (Rate u)) (t : ℕ) →
      Records u (recorded u (total_of (λ h. h.figure) l) ÷ whole (length l)) t →
      Near (sum_of (λ h. h.value) l ÷ whole (length l)) (recorded u t) (plain u)
  mean_near l t r =
      near_weaken
      (near_trans
      (near_over (length l)
      (sum_near (λ (h : Rate u). h.value) (λ (h : Rate u). h.figure) u.num u.den u.num (2 * u.den) u.pos (twice_pos u)
      (λ h. record_near u h.value h.figure h.records) l))
      (record_near u _ t r))
      (mean_share (length l))
