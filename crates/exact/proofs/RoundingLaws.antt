-- Rounding has one record for each value, at whatever unit: the one fact on which tenths, thousandths, whole numbers and thousands rest.
use Rattle.std.specs.Prelude.{◌≡◌, refl, ◌↔◌, ℕ, zero, suc, ◌+◌, ◌*◌, ◌-◌, ◌/◌, ◌≤◌, ◌<◌}
use Rattle.std.proofs.Common.{sym, ◌∙◌, ap₂, mul-pos, mul-le-mul_left, le_of_lt, div-mul-le_self, arith}
use Rattle.std.proofs.Math.Nat.{div-eq_of_lt-le, lt-div-mul-add, mul-div-mul_left}
use Rattle.exact.specs.Fraction.{Fraction, Positive, ◌≤ᶠ◌, Near}
use Rattle.exact.specs.Rounding.{first, span, Records, recorded, half, nearest, half_up}

-- without the subtraction: k·u ≤ x + u/2
low_plain : (u : Positive) (x : Fraction) (k : ℕ) →
    (first (span u k) ≤ᶠ x) ↔ (k * (2 * (u.num * x.den)) ≤ 2 * (x.num * u.den) + u.num * x.den)
low_plain u x zero = omega arith
low_plain u x (suc k) =
    let e : 2 * suc k - 1 ≡ 2 * k + 1 = omega arith in
    rw e (omega arith)

-- each value has exactly one record: the one that rounding half up gives
pub records_half_up : (u : Positive) (x : Fraction) (k : ℕ) → Records u x k ↔ (half_up u x ≡ k)
records_half_up u x k = (
  λ (r : Records u x k). div-eq_of_lt-le (2 * (u.num * x.den)) ((low_plain u x k).0 r.low) (let h = r.high in omega arith),
  λ (e : half_up u x ≡ k).
      let d : 0 < 2 * (u.num * x.den) = mul-pos {m = 2} (omega arith) (mul-pos u.above x.pos) in
      let n : ℕ = 2 * (x.num * u.den) + u.num * x.den in
      let l : k * (2 * (u.num * x.den)) ≤ n = rw e at (div-mul-le_self n (2 * (u.num * x.den))) in
      let g : n < k * (2 * (u.num * x.den)) + 2 * (u.num * x.den) = rw e at (lt-div-mul-add {a = n} d) in
      record { low = (low_plain u x k).1 l; high = omega arith },
)

pub records_rounded : (u : Positive) (x : Fraction) → Records u x (half_up u x)
records_rounded u x = (records_half_up u x (half_up u x)).1 refl

-- a record, read as exact, is recorded as itself
pub records_recorded : (u : Positive) (k : ℕ) → Records u (recorded u k) k
records_recorded u k =
    let h = mul-pos u.above u.pos in
    record { low = (low_plain u (recorded u k) k).1 (omega arith); high = omega arith }

-- a value lies at most half a unit from its record
pub record_near : (u : Positive) (x : Fraction) (k : ℕ) → Records u x k →
    Near x (recorded u k) (half u)
record_near u x k r =
    omega (arith, mul-le-mul_left u.den (le_of_lt r.high), mul-le-mul_left u.den ((low_plain u x k).0 r.low))

-- a fraction may be reduced before it is rounded
pub nearest_reduced : (m a b c d : ℕ) → 0 < m → m * a ≡ c → m * b ≡ d → nearest a b ≡ nearest c d
nearest_reduced m a b c d h e f =
    sym (mul-div-mul_left (2 * a + b) (2 * b) h) ∙ ap₂ ◌/◌ (omega arith) (omega arith)
