-- Units counted in whole numbers: the count of a float's parts is that of its value, at any unit.
use Rattle.std.specs.Prelude.{ℕ, ◌+◌, ◌-◌, ◌*◌, ◌%◌, ◌≤◌, ◌<◌, ◌^◌, ◌≡◌, Float}
use Rattle.std.proofs.Common.{sym, ap, ◌∙◌, mul-pos, mul-le-mul_left, mod-eq_of_lt, le_trans, arith, pow-add, pow_pos, pow_mono}
use Rattle.std.proofs.Math.Nat.{mul-lt-mul_of_pos_left, div-eq_of_lt, div-le_of_le-mul}
use Rattle.std.specs.Float.Ieee.Nearest.{div_same}
use Rattle.std.specs.Float.Ieee.Positive.{num, den, den_pos}
use Rattle.exact.specs.Fraction.{Positive}
use Rattle.exact.specs.Rounding.{nearest}
use Rattle.exact.proofs.RoundingLaws.{nearest_reduced}
use Rattle.recorder.specs.Recording.{units_in}

-- a float and a fraction of the same value come to as many units
pub count_exact : (u : Positive) (x : Float) (a d : ℕ) → 0 < d → num x * d ≡ a * den x → units_in u x ≡ nearest (a * u.den) (u.num * d)
count_exact u x a d h v =
    div_same (2 * (num x * u.den) + u.num * den x) (2 * (u.num * den x)) (2 * (a * u.den) + u.num * d) (2 * (u.num * d))
    (mul-pos {m = 2} (omega arith) (mul-pos u.above (den_pos x))) (mul-pos {m = 2} (omega arith) (mul-pos u.above h))
    (omega (arith, ap (λ (k : ℕ). u.den * u.num * k) v))

-- a power of two is taken out before anything is rounded
pub count_shifted : (significand exponent low num den : ℕ) → exponent ≤ low →
    nearest (den * significand) (num * 2 ^ (low - exponent)) ≡ nearest (significand * 2 ^ exponent * den) (num * 2 ^ low)
count_shifted m e l num den h =
    let j : e + (l - e) ≡ l = omega arith in
    let p : 2 ^ l ≡ 2 ^ e * 2 ^ (l - e) = ap (λ (k : ℕ). 2 ^ k) (sym j) ∙ pow-add 2 e (l - e) in
    nearest_reduced (2 ^ e) (den * m) (num * 2 ^ (l - e)) (m * 2 ^ e * den) (num * 2 ^ l) (pow_pos e)
    (omega arith) (sym (ap (λ (k : ℕ). num * k) p ∙ omega arith))

-- with so many binary places the value is less than half a unit
pub count_gone : (significand places gone num den : ℕ) → 0 < den → significand < 2 ^ 53 → 2 * (den * 2 ^ 53) ≤ num * 2 ^ gone → gone ≤ places →
    nearest (den * significand) (num * 2 ^ places) ≡ 0
count_gone m s g num den hd hm hv hg =
    let a : num * 2 ^ g ≤ num * 2 ^ s = mul-le-mul_left num (pow_mono hg) in
    let b : den * m < den * 2 ^ 53 = mul-lt-mul_of_pos_left hm hd in
    div-eq_of_lt (omega arith)

-- no count is more than that of a denominator of 1
pub units_most : (significand den d : ℕ) → 0 < d → 0 < den → significand < 2 ^ 53 → nearest (den * significand) d ≤ den * 2 ^ 53
units_most m den d hd hn hm =
    let a : den * m < den * 2 ^ 53 = mul-lt-mul_of_pos_left hm hn in
    let b : den * m ≤ d * (den * m) = omega (arith, mul-le-mul_left (den * m) hd) in
    let c : 2 * (den * m) + d ≤ 2 * d * (den * m + 1) = omega arith in
    le_trans (div-le_of_le-mul (2 * d) c) (omega arith)

-- with fewer, the divisor has room
pub divisor_room : (places gone num : ℕ) → num * 2 ^ gone ≤ 2 ^ 63 → places < gone → 2 * (num * 2 ^ places) ≤ 2 ^ 63
divisor_room s g num h hg =
    let a : num * 2 ^ (1 + s) ≤ num * 2 ^ g = mul-le-mul_left num (pow_mono {i = 1 + s} {j = g} (omega arith)) in
    let b = ap (λ (k : ℕ). num * k) (pow-add 2 1 s) in
    omega arith

pub divisor_whole : (places num : ℕ) → 2 * (num * 2 ^ places) ≤ 2 ^ 63 → num * 2 ^ places % 2 ^ 64 ≡ num * 2 ^ places
divisor_whole s num h = mod-eq_of_lt (omega arith)
