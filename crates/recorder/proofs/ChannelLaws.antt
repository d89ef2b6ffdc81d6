-- The four channels: what their units and columns have room for, and that a float of 2^52 or more lies beyond every range.
use Rattle.std.specs.Prelude.{ℕ, ◌+◌, ◌*◌, ◌≤◌, ◌<◌, ◌^◌, ◌≡◌, refl, Bool, true, false, Some, Float}
use Rattle.std.proofs.Common.{mul-pos, mul-le-mul, mul-le-mul_left, le_of_mul-le-mul_right, arith, lit≤, lit<, pow_pos, pow_mono}
use Rattle.std.proofs.Math.Nat.{lt_of_mul-lt-mul_left, lt-div-mul-add}
use Rattle.std.specs.Float.Ieee.Positive.{num, den, den_pos}
use Rattle.exact.specs.Fraction.{Positive}
use Rattle.layout.specs.Values.{in_range}
use Rattle.layout.specs.LayoutLaws.{in_range_true}
use Rattle.layout.specs.declared.values.Value.{Value}
use Rattle.sheet.specs.Sheet.{value_size}
use Rattle.recorder.specs.Recording.{units_in, column_of, recording_unit, column_number}
use Rattle.recorder.specs.Parts.{float_scale, PartsOf, UnitRoom, channel_row}
use Rattle.recorder.specs.declared.Parts.{Parts}
use Rattle.recorder.specs.declared.Channel.{Channel}
use Rattle.recorder.specs.declared.Channel.TheVariants.{So2, Nox, Co2, Flow}

tenths_room : UnitRoom (channel_row So2).unit
tenths_room = record {
  num_least = lit< tt;
  den_least = lit< tt;
  den_most = lit≤ tt;
  gone_most = lit≤ tt;
  vanishes = lit≤ tt;
  fits = lit≤ tt;
}

pub row_room : (c : Channel) → UnitRoom (channel_row c).unit
row_room So2 = tenths_room
row_room Nox = tenths_room
row_room Co2 = tenths_room
row_room Flow = record {
  num_least = lit< tt;
  den_least = lit< tt;
  den_most = lit≤ tt;
  gone_most = lit≤ tt;
  vanishes = lit≤ tt;
  fits = lit≤ tt;
}

-- the number in the columns fits 64 bits before it is tried, and its units fit a word once it is within
pub number_room : (c : Channel) (n : ℕ) → n ≤ (recording_unit c).den * 2 ^ 53 → (column_of c).step * n < 2 ^ 64
number_room So2 n h = omega arith
number_room Nox n h = omega arith
number_room Co2 n h = omega arith
number_room Flow n h = omega arith

pub most_held : (c : Channel) (n : ℕ) → (column_of c).step * n ≤ (column_of c).most → n < value_size
most_held So2 n h = omega arith
most_held Nox n h = omega arith
most_held Co2 n h = omega arith
most_held Flow n h = omega arith

-- ---- from 2^52 on

not_in_range : (v : Value) (k : ℕ) → v.most < k → in_range v k ≡ false
not_in_range v k h = go (in_range v k) (in_range_true v k)
  where
    go : (b : Bool) → (b ≡ true → (v.least ≤ k) × (k ≤ v.most)) → b ≡ false
    go true t = let b = t refl in absurd (omega arith)
    go false t = refl

num_least : (n d l m e : ℕ) → 2 ^ 52 ≤ m → l ≤ e → n * 2 ^ l ≡ m * 2 ^ e * d → 2 ^ 52 * d ≤ n
num_least n d l m e hm he v =
    le_of_mul-le-mul_right {k = 2 ^ l} (omega (arith, mul-le-mul_left d (mul-le-mul hm (pow_mono he)))) (pow_pos l)

many_units : (u : Positive) (x : Float) → 2 ^ 52 * den x ≤ num x → 2 ^ 53 * u.den < u.num * (2 * units_in u x + 1)
many_units u x h =
    let d : 0 < 2 * (u.num * den x) = mul-pos {m = 2} (omega arith) (mul-pos u.above (den_pos x)) in
    let g = lt-div-mul-add {a = 2 * (num x * u.den) + u.num * den x} d in
    lt_of_mul-lt-mul_left (den x) (omega (arith, mul-le-mul_left u.den h))

past_most : (c : Channel) (n : ℕ) → 2 ^ 53 * (recording_unit c).den < (recording_unit c).num * (2 * n + 1) → (column_of c).most < (column_of c).step * n
past_most So2 n h = omega arith
past_most Nox n h = omega arith
past_most Co2 n h = omega arith
past_most Flow n h = omega arith

pub beyond : (c : Channel) (x : Float) (p : Parts) → PartsOf x (Some p) → float_scale ≤ p.exponent → in_range (column_of c) (column_number c x) ≡ false
beyond c x p k h =
    let l : 2 ^ 52 * den x ≤ num x = num_least (num x) (den x) float_scale p.significand p.exponent (k.long (pos_scale h)) h k.exact in
    not_in_range (column_of c) (column_number c x) (past_most c (units_in (recording_unit c) x) (many_units (recording_unit c) x l))
  where
    pos_scale : {n : ℕ} → float_scale ≤ n → 0 < n
    pos_scale h = omega arith
