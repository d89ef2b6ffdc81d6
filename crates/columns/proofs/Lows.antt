-- Laws of the loop over the low four bits: one byte further, its room, and the end.
use Rattle.std.proofs.Common.{sym, ap, ◌∙◌, ◌-◌, ◌≡◌, ℕ, suc, ◌+◌, ◌*◌, ◌%◌, ◌^◌, ◌<◌, ◌≤◌, List, length, get_or, drop, mul-le-mul_right, mul-le-mul_left, pow-suc, add-one, arith, lit<, drop_of_length-le, drop-cons, pow-add}
use native.Mathlib.Nat.{pow-zero, one-le-pow, pow-le-pow_right}
use Rattle.columns.specs.Worth.{low_from}

pub low_one : (l : List ℕ) (i v : ℕ) → i < length l → low_from (v * 10 + get_or l i 0 % 16) (drop (i + 1) l) ≡ low_from v (drop i l)
unfolding low_from
low_one l i v inside = rw (drop-cons l i 0 inside, add-one i, low_from)

pub low_end : (l : List ℕ) (i v : ℕ) → length l ≤ i → low_from v (drop i l) ≡ v
unfolding low_from
low_end l i v past = rw (drop_of_length-le l past)

-- room for one byte more and n behind it
module _ (v n m : ℕ) (room : (v + 2) * 10 ^ suc n ≤ m) where
  pub low_room : (r : ℕ) → r < 16 → (v * 10 + r + 2) * 10 ^ n ≤ m
  low_room r h =
      let k : v * 10 + r + 2 ≤ (v + 2) * 10 = omega arith in
      omega (arith, pow-suc 10 n, mul-le-mul_right (10 ^ n) k, rw (pow-suc 10 n) at room)

  pub low_ten : (v + 2) * 10 ≤ m
  low_ten = omega (arith, mul-le-mul_left ((v + 2) * 10) (one-le-pow n 10 (lit< tt)), rw (pow-suc 10 n) at room)

low_last : (v n m : ℕ) → n ≡ 0 → (v + 2) * 10 ^ n ≤ m → v + 2 ≤ m
low_last v n m e h = omega (arith, pow-zero 10, rw e at h)

-- what is left from place i on, behind bytes worth v, is worth what the whole is, and there is room for it
pub record LowLeft (before : ℕ) (bytes : List ℕ) (v i : ℕ) : Type 0 where
  pub room : (v + 2) * 10 ^ (length bytes - i) ≤ (before + 2) * 10 ^ length bytes
  pub same : low_from v (drop i bytes) ≡ low_from before bytes

pub low_whole : (before : ℕ) (bytes : List ℕ) (v i : ℕ) → LowLeft before bytes v i → length bytes ≤ i →
    (v ≡ low_from before bytes) × (v + 2 ≤ (before + 2) * 10 ^ length bytes)
low_whole before bytes v i l h = (sym (sym l.same ∙ low_end bytes i v h), low_last v (length bytes - i) _ (omega arith) l.room)

module _ (before : ℕ) (bytes : List ℕ) (v i : ℕ) (l : LowLeft before bytes v i) (inside : i < length bytes) where
  one_left : (v + 2) * 10 ^ suc (length bytes - (i + 1)) ≤ (before + 2) * 10 ^ length bytes
  one_left =
      let e : suc (length bytes - (i + 1)) ≡ length bytes - i = omega arith in
      rw e l.room

  pub low_fits : (before + 2) * 10 ^ length bytes ≤ 2 * 10 ^ 18 → (v + 2) * 10 ≤ 2 * 10 ^ 18
  low_fits h = omega (arith, low_ten v (length bytes - (i + 1)) _ one_left)

  pub low_next : (d : ℕ) → d ≡ get_or bytes i 0 % 16 → LowLeft before bytes (v * 10 + d) (i + 1)
  low_next d e = record {
    room = low_room v (length bytes - (i + 1)) _ one_left d (omega arith);
    same = ap (λ (k : ℕ). low_from (v * 10 + k) (drop (i + 1) bytes)) e ∙ low_one bytes i v inside ∙ l.same;
  }

pub low_none : (n : ℕ) → n ≤ 18 → (0 + 2) * 10 ^ n ≤ 2 * 10 ^ 18
low_none n h = let p : 10 ^ n ≤ 10 ^ 18 = pow-le-pow_right (lit< tt) h in omega arith

-- behind a whole part of p columns, d more
pub low_behind : (v p d : ℕ) → v + 2 ≤ (0 + 2) * 10 ^ p → p + d ≤ 18 → (v + 2) * 10 ^ d ≤ 2 * 10 ^ 18
low_behind v p d h k = omega (arith, mul-le-mul_right (10 ^ d) h, pow-add 10 p d, low_none (p + d) k)
