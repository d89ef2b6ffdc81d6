-- Laws of the loops that read: one byte further, a byte that ends them, and the end.
use Rattle.std.specs.List.{fold, zip, list_all, position, position_or_len}
use Rattle.std.specs.Prelude.{cond, nat_eq, not, Some, None}
use native.Mathlib.Decide.{dec_lt}
use Rattle.std.proofs.Common.{[], ◌≡◌, ℕ, suc, ◌+◌, ◌-◌, ◌*◌, ◌^◌, ◌<◌, ◌≤◌, Bool, true, false, ◌&&◌, leb, List, ◌∷◌, length, get_or, take, drop, sym, refl, ap, ◌∙◌, mul-le-mul_right, mul-le-mul_left, pow-suc, add-one, arith, lit<, length-drop, drop_of_length-le, length-take-le, drop-cons, pow-add, eq-eqb, ne_eqb, le-leb}
use native.Mathlib.Nat.{add-sub_cancel_left, one-le-pow, pow-le-pow_right}
use borrow.Author.Tests.{lt-leb, lt-ltb, le-ltb}
use Rattle.columns.proofs.ColumnsLaws.{part_end}
use Rattle.columns.specs.Bytes.{is_blank, is_digit, all, same}
use Rattle.columns.specs.Number.{point_in, digits_from, whole_of, decimals_behind, fixed_of}
use Rattle.columns.specs.Columns.{columns}
use Rattle.columns.proofs.NumberLaws.{whole_bound}
use Rattle.columns.proofs.BytesLaws.{same_eq}
use Rattle.columns.specs.declared.Field.TheVariants.{Blank, Malformed, Number}

-- a byte and a range
pub leb_both : (low high b : ℕ) → low ≤ b → b ≤ high → leb low b && leb b high ≡ true
leb_both low high b h k = rw (le-leb low b h) (le-leb b high k)

pub below : (low high b : ℕ) → b < low → leb low b && leb b high ≡ false
below low high b h = rw (lt-leb low b h)

pub above : (low high b : ℕ) → low ≤ b → high < b → leb low b && leb b high ≡ false
above low high b h k = rw (le-leb low b h) (lt-leb b high k)

module _ (l : List ℕ) (i : ℕ) (inside : i < length l) where
  pub digits_one : (v : ℕ) → is_digit (get_or l i 0) ≡ true → digits_from (v * 10 + (get_or l i 0 - 48)) (drop (i + 1) l) ≡ digits_from v (drop i l)
  unfolding digits_from
  digits_one v e = rw (drop-cons l i 0 inside, add-one i, e, digits_from)

  pub digits_stop : (v : ℕ) → is_digit (get_or l i 0) ≡ false → digits_from v (drop i l) ≡ Malformed
  unfolding digits_from
  digits_stop v e = rw (drop-cons l i 0 inside, e, digits_from)

  -- without a way out: what was found so far, and what is left
  pub found_one : (p : ℕ → Bool) (fine : Bool) → (fine && p (get_or l i 0)) && all p (drop (i + 1) l) ≡ fine && all p (drop i l)
  unfolding all
  found_one p fine = rw (drop-cons l i 0 inside, add-one i) (go fine (p (get_or l i 0)) (all p (drop (suc i) l)))
    where
      go : (f a r : Bool) → (f && a) && r ≡ f && elim a [ true ↦ r | false ↦ false ]
      go true true r = refl
      go true false r = refl
      go false a r = refl

module _ (l : List ℕ) (i : ℕ) (past : length l ≤ i) where
  pub all_end : (p : ℕ → Bool) → all p (drop i l) ≡ true
  unfolding all
  all_end p = rw (drop_of_length-le l past)

  pub digits_end : (v : ℕ) → digits_from v (drop i l) ≡ Number v
  unfolding digits_from
  digits_end v = rw (drop_of_length-le l past)

-- what was found stands where nothing is left
pub found_end : (fine rest : Bool) → rest ≡ true → fine ≡ fine && rest
found_end true rest e = sym e
found_end false rest e = refl

-- std's tests of whole lists decide as those of this crate
next : (t a b : Bool) → a ≡ b → t && a ≡ elim t [ true ↦ b | false ↦ false ]
next true a b e = e
next false a b e = refl

abbrev pub with_pair : Bool → ℕ × ℕ → Bool
with_pair fine p = fine && nat_eq p.0 p.1

pair_one : (t a : Bool) (b c : List ℕ) → ((u : Bool) → fold with_pair u (zip b c) ≡ u && same b c) →
    fold with_pair (t && a) (zip b c) ≡ t && elim a [ true ↦ same b c | false ↦ false ]
pair_one true true b c h = h true
pair_one true false b c h = h false
pair_one false a b c h = h false

pairs_same : (a b : List ℕ) → length a ≡ length b → (t : Bool) → fold with_pair t (zip a b) ≡ t && same a b
unfolding same
pairs_same [] [] h true = refl
pairs_same [] [] h false = refl
pairs_same [] (y ∷ ys) h t = absurd (omega arith)
pairs_same (x ∷ xs) [] h t = absurd (omega arith)
pairs_same (x ∷ xs) (y ∷ ys) h t = pair_one t (nat_eq x y) xs ys (pairs_same xs ys (omega arith))

module _ (a b : List ℕ) where
  pub same_folded : (r : Bool) → length a ≡ length b → r ≡ fold with_pair true (zip a b) → r ≡ same a b
  same_folded r h e = e ∙ pairs_same a b h true

  pub same_lengths : (length a ≡ length b → ⊥) → nat_eq (length a) (length b) ≡ same a b
  same_lengths h = go (same a b) refl
    where
      go : (t : Bool) → same a b ≡ t → nat_eq (length a) (length b) ≡ t
      go true e = absurd (h (ap length ((same_eq a b).0 e)))
      go false e = ne_eqb (length a) (length b) h

pub all_is : (p : ℕ → Bool) (l : List ℕ) → list_all p l ≡ all p l
unfolding all
all_is p [] = refl
all_is p (x ∷ xs) = next (p x) _ _ (all_is p xs)

-- a number begins at the first byte that is no blank
abbrev pub other : ℕ → Bool
other b = not (is_blank b)

abbrev begins : List ℕ → ℕ
begins l = position_or_len other l

whole_behind : (l : List ℕ) → begins l < length l → whole_of l ≡ digits_from 0 (drop (begins l) l)
unfolding whole_of
whole_behind [] h = absurd (omega arith)
whole_behind (b ∷ bs) h = go (is_blank b) h (whole_behind bs)
  where
    go : (t : Bool) → cond (not (not t)) (1 + begins bs) 0 < suc (length bs) → (begins bs < length bs → whole_of bs ≡ digits_from 0 (drop (begins bs) bs)) →
        elim t [ true ↦ whole_of bs | false ↦ digits_from 0 (b ∷ bs) ] ≡ digits_from 0 (drop (cond (not (not t)) (1 + begins bs) 0) (b ∷ bs))
    go true k w = let e : 1 + begins bs ≡ suc (begins bs) = omega arith in rw e (w (omega arith))
    go false k w = refl

whole_blanks : (l : List ℕ) → length l ≤ begins l → whole_of l ≡ Blank
unfolding whole_of
whole_blanks [] h = refl
whole_blanks (b ∷ bs) h = go (is_blank b) h (whole_blanks bs)
  where
    go : (t : Bool) → suc (length bs) ≤ cond (not (not t)) (1 + begins bs) 0 → (length bs ≤ begins bs → whole_of bs ≡ Blank) →
        elim t [ true ↦ whole_of bs | false ↦ digits_from 0 (b ∷ bs) ] ≡ Blank
    go true k w = w (omega arith)
    go false k w = absurd (omega arith)

module _ (l : List ℕ) where
  pub whole_at : (i : ℕ) → position other l ≡ Some i → digits_from 0 (take (length l - i) (drop i l)) ≡ whole_of l
  whole_at i e = go (dec_lt (begins l) (length l))
    where
      go : Dec (begins l < length l) → digits_from 0 (take (length l - i) (drop i l)) ≡ whole_of l
      go (yes h) =
          let p : position other l ≡ Some (begins l) = rw (lt-ltb (begins l) (length l) h) refl in
          let f : i ≡ begins l = cc in
          rw (part_end i l) (rw f (sym (whole_behind l h)))
      go (no h) = absurd (let p : position other l ≡ None = rw (le-ltb (begins l) (length l) (omega arith)) refl in cc)

  pub whole_none : position other l ≡ None → Blank ≡ whole_of l
  whole_none e = go (dec_lt (begins l) (length l))
    where
      go : Dec (begins l < length l) → Blank ≡ whole_of l
      go (yes h) = absurd (let p : position other l ≡ Some (begins l) = rw (lt-ltb (begins l) (length l) h) refl in cc)
      go (no h) = sym (whole_blanks l (omega arith))

-- digits worth v, with room for one digit more and n behind it
module _ (v n m : ℕ) (room : (v + 1) * 10 ^ suc n ≤ m) where
  pub room_one : (r : ℕ) → r ≤ 9 → (v * 10 + r + 1) * 10 ^ n ≤ m
  room_one r h =
      let k : v * 10 + r + 1 ≤ (v + 1) * 10 = omega arith in
      omega (arith, pow-suc 10 n, mul-le-mul_right (10 ^ n) k, rw (pow-suc 10 n) at room)

  pub room_ten : (v + 1) * 10 ≤ m
  room_ten = omega (arith, mul-le-mul_left ((v + 1) * 10) (one-le-pow n 10 (lit< tt)), rw (pow-suc 10 n) at room)

-- a part of a line by its start and end, and by its columns
pub part_columns : (start width : ℕ) (l : List ℕ) → take (start - 1 + width - (start - 1)) (drop (start - 1) l) ≡ columns start width l
unfolding columns
part_columns start width l = rw (add-sub_cancel_left (start - 1) width)

ten : 0 < 10
ten = lit< tt

pub room_none : (n : ℕ) → n ≤ 18 → (0 + 1) * 10 ^ n ≤ 10 ^ 18
room_none n h = omega (arith, pow-le-pow_right ten h)

-- format F.d, by what stands in front of the point
module _ (l : List ℕ) (d : ℕ) (inside : d < length l) where
  behind_point : drop (point_in l d) l ≡ get_or l (point_in l d) 0 ∷ drop (point_in l d + 1) l
  behind_point = rw (add-one (point_in l d)) (drop-cons l (point_in l d) 0 (omega arith))

  fixed_parts : fixed_of d l ≡ decimals_behind (whole_of (take (point_in l d) l)) (drop (point_in l d) l)
  unfolding fixed_of
  fixed_parts =
      let e : length l - suc d ≡ point_in l d = omega arith in
      rw e

  pub fixed_number : (k : ℕ) → whole_of (take (point_in l d) l) ≡ Number k → get_or l (point_in l d) 0 ≡ 46 →
      fixed_of d l ≡ digits_from k (take (length l - (point_in l d + 1)) (drop (point_in l d + 1) l))
  unfolding decimals_behind
  fixed_number k e p =
      fixed_parts ∙ rw (e, behind_point, eq-eqb (get_or l (point_in l d) 0) 46 p, decimals_behind, part_end (point_in l d + 1) l)

  pub fixed_pointless : (k : ℕ) → whole_of (take (point_in l d) l) ≡ Number k → (get_or l (point_in l d) 0 ≡ 46 → ⊥) → fixed_of d l ≡ Malformed
  unfolding decimals_behind
  fixed_pointless k e p = fixed_parts ∙ rw (e, behind_point, ne_eqb (get_or l (point_in l d) 0) 46 p, decimals_behind)

  pub fixed_malformed : whole_of (take (point_in l d) l) ≡ Malformed → fixed_of d l ≡ Malformed
  unfolding decimals_behind
  fixed_malformed e = fixed_parts ∙ rw e

  pub fixed_blanks : (t : Bool) → whole_of (take (point_in l d) l) ≡ Blank → all is_blank (take (length l - point_in l d) (drop (point_in l d) l)) ≡ t
      → fixed_of d l ≡ elim t [ true ↦ Blank | false ↦ Malformed ]
  unfolding decimals_behind
  fixed_blanks t e p =
      let q : all is_blank (drop (point_in l d) l) ≡ t = rw part_end at p in
      fixed_parts ∙ rw (e, q, decimals_behind)

  pub fixed_room : (k : ℕ) → length l ≤ 18 → whole_of (take (point_in l d) l) ≡ Number k →
      (k + 1) * 10 ^ length (take (length l - (point_in l d + 1)) (drop (point_in l d + 1) l)) ≤ 10 ^ 18
  fixed_room k h e =
      let f : length (take (point_in l d) l) ≡ point_in l d = length-take-le (point_in l d) l (omega arith) in
      let g : length (take (length l - (point_in l d + 1)) (drop (point_in l d + 1) l)) ≡ d = rw (part_end (point_in l d + 1) l, length-drop) (omega arith) in
      let b : k < 10 ^ point_in l d = rw f at (whole_bound (take (point_in l d) l) k e) in
      let m : k + 1 ≤ 10 ^ point_in l d = omega arith in
      let s : 10 ^ (point_in l d + d) ≡ 10 ^ point_in l d * 10 ^ d = pow-add 10 (point_in l d) d in
      let t : point_in l d + d ≤ 18 = omega arith in
      rw g (omega (arith, mul-le-mul_right (10 ^ d) m, pow-le-pow_right ten t))
