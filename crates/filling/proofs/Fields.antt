-- Laws of fields filled from their right end, and of a field as a part of its line.
use Prim.Native.Nat.{ℕ, zero, suc, ◌+◌, ◌-◌, ◌/◌, ◌≤◌, ◌<◌, ◌^◌}
use mathlib.Core.Path.{◌≡◌, refl, sym, ap, ◌∙◌}
use mathlib.Core.List.{List, [], ◌∷◌, ◌++◌, append-nil, append_assoc}
use native.Mathlib.Omega.{arith}
use native.Mathlib.Nat.{add-sub_cancel_left, pow-succ', div-div-eq-div-mul, le_of_suc-le-suc, not-suc-le-zero}
use native.Mathlib.Numerals.{add-one}
use lib.ListN.{length, take, drop, set, length-append, length-take, length-drop, drop_of_length-le}
use lib.Seq.{append_snoc, paste, take-length, drop_at, drop-drop, length-take-le}
use borrow.Rule.Slice.PartMut.{put_mid}
use Rattle.columns.specs.Columns.{put}
use Rattle.columns.specs.Number.{point_in}
use Rattle.columns.specs.Written.{last_digit, digit_or_blank, digits_of, leading, whole_written, fixed_written}

drop_set : (l : List ℕ) (i a : ℕ) → i < length l → drop i (set l i a) ≡ a ∷ drop (suc i) l
drop_set [] i a h = absurd (not-suc-le-zero h)
drop_set (x ∷ xs) zero a h = refl
drop_set (x ∷ xs) (suc i) a h = drop_set xs i a (le_of_suc-le-suc h)

-- bytes in front of a place where one more was written
snoc_set : (xs l : List ℕ) (k b : ℕ) → k < length l → xs ++ drop k (set l k b) ≡ (xs ++ (b ∷ [])) ++ drop (suc k) l
snoc_set xs l k b h = rw (drop_set l k b h) (sym (append_snoc xs b (drop (suc k) l)))

-- the same in front of bytes that are known
behind_set : (xs l bs : List ℕ) (k b : ℕ) → k < length l → drop (k + 1) l ≡ bs → xs ++ drop k (set l k b) ≡ xs ++ (b ∷ bs)
behind_set xs l bs k b h e =
    ap (λ (r : List ℕ). xs ++ r) (drop_set l k b h ∙ ap (λ (n : ℕ). b ∷ drop n l) (sym (add-one k)) ∙ ap (λ (r : List ℕ). b ∷ r) e)

-- a digit is written, and one column is left less
pub digits_one : (l : List ℕ) (k v : ℕ) → k < length l → digits_of k (v / 10) ++ drop k (set l k (last_digit v)) ≡ digits_of (suc k) v ++ drop (suc k) l
unfolding digits_of
digits_one l k v h = snoc_set (digits_of k (v / 10)) l k (last_digit v) h

pub rest_one : (k v : ℕ) → v / 10 / 10 ^ k ≡ v / 10 ^ suc k
rest_one k v = div-div-eq-div-mul v 10 (10 ^ k) ∙ ap (λ (n : ℕ). v / n) (sym (pow-succ' 10 k))

pub leading_one : (l : List ℕ) (k v : ℕ) → k < length l → leading k (v / 10) ++ drop k (set l k (digit_or_blank v)) ≡ leading (suc k) v ++ drop (suc k) l
unfolding leading
leading_one l k v h = snoc_set (leading k (v / 10)) l k (digit_or_blank v) h

-- the last digit, and what is in front of it
pub whole_filled : (l : List ℕ) (v : ℕ) → 0 < length l →
    leading (length l - 1) (v / 10) ++ drop (length l - 1) (set l (length l - 1) (last_digit v)) ≡ whole_written (length l) v
unfolding whole_written
whole_filled l v h =
    let k = length l - 1 in
    let e : suc k ≡ length l = omega arith in
    let m : length l ≤ suc k = omega arith in
    snoc_set (leading k (v / 10)) l k (last_digit v) (omega arith)
    ∙ ap (λ (r : List ℕ). (leading k (v / 10) ++ (last_digit v ∷ [])) ++ r) (drop_of_length-le l m)
    ∙ append-nil (leading k (v / 10) ++ (last_digit v ∷ []))
    ∙ ap (λ (n : ℕ). whole_written n v) e

-- a part to the end is replaced
mid_end : (a : ℕ) (l bs : List ℕ) → a ≤ length l → drop a (put_mid a (length l - a) l bs) ≡ bs
mid_end a l bs h =
    let m : length l ≤ a + (length l - a) = omega arith in
    drop_at (take a l) (bs ++ drop (length l - a) (drop a l)) a (length-take-le a l h)
    ∙ ap (λ (r : List ℕ). bs ++ r) (drop-drop (length l - a) a l ∙ drop_of_length-le l m)
    ∙ append-nil bs

mid_length : (a : ℕ) (l bs : List ℕ) → a ≤ length l → length (put_mid a (length l - a) l bs) ≡ a + length bs
mid_length a l bs h =
    length-append (take a l) (bs ++ drop (length l - a) (drop a l))
    ∙ simp (length-append, length-drop, length-take) (omega arith)

-- the decimals, the point and the whole number
module _ (l : List ℕ) (d v : ℕ) (room : d + 2 ≤ length l) where
  pub decimals_length : length (take (length l - (point_in l d + 1)) (drop (point_in l d + 1) l)) ≡ d
  decimals_length =
      length-take-le (length l - (point_in l d + 1)) (drop (point_in l d + 1) l) (rw length-drop (omega arith)) ∙ omega arith

  pub fixed_filled :
      whole_written (point_in l d) (v / 10 ^ d)
      ++ drop (point_in l d) (set (put_mid (point_in l d + 1) (length l - (point_in l d + 1)) l (digits_of d v)) (point_in l d) 46)
      ≡ fixed_written (length l) d v
  unfolding fixed_written
  fixed_filled =
      let w : point_in l d ≡ length l - suc d = omega arith in
      behind_set (whole_written (point_in l d) (v / 10 ^ d)) (put_mid (point_in l d + 1) (length l - (point_in l d + 1)) l (digits_of d v)) (digits_of d v)
      (point_in l d) 46
      (omega (arith, mid_length (point_in l d + 1) l (digits_of d v) (omega arith)))
      (mid_end (point_in l d + 1) l (digits_of d v) (omega arith))
      ∙ ap (λ (k : ℕ). whole_written k (v / 10 ^ d) ++ (46 ∷ digits_of d v)) w

-- the byte in front of what was written
pub blank_byte : (v : ℕ) → v ≡ 0 → 32 ≡ digit_or_blank v
unfolding digit_or_blank
blank_byte v e = rw e

pub digit_byte : (v : ℕ) → 0 < v → last_digit v ≡ digit_or_blank v
unfolding digit_or_blank
digit_byte zero h = absurd (omega arith)
digit_byte (suc v) h = refl

-- bytes copied one by one are put into their columns
pub put_copied : (start : ℕ) (l bs : List ℕ) → paste l (start - 1) bs (length bs) ≡ put start bs l
unfolding put
put_copied start l bs = rw (take-length bs) (append_assoc (take (start - 1) l) bs (drop (start - 1 + length bs) l))

-- a part of a line is replaced: its bytes are put into its columns
pub put_part : (start width : ℕ) (l bs : List ℕ) → length bs ≡ width → put_mid (start - 1) (start - 1 + width - (start - 1)) l bs ≡ put start bs l
unfolding put
put_part start width l bs e = rw (add-sub_cancel_left (start - 1) width, ← e, drop-drop)

-- and such a part has as many bytes as columns
pub part_length : (start width : ℕ) (l : List ℕ) → start - 1 + width ≤ length l → length (take (start - 1 + width - (start - 1)) (drop (start - 1) l)) ≡ width
part_length start width l h =
    rw (add-sub_cancel_left (start - 1) width) (length-take-le width (drop (start - 1) l) (rw length-drop (omega arith)))
