-- Laws of numbers written: their columns, their bytes, and that they are read back.
use Rattle.std.specs.Prelude.{◌≡◌, ℕ, zero, suc, ◌+◌, ◌-◌, ◌*◌, ◌/◌, ◌%◌, ◌^◌, ◌<◌, ◌≤◌, Bool, true, false, List, [], ◌∷◌, ◌++◌, length, refl}
use Rattle.std.proofs.Common.{sym, ap, ◌∙◌, arith, pow-suc, div-one, div-add-mod', div-lt_iff_lt-mul, lit<, pow-add, length-append, take_at, drop_at, ne_eqb, le-leb}
use Rattle.std.proofs.Math.Nat.{add-sub_cancel_left, pow-succ', div-eq_of_lt, div-div-eq-div-mul, one-le-pow}
use Rattle.columns.specs.Bytes.{is_blank, is_digit, is_printable, all}
use Rattle.columns.specs.Number.{digits_from, digits_only, whole_of, decimals_behind, fixed_of, field_of, digits_held, fewest_columns}
use Rattle.columns.specs.Written.{last_digit, digit_or_blank, digits_of, leading, whole_written, fixed_written, written}
use Rattle.columns.proofs.BytesLaws.{all_append, all_snoc, all_cons, all_weaken, digit_printable}
use Rattle.columns.proofs.NumberLaws.{digits_bound, field_bound, digits_never_blank}
use Rattle.columns.specs.declared.Field.{Field}
use Rattle.columns.specs.declared.Field.TheVariants.{Blank, Malformed, Number}

-- lengths

snoc_length : (xs : List ℕ) (b w : ℕ) → length xs ≡ w → length (xs ++ (b ∷ [])) ≡ suc w
snoc_length xs b w e = length-append xs (b ∷ []) ∙ omega arith

pub digits_length : (w v : ℕ) → length (digits_of w v) ≡ w
unfolding digits_of
digits_length zero v = refl
digits_length (suc w) v = snoc_length (digits_of w (v / 10)) (last_digit v) w (digits_length w (v / 10))

pub leading_length : (w v : ℕ) → length (leading w v) ≡ w
unfolding leading
leading_length zero v = refl
leading_length (suc w) v = snoc_length (leading w (v / 10)) (digit_or_blank v) w (leading_length w (v / 10))

pub whole_length : (w v : ℕ) → length (whole_written w v) ≡ w
unfolding whole_written
whole_length zero v = refl
whole_length (suc w) v = snoc_length (leading w (v / 10)) (last_digit v) w (leading_length w (v / 10))

pub fixed_length : (width d v : ℕ) → d < width → length (fixed_written width d v) ≡ width
unfolding fixed_written
fixed_length width d v h =
    length-append (whole_written (width - suc d) (v / 10 ^ d)) (46 ∷ digits_of d v)
    ∙ omega (arith, whole_length (width - suc d) (v / 10 ^ d), digits_length d v)

pub written_length : (width d v : ℕ) → fewest_columns d ≤ width → length (written width d v) ≡ width
unfolding written
written_length width zero v h = whole_length width v
written_length width (suc d) v h = fixed_length width (suc d) v (omega arith)

-- the two formats

pub written_whole : (width d v : ℕ) → d ≡ 0 → written width d v ≡ whole_written width v
unfolding written
written_whole width d v e = rw e

pub written_fixed : (width d v : ℕ) → 0 < d → written width d v ≡ fixed_written width d v
unfolding written
written_fixed width zero v h = absurd (omega arith)
written_fixed width (suc d) v h = refl

-- bytes

digit_is : (v : ℕ) → is_digit (last_digit v) ≡ true
digit_is v = rw (le-leb 48 (48 + v % 10) (omega arith)) (le-leb (48 + v % 10) 57 (omega arith))

pub digits_all_digits : (w v : ℕ) → all is_digit (digits_of w v) ≡ true
unfolding digits_of all
digits_all_digits zero v = refl
digits_all_digits (suc w) v =
    all_snoc is_digit (digits_of w (v / 10)) (last_digit v) (digits_all_digits w (v / 10)) (digit_is v)

pub digits_printable : (w v : ℕ) → all is_printable (digits_of w v) ≡ true
digits_printable w v = all_weaken is_digit is_printable digit_printable (digits_of w v) (digits_all_digits w v)

digit_or_blank_printable : (v : ℕ) → is_printable (digit_or_blank v) ≡ true
unfolding digit_or_blank
digit_or_blank_printable zero = refl
digit_or_blank_printable (suc v) = digit_printable (last_digit (suc v)) (digit_is (suc v))

leading_printable : (w v : ℕ) → all is_printable (leading w v) ≡ true
unfolding leading all
leading_printable zero v = refl
leading_printable (suc w) v =
    all_snoc is_printable (leading w (v / 10)) (digit_or_blank v) (leading_printable w (v / 10)) (digit_or_blank_printable v)

whole_printable : (w v : ℕ) → all is_printable (whole_written w v) ≡ true
unfolding whole_written all
whole_printable zero v = refl
whole_printable (suc w) v =
    all_snoc is_printable (leading w (v / 10)) (last_digit v) (leading_printable w (v / 10)) (digit_printable (last_digit v) (digit_is v))

pub written_printable : (width d v : ℕ) → all is_printable (written width d v) ≡ true
unfolding written fixed_written
written_printable width zero v = whole_printable width v
written_printable width (suc d) v =
    all_append is_printable (whole_written (width - suc (suc d)) (v / 10 ^ suc d)) (46 ∷ digits_of (suc d) v)
    (whole_printable (width - suc (suc d)) (v / 10 ^ suc d))
    (all_cons is_printable 46 (digits_of (suc d) v) refl (digits_printable (suc d) v))

-- reading back

-- one digit more, behind what was read
last_worth : (v : ℕ) → last_digit v - 48 ≡ v % 10
last_worth v = add-sub_cancel_left 48 (v % 10)

digits_snoc : (before : ℕ) (xs : List ℕ) (q v : ℕ) → digits_from before xs ≡ Number q → digits_from before (xs ++ (last_digit v ∷ [])) ≡ Number (q * 10 + v % 10)
unfolding digits_from
digits_snoc before [] q v h =
    let e : before ≡ q = cc in
    rw (digit_is v, digits_from, last_worth v, e)
digits_snoc before (x ∷ xs) q v h = go (digits_snoc (before * 10 + (x - 48)) xs q v) (is_digit x) h
  where
    go : (digits_from (before * 10 + (x - 48)) xs ≡ Number q → digits_from (before * 10 + (x - 48)) (xs ++ (last_digit v ∷ [])) ≡ Number (q * 10 + v % 10))
        → (t : Bool) → elim t [ true ↦ digits_from (before * 10 + (x - 48)) xs | false ↦ Malformed ] ≡ Number q
        → elim t [ true ↦ digits_from (before * 10 + (x - 48)) (xs ++ (last_digit v ∷ [])) | false ↦ Malformed ] ≡ Number (q * 10 + v % 10)
    go ih true k = ih k
    go ih false k = cc

pub digits_behind_lem : (w v : ℕ) → digits_from (v / 10 ^ w) (digits_of w v) ≡ Number v
unfolding digits_of digits_from
digits_behind_lem zero v = ap Number (div-one v)
digits_behind_lem (suc w) v =
    let e : v / 10 ^ suc w ≡ v / 10 / 10 ^ w = ap (λ (n : ℕ). v / n) (pow-succ' 10 w) ∙ sym (div-div-eq-div-mul v 10 (10 ^ w)) in
    rw e (digits_snoc (v / 10 / 10 ^ w) (digits_of w (v / 10)) (v / 10) v (digits_behind_lem w (v / 10)) ∙ ap Number (div-add-mod' v 10))

-- columns that are digits only
pub read_digits_written : (w v : ℕ) → v < 10 ^ w → digits_only (digits_of w v) ≡ Number v
read_digits_written w v h =
    let e : v / 10 ^ w ≡ 0 = div-eq_of_lt h in
    rw e at (digits_behind_lem w v)

-- and one that they do not hold is not
pub digits_fit : (w v : ℕ) → digits_only (digits_of w v) ≡ Number v → v < 10 ^ w
digits_fit w v e = omega (arith, rw (digits_length w v) at (digits_bound 0 (digits_of w v) v e))

-- what blanks and digits with no needless zero in front are read as
lead : ℕ → Field
lead zero = Blank
lead (suc v) = Number (suc v)

lead_digits : (before : ℕ) (xs : List ℕ) (q v : ℕ) → digits_from before xs ≡ lead q → digits_from before (xs ++ (last_digit v ∷ [])) ≡ Number (q * 10 + v % 10)
unfolding lead
lead_digits before xs zero v h = absurd (digits_never_blank before xs h)
lead_digits before xs (suc q) v h = digits_snoc before xs (suc q) v h

digit_not_blank : (v : ℕ) → is_blank (last_digit v) ≡ false
digit_not_blank v = ne_eqb (48 + v % 10) 32 (λ e. omega arith)

lead_digit : (xs : List ℕ) (q v : ℕ) → whole_of xs ≡ lead q → whole_of (xs ++ (last_digit v ∷ [])) ≡ Number (q * 10 + v % 10)
unfolding whole_of digits_from lead
lead_digit [] zero v h = rw (digit_not_blank v, whole_of) (digits_snoc 0 [] 0 v refl)
lead_digit [] (suc q) v h = cc
lead_digit (x ∷ xs) q v h = go (lead_digit xs q v) (is_blank x) h
  where
    go : (whole_of xs ≡ lead q → whole_of (xs ++ (last_digit v ∷ [])) ≡ Number (q * 10 + v % 10))
        → (t : Bool) → elim t [ true ↦ whole_of xs | false ↦ digits_from 0 (x ∷ xs) ] ≡ lead q
        → elim t [ true ↦ whole_of (xs ++ (last_digit v ∷ [])) | false ↦ digits_from 0 (x ∷ xs ++ (last_digit v ∷ [])) ] ≡ Number (q * 10 + v % 10)
    go ih true k = ih k
    go ih false k = lead_digits 0 (x ∷ xs) q v k

lead_blank : (xs : List ℕ) → whole_of xs ≡ Blank → whole_of (xs ++ (32 ∷ [])) ≡ Blank
unfolding whole_of
lead_blank [] h = refl
lead_blank (x ∷ xs) h = go (lead_blank xs) (is_blank x) h
  where
    go : (whole_of xs ≡ Blank → whole_of (xs ++ (32 ∷ [])) ≡ Blank)
        → (t : Bool) → elim t [ true ↦ whole_of xs | false ↦ digits_from 0 (x ∷ xs) ] ≡ Blank
        → elim t [ true ↦ whole_of (xs ++ (32 ∷ [])) | false ↦ digits_from 0 (x ∷ xs ++ (32 ∷ [])) ] ≡ Blank
    go ih true k = ih k
    go ih false k = absurd (digits_never_blank 0 (x ∷ xs) k)

fewer : (w v : ℕ) → v < 10 ^ suc w → v / 10 < 10 ^ w
fewer w v h = omega (arith, pow-suc 10 w)

leading_back : (w v : ℕ) → v < 10 ^ w → whole_of (leading w v) ≡ lead v
unfolding leading lead whole_of digit_or_blank
leading_back zero zero h = refl
leading_back zero (suc v) h = absurd (omega arith)
leading_back (suc w) zero h = lead_blank (leading w (0 / 10)) (leading_back w 0 (one-le-pow w 10 (lit< tt)))
leading_back (suc w) (suc v) h =
    lead_digit (leading w (suc v / 10)) (suc v / 10) (suc v) (leading_back w (suc v / 10) (fewer w (suc v) h)) ∙ ap Number (div-add-mod' (suc v) 10)

whole_back : (w v : ℕ) → 0 < w → v < 10 ^ w → whole_of (whole_written w v) ≡ Number v
unfolding whole_written
whole_back zero v p h = absurd (omega arith)
whole_back (suc w) v p h =
    lead_digit (leading w (v / 10)) (v / 10) v (leading_back w (v / 10) (fewer w v h)) ∙ ap Number (div-add-mod' v 10)

fixed_back : (width d v : ℕ) → d + 2 ≤ width → v < 10 ^ (width - 1) → fixed_of d (fixed_written width d v) ≡ Number v
unfolding fixed_of fixed_written decimals_behind
fixed_back width d v r h =
    let whole = whole_written (width - suc d) (v / 10 ^ d) in
    let n : length (whole ++ (46 ∷ digits_of d v)) - suc d ≡ width - suc d = ap (λ (k : ℕ). k - suc d) (fixed_length') in
    let e : length whole ≡ width - suc d = whole_length (width - suc d) (v / 10 ^ d) in
    let s : (width - suc d) + d ≡ width - 1 = omega arith in
    let m : v < 10 ^ (width - suc d) * 10 ^ d = rw (← pow-add 10 (width - suc d) d, s) h in
    let q : v / 10 ^ d < 10 ^ (width - suc d) = (div-lt_iff_lt-mul (one-le-pow d 10 (lit< tt))).1 m in
    let b = whole_back (width - suc d) (v / 10 ^ d) (omega arith) q in
    rw (n, take_at whole (46 ∷ digits_of d v) (width - suc d) e, drop_at whole (46 ∷ digits_of d v) (width - suc d) e, b)
    (digits_behind_lem d v)
  where
    fixed_length' : length (whole_written (width - suc d) (v / 10 ^ d) ++ (46 ∷ digits_of d v)) ≡ width
    fixed_length' = fixed_length width d v (omega arith)

-- a number that the columns hold is read back
pub read_written : (width d v : ℕ) → fewest_columns d ≤ width → v < 10 ^ digits_held d width → field_of d (written width d v) ≡ Number v
unfolding field_of written
read_written width zero v r h = whole_back width v r h
read_written width (suc d) v r h = fixed_back width (suc d) v r h

-- and one that they do not hold is not
pub written_fits : (width d v : ℕ) → fewest_columns d ≤ width → field_of d (written width d v) ≡ Number v → v < 10 ^ digits_held d width
written_fits width d v r e = rw (written_length width d v r) at (field_bound d (written width d v) v e)
