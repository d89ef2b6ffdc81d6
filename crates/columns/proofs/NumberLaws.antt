-- Laws of numbers read: how large a number the columns of a field hold.
use Rattle.std.specs.Prelude.{◌≡◌, ℕ, zero, suc, ◌+◌, ◌-◌, ◌*◌, ◌^◌, ◌<◌, ◌≤◌, Bool, true, false, ◌&&◌, ◌↔◌, List, [], ◌∷◌, length, take, drop, ◌==◌, ◌≢◌, nat_le, refl}
use Rattle.std.proofs.Common.{sym, ◌∙◌, arith, pow-suc, mul-le-mul_right, lit<, pow-add, length-drop, take-append-drop, length-take-le, leb-true}
use Rattle.std.proofs.Math.Nat.{pow-zero, one-le-pow}
use Rattle.exact.specs.Logic.{clash}
use Rattle.columns.specs.Bytes.{is_blank, is_digit, all}
use Rattle.columns.proofs.BytesLaws.{all_append, all_take, all_drop}
use Rattle.columns.specs.Number.{digits_from, digits_only, whole_of, decimals_behind, fixed_of, field_of, is_empty, number_of, digits_held, fewest_columns}
use Rattle.columns.specs.Columns.{columns}
use Rattle.columns.proofs.ColumnsLaws.{columns_length}
use Rattle.columns.specs.declared.Field.{Field}
use Rattle.columns.specs.declared.Field.TheVariants.{Blank, Malformed, Number}

digit_most : (b : ℕ) → is_digit b ≡ true → b - 48 ≤ 9
digit_most b h = go (nat_le 48 b) h
  where
    go : (t : Bool) → t && nat_le b 57 ≡ true → b - 48 ≤ 9
    go true k = omega (arith, leb-true b 57 k)
    go false k = clash (cc)

-- digits behind digits worth `before`: each digit more makes ten times as much at most
pub digits_bound : (before : ℕ) (bs : List ℕ) (v : ℕ) → digits_from before bs ≡ Number v → v + 1 ≤ (before + 1) * 10 ^ length bs
unfolding digits_from
digits_bound before [] v h =
    let e : before ≡ v = cc in
    omega (arith, pow-zero 10)
digits_bound before (b ∷ bs) v h = go (digits_bound (before * 10 + (b - 48)) bs v) (is_digit b) refl h
  where
    go : (digits_from (before * 10 + (b - 48)) bs ≡ Number v → v + 1 ≤ (before * 10 + (b - 48) + 1) * 10 ^ length bs)
        → (t : Bool) → is_digit b ≡ t → elim t [ true ↦ digits_from (before * 10 + (b - 48)) bs | false ↦ Malformed ] ≡ Number v
        → v + 1 ≤ (before + 1) * 10 ^ suc (length bs)
    go ih true e k =
        let m : before * 10 + (b - 48) + 1 ≤ (before + 1) * 10 = omega (arith, digit_most b e) in
        rw (pow-suc 10 (length bs)) (omega (arith, ih k, mul-le-mul_right (10 ^ length bs) m))
    go ih false e k = clash (cc)

pub whole_bound : (bs : List ℕ) (v : ℕ) → whole_of bs ≡ Number v → v < 10 ^ length bs
unfolding whole_of
whole_bound [] v h = clash (cc)
whole_bound (b ∷ bs) v h = go (whole_bound bs v) (is_blank b) h
  where
    go : (whole_of bs ≡ Number v → v < 10 ^ length bs)
        → (t : Bool) → elim t [ true ↦ whole_of bs | false ↦ digits_from 0 (b ∷ bs) ] ≡ Number v → v < 10 ^ suc (length bs)
    go ih true k = omega (arith, ih k, pow-suc 10 (length bs))
    go ih false k = omega (arith, digits_bound 0 (b ∷ bs) v k)

-- a point and decimals behind a whole number below m
behind_bound : (m : ℕ) (whole : Field) (bs : List ℕ) (v : ℕ) → ((k : ℕ) → whole ≡ Number k → k < m) → decimals_behind whole bs ≡ Number v
    → v < m * 10 ^ (length bs - 1)
unfolding decimals_behind
behind_bound m (Number k) [] v p h = clash (cc)
behind_bound m (Number k) (b ∷ bs) v p h = go (b == 46) h
  where
    go : (t : Bool) → elim t [ true ↦ digits_from k bs | false ↦ Malformed ] ≡ Number v → v < m * 10 ^ (suc (length bs) - 1)
    go true q =
        let e : suc (length bs) - 1 ≡ length bs = omega arith in
        let l : k + 1 ≤ m = omega (arith, p k refl) in
        rw e (omega (arith, digits_bound k bs v q, mul-le-mul_right (10 ^ length bs) l))
    go false q = clash (cc)
behind_bound m Malformed bs v p h = clash (cc)
behind_bound m Blank bs v p h = go (all is_blank bs) h
  where
    go : (t : Bool) → elim t [ true ↦ Blank | false ↦ Malformed ] ≡ Number v → v < m * 10 ^ (length bs - 1)
    go true q = clash (cc)
    go false q = clash (cc)

fixed_bound : (d : ℕ) (bs : List ℕ) (v : ℕ) → fixed_of d bs ≡ Number v → v < 10 ^ (length bs - 1)
unfolding fixed_of
fixed_bound d bs v h =
    let n = length bs - suc d in
    let e : length (take n bs) ≡ n = length-take-le n bs (omega arith) in
    let f : n + (length (drop n bs) - 1) ≡ length bs - 1 = rw length-drop (omega arith) in
    rw (← f, pow-add) (behind_bound (10 ^ n) (whole_of (take n bs)) (drop n bs) v (λ k q. rw e at (whole_bound (take n bs) k q)) h)

-- a number in a field has no more digits than the field holds
pub field_bound : (d : ℕ) (bs : List ℕ) (v : ℕ) → field_of d bs ≡ Number v → v < 10 ^ digits_held d (length bs)
unfolding field_of
field_bound zero bs v h = whole_bound bs v h
field_bound (suc d) bs v h = fixed_bound (suc d) bs v h

-- the same of `number_of`, which is 0 where there is no number
number_below : (n : ℕ) (f : Field) → ((v : ℕ) → f ≡ Number v → v < 10 ^ n) → number_of f < 10 ^ n
unfolding number_of
number_below n Blank h = one-le-pow n 10 (lit< tt)
number_below n Malformed h = one-le-pow n 10 (lit< tt)
number_below n (Number v) h = h v refl

pub number_bound : (d : ℕ) (bs : List ℕ) → number_of (field_of d bs) < 10 ^ digits_held d (length bs)
number_bound d bs = number_below (digits_held d (length bs)) (field_of d bs) (field_bound d bs)

pub digits_only_bound : (bs : List ℕ) → number_of (digits_only bs) < 10 ^ length bs
digits_only_bound bs = number_below (length bs) (digits_only bs) (λ v h. omega (arith, digits_bound 0 bs v h))

-- the same of columns of a line
module _ (start width : ℕ) (l : List ℕ) (inside : start - 1 + width ≤ length l) where
  pub columns_number_bound : (d : ℕ) → number_of (field_of d (columns start width l)) < 10 ^ digits_held d width
  columns_number_bound d = rw (columns_length start width l inside) at (number_bound d (columns start width l))

  pub columns_digits_bound : number_of (digits_only (columns start width l)) < 10 ^ width
  columns_digits_bound = rw (columns_length start width l inside) at (digits_only_bound (columns start width l))

-- digits are never a blank field
pub digits_never_blank : (before : ℕ) (xs : List ℕ) → digits_from before xs ≢ Blank
unfolding digits_from
digits_never_blank before [] h = clash (cc)
digits_never_blank before (x ∷ xs) h = go (digits_never_blank (before * 10 + (x - 48)) xs) (is_digit x) h
  where
    go : (digits_from (before * 10 + (x - 48)) xs ≢ Blank)
        → (t : Bool) → elim t [ true ↦ digits_from (before * 10 + (x - 48)) xs | false ↦ Malformed ] ≡ Blank → ⊥
    go ih true k = ih k
    go ih false k = clash (cc)

-- a field is blank where every byte in it is a blank, and nowhere else
blank_whole : (bs : List ℕ) → whole_of bs ≡ Blank → all is_blank bs ≡ true
unfolding whole_of all
blank_whole [] h = refl
blank_whole (b ∷ bs) h = go (blank_whole bs) (is_blank b) h
  where
    go : (whole_of bs ≡ Blank → all is_blank bs ≡ true)
        → (t : Bool) → elim t [ true ↦ whole_of bs | false ↦ digits_from 0 (b ∷ bs) ] ≡ Blank → elim t [ true ↦ all is_blank bs | false ↦ false ] ≡ true
    go ih true k = ih k
    go ih false k = absurd (digits_never_blank 0 (b ∷ bs) k)

whole_blank : (bs : List ℕ) → all is_blank bs ≡ true → whole_of bs ≡ Blank
unfolding whole_of all
whole_blank [] h = refl
whole_blank (b ∷ bs) h = go (whole_blank bs) (is_blank b) h
  where
    go : (all is_blank bs ≡ true → whole_of bs ≡ Blank)
        → (t : Bool) → elim t [ true ↦ all is_blank bs | false ↦ false ] ≡ true → elim t [ true ↦ whole_of bs | false ↦ digits_from 0 (b ∷ bs) ] ≡ Blank
    go ih true k = ih k
    go ih false k = cc

blank_behind : (whole : Field) (bs : List ℕ) → decimals_behind whole bs ≡ Blank → (whole ≡ Blank) × (all is_blank bs ≡ true)
unfolding decimals_behind
blank_behind (Number k) [] h = clash (cc)
blank_behind (Number k) (b ∷ bs) h = go (b == 46) h
  where
    go : (t : Bool) → elim t [ true ↦ digits_from k bs | false ↦ Malformed ] ≡ Blank → (Number k ≡ Blank) × (all is_blank (b ∷ bs) ≡ true)
    go true q = absurd (digits_never_blank k bs q)
    go false q = clash (cc)
blank_behind Malformed bs h = clash (cc)
blank_behind Blank bs h = (refl, go (all is_blank bs) h)
  where
    go : (t : Bool) → elim t [ true ↦ Blank | false ↦ Malformed ] ≡ Blank → t ≡ true
    go true q = refl
    go false q = cc

blank_fixed : (d : ℕ) (bs : List ℕ) → fixed_of d bs ≡ Blank → all is_blank bs ≡ true
unfolding fixed_of
blank_fixed d bs h =
    let n = length bs - suc d in
    let parts : (whole_of (take n bs) ≡ Blank) × (all is_blank (drop n bs) ≡ true) = blank_behind (whole_of (take n bs)) (drop n bs) h in
    rw (take-append-drop n bs) at (all_append is_blank (take n bs) (drop n bs) (blank_whole (take n bs) parts.0) parts.1)

fixed_blank : (d : ℕ) (bs : List ℕ) → all is_blank bs ≡ true → fixed_of d bs ≡ Blank
unfolding fixed_of decimals_behind
fixed_blank d bs h =
    let n = length bs - suc d in
    rw (whole_blank (take n bs) (all_take is_blank n bs h), all_drop is_blank n bs h, decimals_behind)

pub field_blank : (d : ℕ) (bs : List ℕ) → (field_of d bs ≡ Blank) ↔ (all is_blank bs ≡ true)
unfolding field_of
field_blank zero bs = (blank_whole bs, whole_blank bs)
field_blank (suc d) bs = (blank_fixed (suc d) bs, fixed_blank (suc d) bs)

pub field_empty : (d : ℕ) (bs : List ℕ) → is_empty (field_of d bs) ≡ all is_blank bs
unfolding is_empty
field_empty d bs = go (field_of d bs) refl
  where
    other : {f : Field} → field_of d bs ≡ f → (f ≢ Blank) → all is_blank bs ≡ false
    other e n = go2 (all is_blank bs) refl
      where
        go2 : (t : Bool) → all is_blank bs ≡ t → t ≡ false
        go2 true g = absurd (n (sym e ∙ (field_blank d bs).1 g))
        go2 false g = refl

    go : (f : Field) → field_of d bs ≡ f → is_empty f ≡ all is_blank bs
    go Blank e = sym ((field_blank d bs).0 e)
    go Malformed e = sym (other e (λ g. clash (cc)))
    go (Number k) e = sym (other e (λ g. clash (cc)))

-- the two formats
pub field_whole : (d : ℕ) (bs : List ℕ) → d ≡ 0 → field_of d bs ≡ whole_of bs
unfolding field_of
field_whole d bs e = rw e

pub field_fixed : (d : ℕ) (bs : List ℕ) → 0 < d → field_of d bs ≡ fixed_of d bs
unfolding field_of
field_fixed zero bs h = absurd (omega arith)
field_fixed (suc d) bs h = refl

-- the fewest columns have room for a digit, and for a digit, the point and the decimals
pub fewest_digit : (d width : ℕ) → fewest_columns d ≤ width → 0 < width
fewest_digit zero width h = h
fewest_digit (suc d) width h = omega arith

pub fewest_decimals : (d width : ℕ) → 0 < d → fewest_columns d ≤ width → d + 2 ≤ width
fewest_decimals zero width p h = absurd (omega arith)
fewest_decimals (suc d) width p h = h
