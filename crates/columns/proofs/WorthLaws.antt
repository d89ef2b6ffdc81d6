-- A field that is not malformed is worth the number in it.
use Rattle.std.specs.Prelude.{◌≡◌, ℕ, zero, suc, ◌+◌, ◌-◌, ◌*◌, ◌%◌, ◌<◌, Bool, true, false, ◌&&◌, List, [], ◌∷◌, length, take, drop, ◌==◌, ◌≢◌, nat_le, refl}
use Rattle.std.proofs.Common.{sym, ap, ◌∙◌, arith, drop-drop, leb-true, eqb-true}
use Rattle.exact.specs.Logic.{clash}
use Rattle.columns.specs.Bytes.{is_blank, is_digit, all}
use Rattle.columns.specs.Number.{digits_from, whole_of, decimals_behind, fixed_of, field_of, number_of, point_in}
use Rattle.columns.specs.Worth.{low_from, fixed_worth, worth_of}
use Rattle.columns.proofs.NumberLaws.{digits_never_blank}
use Rattle.columns.specs.declared.Field.{Field}
use Rattle.columns.specs.declared.Field.TheVariants.{Blank, Malformed, Number}

low_digit : (b : ℕ) → is_digit b ≡ true → b % 16 ≡ b - 48
low_digit b h = go (nat_le 48 b) refl h
  where
    go : (t : Bool) → nat_le 48 b ≡ t → t && nat_le b 57 ≡ true → b % 16 ≡ b - 48
    go true e k = omega (arith, leb-true 48 b e, leb-true b 57 k)
    go false e k = clash (cc)

low_digits_lem : (v : ℕ) (bs : List ℕ) (k : ℕ) → digits_from v bs ≡ Number k → low_from v bs ≡ k
unfolding digits_from low_from
low_digits_lem v [] k h = let e : v ≡ k = cc in e
low_digits_lem v (b ∷ bs) k h = go (low_digits_lem (v * 10 + (b - 48)) bs k) (is_digit b) refl h
  where
    go : (digits_from (v * 10 + (b - 48)) bs ≡ Number k → low_from (v * 10 + (b - 48)) bs ≡ k)
        → (t : Bool) → is_digit b ≡ t → elim t [ true ↦ digits_from (v * 10 + (b - 48)) bs | false ↦ Malformed ] ≡ Number k
        → low_from (v * 10 + b % 16) bs ≡ k
    go ih true e w = ap (λ (n : ℕ). low_from (v * 10 + n) bs) (low_digit b e) ∙ ih w
    go ih false e w = clash (cc)

low_blanks : (bs : List ℕ) → all is_blank bs ≡ true → low_from 0 bs ≡ 0
unfolding all low_from
low_blanks [] h = refl
low_blanks (b ∷ bs) h = go (low_blanks bs) (is_blank b) refl h
  where
    go : (all is_blank bs ≡ true → low_from 0 bs ≡ 0) → (t : Bool) → is_blank b ≡ t → elim t [ true ↦ all is_blank bs | false ↦ false ] ≡ true
        → low_from (0 * 10 + b % 16) bs ≡ 0
    go ih true e k =
        let z : 0 * 10 + b % 16 ≡ 0 = omega (arith, eqb-true b 32 e) in
        rw z (ih k)
    go ih false e k = clash (cc)

low_tail : (bs : List ℕ) → all is_blank bs ≡ true → low_from 0 (drop 1 bs) ≡ 0
unfolding all low_from
low_tail [] h = refl
low_tail (b ∷ bs) h = low_blanks bs (rest (is_blank b) h)
  where
    rest : (t : Bool) → elim t [ true ↦ all is_blank bs | false ↦ false ] ≡ true → all is_blank bs ≡ true
    rest true k = k
    rest false k = clash (cc)

low_whole : (bs : List ℕ) (f : Field) → whole_of bs ≡ f → (f ≢ Malformed) → low_from 0 bs ≡ number_of f
unfolding whole_of low_from number_of
low_whole [] Blank h n = refl
low_whole [] Malformed h n = absurd (n refl)
low_whole [] (Number k) h n = clash (cc)
low_whole (b ∷ bs) f h n = go (low_whole bs f) (is_blank b) refl h
  where
    digits : (f : Field) → digits_from 0 (b ∷ bs) ≡ f → (f ≢ Malformed) → low_from 0 (b ∷ bs) ≡ number_of f
    digits Blank w m = absurd (never w)
      where
        never : digits_from 0 (b ∷ bs) ≡ Blank → ⊥
        never w = digits_never_blank 0 (b ∷ bs) w
    digits Malformed w m = absurd (m refl)
    digits (Number k) w m = low_digits_lem 0 (b ∷ bs) k w

    go : (whole_of bs ≡ f → (f ≢ Malformed) → low_from 0 bs ≡ number_of f) → (t : Bool) → is_blank b ≡ t
        → elim t [ true ↦ whole_of bs | false ↦ digits_from 0 (b ∷ bs) ] ≡ f → low_from (0 * 10 + b % 16) bs ≡ number_of f
    go ih true e k =
        let z : 0 * 10 + b % 16 ≡ 0 = omega (arith, eqb-true b 32 e) in
        rw z (ih k n)
    go ih false e k = digits f k n

-- the whole part, the point passed over, and the decimals
low_behind : (whole : Field) (bs : List ℕ) (v : ℕ) (f : Field) → ((whole ≢ Malformed) → v ≡ number_of whole) → decimals_behind whole bs ≡ f →
    (f ≢ Malformed) → low_from v (drop 1 bs) ≡ number_of f
unfolding decimals_behind number_of low_from
low_behind Malformed bs v f e h n = absurd (n (sym h))
low_behind (Number k) [] v f e h n = absurd (n (sym h))
low_behind (Number k) (b ∷ bs) v f e h n = go (b == 46) h
  where
    own : v ≡ k
    own = e (λ c. clash (cc))

    digits : (f : Field) → digits_from k bs ≡ f → (f ≢ Malformed) → low_from v bs ≡ number_of f
    digits Blank w m = absurd (digits_never_blank k bs w)
    digits Malformed w m = absurd (m refl)
    digits (Number j) w m = rw own (low_digits_lem k bs j w)

    go : (t : Bool) → elim t [ true ↦ digits_from k bs | false ↦ Malformed ] ≡ f → low_from v bs ≡ number_of f
    go true w = digits f w n
    go false w = absurd (n (sym w))
low_behind Blank bs v f e h n = go (all is_blank bs) refl h
  where
    own : v ≡ 0
    own = e (λ c. clash (cc))

    go : (t : Bool) → all is_blank bs ≡ t → elim t [ true ↦ Blank | false ↦ Malformed ] ≡ f → low_from v (drop 1 bs) ≡ number_of f
    go true b w = rw own (low_tail bs b) ∙ ap number_of w
    go false b w = absurd (n (sym w))

fixed_worth_lem : (d : ℕ) (bs : List ℕ) → (fixed_of d bs ≢ Malformed) → fixed_worth d bs ≡ number_of (fixed_of d bs)
unfolding fixed_of fixed_worth
fixed_worth_lem d bs n =
    let p = length bs - suc d in
    let e : point_in bs d ≡ p = omega arith in
    let w = whole_of (take p bs) in
    rw (e, ← drop-drop 1 p bs)
    (low_behind w (drop p bs) (low_from 0 (take p bs)) (decimals_behind w (drop p bs)) (λ m. low_whole (take p bs) w refl m) refl n)

pub worth_number : (d : ℕ) (bs : List ℕ) → (field_of d bs ≢ Malformed) → worth_of d bs ≡ number_of (field_of d bs)
unfolding field_of worth_of
worth_number zero bs n = low_whole bs (whole_of bs) refl n
worth_number (suc d) bs n = fixed_worth_lem (suc d) bs n

-- the two formats
pub worth_whole : (d : ℕ) (bs : List ℕ) → d ≡ 0 → worth_of d bs ≡ low_from 0 bs
unfolding worth_of
worth_whole d bs e = rw e

pub worth_fixed : (d : ℕ) (bs : List ℕ) → 0 < d → worth_of d bs ≡ fixed_worth d bs
unfolding worth_of
worth_fixed zero bs h = absurd (omega arith)
worth_fixed (suc d) bs h = refl
