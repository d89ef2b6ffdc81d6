-- The parts of a float's bit pattern are its value: sign, exponent field, digits.
use Rattle.std.specs.Prelude.{ℕ, zero, suc, ◌+◌, ◌-◌, ◌*◌, ◌%◌, ◌/◌, ◌≤◌, ◌<◌, ◌^◌, ◌≡◌, refl, Bool, true, false, not, ◌&&◌, ◌||◌}
use Rattle.std.specs.Prelude.{cond, T, eqb, leb, Some, Float}
use Rattle.std.proofs.Common.{sym, subst, ◌∙◌, true≢false, mul-pos, mul_assoc, mul-one, mod-lt, arith, eq-eqb, ne_eqb, pow_pos}
use Rattle.std.proofs.lemmas.Bool.{leb-true, lt-leb, le-leb}
use Rattle.std.specs.Float.{nan, inf, fin, binary64}
use Rattle.std.specs.Float.Ieee.{up, down, odd, fits, is_nan, ne, eq, of_fields, of_bits, to_bits}
use Rattle.std.specs.Float.Ieee.Fits.{up_pos, down_pos}
use Rattle.std.specs.Float.Ieee.Exact.{HasValue, odd_sign}
use Rattle.std.specs.Float.Ieee.Bits.{of_bits-to_bits, to_bits-lt}
use Rattle.std.specs.Float.Ieee.Compare.{differs_from_itself}
use Rattle.std.specs.Float.Ieee.Positive.{num, den}
use Rattle.recorder.specs.Recording.{usable}
use Rattle.recorder.specs.Parts.{float_scale, parts, parts_in, PartsOf}

-- `may` says whether the float is usable, and where it is, significand and exponent are its value
parts_told : (x : Float) (may : Bool) (significand exponent : ℕ) → may ≡ usable x → significand < 2 ^ 53 →
    (0 < exponent → 2 ^ 52 ≤ significand) → (usable x ≡ true → num x * 2 ^ float_scale ≡ significand * 2 ^ exponent * den x) →
    PartsOf x (parts may significand exponent)
parts_told x true m e t s l v = record { is_usable = sym t; short = s; long = l; exact = v (sym t) }
parts_told x false m e t s l v = sym t

-- ---- a value known as a fraction with its sign

eqb_suc : (m : ℕ) → eqb (suc m) 0 ≡ false
eqb_suc m = ne_eqb (suc m) 0 (λ (e : suc m ≡ 0). omega arith)

same_zero : (m a p q : ℕ) → 0 < p → 0 < q → m * p ≡ a * q → eqb m 0 ≡ eqb a 0
same_zero zero zero p q hp hq e = refl
same_zero zero (suc a) p q hp hq e = absurd (omega arith)
same_zero (suc m) zero p q hp hq e = absurd (omega arith)
same_zero (suc m) (suc a) p q hp hq e = eqb_suc m ∙ sym (eqb_suc a)

cross : (x : Float) (s : Bool) (a c : ℕ) → HasValue x s a c → num x * c ≡ a * den x
cross nan s a c h = absurd h
cross (inf t) s a c h = absurd h
cross (fin t m e) s a c h = h.1

usable_is : (x : Float) (s : Bool) (a c : ℕ) → 0 < c → HasValue x s a c → usable x ≡ (not s || eqb a 0)
usable_is nan s a c p h = absurd h
usable_is (inf t) s a c p h = absurd h
usable_is (fin t m e) s a c p h =
    rw (h.0, same_zero m a (up e * c) (down e) (mul-pos (up_pos e) p) (down_pos e) (sym (mul_assoc m (up e) c) ∙ h.1))

-- ---- the two forms of a pattern

abbrev fields : Bool → (field digits : ℕ) → Float
fields s field digits = of_fields binary64 s field digits

-- field 0: the digits themselves, times the smallest float
low_parts : (s : Bool) (digits : ℕ) → digits < 2 ^ 52 → PartsOf (fields s 0 digits) (parts_in s 0 digits)
unfolding of_fields
low_parts s t h =
    let x = odd 53 s t 0 float_scale in
    let v : HasValue x s (t * 2 ^ 0) (2 ^ float_scale) = odd_sign 53 s t 0 float_scale in
    parts_told x (not s || eqb t 0) t 0
    (sym (rw (mul-one t) at (usable_is x s (t * 2 ^ 0) (2 ^ float_scale) (pow_pos float_scale) v)))
    (omega arith) (λ (p : 0 < 0). absurd (omega arith)) (λ e. cross x s (t * 2 ^ 0) (2 ^ float_scale) v)

-- field 2047: an infinity or a NaN
not_finite : (b s : Bool) → usable (cond b (inf s) nan) ≡ false
not_finite true s = refl
not_finite false s = refl

never : (s : Bool) → (not s && false) ≡ false
never true = refl
never false = refl

same_sign : (s b : Bool) → b ≡ false → (not s && true) ≡ (not s || b)
same_sign true b e = sym e
same_sign false b e = refl

-- any other field: the digits behind a leading one, times 2^(field − 1) of the smallest float
high_parts : (s : Bool) (j digits : ℕ) → digits < 2 ^ 52 → PartsOf (fields s (suc j) digits) (parts_in s (suc j) digits)
unfolding of_fields
high_parts s j t h = go (eqb (suc j) 2047)
  where
    a : ℕ
    a = (2 ^ 52 + t) * 2 ^ j

    x : Float
    x = odd 53 s (2 ^ 52 + t) j float_scale

    v : HasValue x s a (2 ^ float_scale)
    v = odd_sign 53 s (2 ^ 52 + t) j float_scale

    some : eqb a 0 ≡ false
    some = ne_eqb a 0 (λ (e : a ≡ 0). omega (arith, mul-pos {m = 2 ^ 52 + t} {n = 2 ^ j} (omega arith) (pow_pos j)))

    go : (top : Bool) → PartsOf (cond top (cond (eqb t 0) (inf s) nan) x) (parts (not s && not top) (2 ^ 52 + t) j)
    go true =
        let n = not_finite (eqb t 0) s in
        parts_told (cond (eqb t 0) (inf s) nan) (not s && false) (2 ^ 52 + t) j
        (never s ∙ sym n) (omega arith) (λ p. omega arith) (λ e. absurd (true≢false (sym e ∙ n)))
    go false =
        parts_told x (not s && true) (2 ^ 52 + t) j
        (same_sign s (eqb a 0) some ∙ sym (usable_is x s a (2 ^ float_scale) (pow_pos float_scale) v))
        (omega arith) (λ p. omega arith) (λ e. cross x s a (2 ^ float_scale) v)

-- ---- a NaN, and only a NaN, is unlike itself

nan_parts : PartsOf nan (parts false 0 0)
nan_parts = refl

pub unlike_parts : (x : Float) → ne x x ≡ true → PartsOf x (parts false 0 0)
unlike_parts x e = rw (differs_from_itself x (subst T (sym e) tt)) nan_parts

pub like_itself : (x : Float) → ne x x ≡ false → T (not (is_nan x))
unfolding ne eq is_nan
like_itself nan e = absurd (true≢false e)
like_itself (inf s) e = tt
like_itself (fin s m k) e = tt

-- ---- a float is what its pattern says

opened : (b : ℕ) → fields (leb (2 ^ 63) b) (b % 2 ^ 63 / 2 ^ 52) (b % 2 ^ 52) ≡ of_bits binary64 b
unfolding of_bits
opened b = refl

fields_exact : (s : Bool) (field digits : ℕ) → digits < 2 ^ 52 → PartsOf (fields s field digits) (parts_in s field digits)
fields_exact s zero digits h = low_parts s digits h
fields_exact s (suc j) digits h = high_parts s j digits h

module _ (x : Float) (f : T (fits binary64 x)) where
  abbrev bits : ℕ
  bits = to_bits binary64 x

  abbrev negative : Bool
  negative = leb (2 ^ 63) bits

  abbrev field : ℕ
  field = bits % 2 ^ 63 / 2 ^ 52

  abbrev digits : ℕ
  digits = bits % 2 ^ 52

  pub parts_exact : PartsOf x (parts_in negative field digits)
  parts_exact =
      subst (λ (y : Float). PartsOf y (parts_in negative field digits)) (opened bits ∙ of_bits-to_bits binary64 x f)
      (fields_exact negative field digits (mod-lt bits (pow_pos 52)))

  -- by whether the field is 0

  pub low_pattern : field ≡ 0 → PartsOf x (parts_in negative 0 digits)
  low_pattern e = subst (λ (k : ℕ). PartsOf x (parts_in negative k digits)) e parts_exact

  pub high_pattern : (field ≡ 0 → ⊥) → PartsOf x (parts (not negative && not (eqb field 2047)) (2 ^ 52 + digits) (field - 1))
  high_pattern n = subst (PartsOf x) (above field n) parts_exact
    where
      above : (k : ℕ) → (k ≡ 0 → ⊥) → parts_in negative k digits ≡ parts (not negative && not (eqb k 2047)) (2 ^ 52 + digits) (k - 1)
      above zero n = absurd (n refl)
      above (suc j) n = let e : suc j - 1 ≡ j = omega arith in rw e

  -- as the code tells them

  pub negative_unusable : 2 ^ 63 < bits → usable x ≡ false
  negative_unusable h = go field refl
    where
      signed : negative ≡ true
      signed = le-leb (2 ^ 63) bits (omega arith)

      room : bits < 2 ^ 64
      room = to_bits-lt binary64 x f

      go : (k : ℕ) → field ≡ k → usable x ≡ false
      go zero e = rw (signed, ne_eqb digits 0 (λ (z : digits ≡ 0). omega (arith, room))) at (low_pattern e)
      go (suc j) e = rw signed at (high_pattern (λ (z : field ≡ 0). omega arith))

  pub top_unusable : field ≡ 2047 → usable x ≡ false
  top_unusable e = rw (eq-eqb field 2047 e, never negative) at (high_pattern (λ (z : field ≡ 0). omega arith))

  pub low_usable : bits ≤ 2 ^ 63 → field ≡ 0 → PartsOf x (Some (record { significand = digits; exponent = 0 }))
  low_usable h e = rw (go negative refl) at (low_pattern e)
    where
      go : (b : Bool) → negative ≡ b → (not b || eqb digits 0) ≡ true
      go false n = refl
      go true n = eq-eqb digits 0 (omega (arith, leb-true (2 ^ 63) bits n))

  pub high_usable : bits ≤ 2 ^ 63 → (field ≡ 2047 → ⊥) → (field ≡ 0 → ⊥) →
      PartsOf x (Some (record { significand = 2 ^ 52 + digits; exponent = field - 1 }))
  high_usable h t n = rw (lt-leb (2 ^ 63) bits (omega arith), ne_eqb field 2047 t) at (high_pattern n)
