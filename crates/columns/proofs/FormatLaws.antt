-- A number is read from columns that are in its format, and from no others. Format.antt has the formats.
use Rattle.std.specs.Prelude.{◌≡◌, ℕ, zero, suc, ◌+◌, ◌-◌, ◌*◌, ◌^◌, ◌≤◌, Bool, true, false, ◌↔◌, List, [], ◌∷◌, ◌++◌, length, take, drop, ◌==◌, nat_le, refl}
use Rattle.std.proofs.Common.{sym, ap, ◌∙◌, append_assoc, append-nil, arith, pow-suc, pow-add, length-append, length-drop, take-append-drop, length-take-le, take_at, drop_at, eqb-true, eq-eqb, ne_eqb, leb-true, le-leb}
use Rattle.std.proofs.Math.Nat.{pow-zero}
use Rattle.exact.specs.Logic.{clash, both}
use Rattle.columns.specs.Bytes.{is_blank, is_digit, all}
use Rattle.columns.specs.Number.{digits_from, digits_only, whole_of, decimals_behind, fixed_of, field_of}
use Rattle.columns.specs.Format.{Digits, decimal, Blanks, DigitsOnly, InFormat}
use Rattle.columns.specs.declared.Field.{Field}
use Rattle.columns.specs.declared.Field.TheVariants.{Blank, Malformed, Number}

-- digits behind digits worth `before`

abbrev pub behind_worth : ℕ → List ℕ → ℕ
behind_worth before bs = before * 10 ^ length bs + decimal bs

one_more_lem : (before b : ℕ) (bs : List ℕ) → behind_worth (before * 10 + (b - 48)) bs ≡ behind_worth before (b ∷ bs)
one_more_lem before b bs = rw (pow-suc 10 (length bs)) (omega arith)

digits_read : (before : ℕ) (bs : List ℕ) (v : ℕ) → digits_from before bs ≡ Number v → Digits bs × (v ≡ behind_worth before bs)
unfolding digits_from
digits_read before [] v e = let z : before ≡ v = cc in (tt, rw (pow-zero 10) (omega arith))
digits_read before (b ∷ bs) v e = go (digits_read (before * 10 + (b - 48)) bs v) (is_digit b) refl e
  where
    go : (digits_from (before * 10 + (b - 48)) bs ≡ Number v → Digits bs × (v ≡ behind_worth (before * 10 + (b - 48)) bs)) →
        (t : Bool) → is_digit b ≡ t → elim t [ true ↦ digits_from (before * 10 + (b - 48)) bs | false ↦ Malformed ] ≡ Number v →
        Digits (b ∷ bs) × (v ≡ behind_worth before (b ∷ bs))
    go ih true k w =
        let d = both (nat_le 48 b) (nat_le b 57) k in
        let i = ih w in
        (((leb-true 48 b d.0, leb-true b 57 d.1), i.0), i.1 ∙ one_more_lem before b bs)
    go ih false k w = clash (cc)

pub read_digits_lem : (before : ℕ) (bs : List ℕ) → Digits bs → digits_from before bs ≡ Number (behind_worth before bs)
unfolding digits_from
read_digits_lem before [] d = let z : before * 1 + 0 ≡ before = omega arith in rw (pow-zero 10, z)
read_digits_lem before (b ∷ bs) d =
    rw (le-leb 48 b d.0.0, le-leb b 57 d.0.1, digits_from) (read_digits_lem (before * 10 + (b - 48)) bs d.1 ∙ ap Number (one_more_lem before b bs))

from_zero : (bs : List ℕ) → behind_worth 0 bs ≡ decimal bs
from_zero bs = omega arith

pub digits_only_lem : (bs : List ℕ) (v : ℕ) → (digits_only bs ≡ Number v) ↔ DigitsOnly bs v
digits_only_lem bs v = (
  (λ e. let r = digits_read 0 bs v e in record { digits = r.0; own = r.1 ∙ from_zero bs }),
  (λ d. read_digits_lem 0 bs d.digits ∙ ap Number (from_zero bs ∙ sym d.own)),
)

-- the whole part: blanks or none, and at least one digit

record Whole (bs : List ℕ) (v : ℕ) : Type 0 where
  blanks : List ℕ
  digits : List ℕ
  parts : bs ≡ blanks ++ digits
  all_blanks : Blanks blanks
  some : 1 ≤ length digits
  all_digits : Digits digits
  own : v ≡ decimal digits

whole_read : (bs : List ℕ) (v : ℕ) → whole_of bs ≡ Number v → Whole bs v
unfolding whole_of
whole_read [] v e = clash (cc)
whole_read (b ∷ bs) v e = go (whole_read bs v) (is_blank b) refl e
  where
    go : (whole_of bs ≡ Number v → Whole bs v) → (t : Bool) → is_blank b ≡ t → elim t [ true ↦ whole_of bs | false ↦ digits_from 0 (b ∷ bs) ] ≡ Number v →
        Whole (b ∷ bs) v
    go ih true k w =
        let i = ih w in
        record {
          blanks = b ∷ i.blanks;
          digits = i.digits;
          parts = ap (λ (x : List ℕ). b ∷ x) i.parts;
          all_blanks = (eqb-true b 32 k, i.all_blanks);
          some = i.some;
          all_digits = i.all_digits;
          own = i.own;
        }
    go ih false k w =
        let r = digits_read 0 (b ∷ bs) v w in
        record { blanks = []; digits = b ∷ bs; parts = refl; all_blanks = tt; some = omega arith; all_digits = r.0; own = r.1 ∙ from_zero (b ∷ bs) }

read_whole : (blanks whole : List ℕ) → Blanks blanks → 1 ≤ length whole → Digits whole → whole_of (blanks ++ whole) ≡ Number (decimal whole)
unfolding whole_of
read_whole [] [] b s d = absurd (omega arith)
read_whole [] (w ∷ ws) b s d =
    rw (ne_eqb w 32 (λ e. absurd (omega (arith, d.0.0))), whole_of) (read_digits_lem 0 (w ∷ ws) d ∙ ap Number (from_zero (w ∷ ws)))
read_whole (x ∷ xs) whole b s d = rw (eq-eqb x 32 b.0, whole_of) (read_whole xs whole b.1 s d)

-- digits in front of digits
decimal_append : (xs ys : List ℕ) → decimal (xs ++ ys) ≡ behind_worth (decimal xs) ys
decimal_append [] ys = omega arith
decimal_append (x ∷ xs) ys =
    rw (decimal_append xs ys, length-append xs ys, pow-add 10 (length xs) (length ys)) (omega arith)

-- a point and decimals behind a whole part
record Behind (whole : Field) (rest : List ℕ) (v : ℕ) : Type 0 where
  worth : ℕ
  decimals : List ℕ
  first : whole ≡ Number worth
  point : rest ≡ 46 ∷ decimals
  read : digits_from worth decimals ≡ Number v

behind_read : (whole : Field) (rest : List ℕ) (v : ℕ) → decimals_behind whole rest ≡ Number v → Behind whole rest v
unfolding decimals_behind
behind_read (Number w) [] v e = clash (cc)
behind_read (Number w) (b ∷ bs) v e = go (b == 46) refl e
  where
    go : (t : Bool) → (b == 46) ≡ t → elim t [ true ↦ digits_from w bs | false ↦ Malformed ] ≡ Number v → Behind (Number w) (b ∷ bs) v
    go true k q = record { worth = w; decimals = bs; first = refl; point = ap (λ (x : ℕ). x ∷ bs) (eqb-true b 46 k); read = q }
    go false k q = clash (cc)
behind_read Malformed rest v e = clash (cc)
behind_read Blank rest v e = go (all is_blank rest) e
  where
    go : (t : Bool) → elim t [ true ↦ Blank | false ↦ Malformed ] ≡ Number v → Behind Blank rest v
    go true q = clash (cc)
    go false q = clash (cc)

fixed_read : (d : ℕ) (bs : List ℕ) (v : ℕ) → fixed_of (suc d) bs ≡ Number v → InFormat (suc d) bs v
unfolding fixed_of
fixed_read d bs v e =
    let p = length bs - suc (suc d) in
    let r = behind_read (whole_of (take p bs)) (drop p bs) v e in
    let w = whole_read (take p bs) r.worth r.first in
    let q = digits_read r.worth r.decimals v r.read in
    let front : length (take p bs) ≡ p = length-take-le p bs (omega arith) in
    let more : 1 ≤ p = omega (arith, w.some, ap length w.parts, length-append w.blanks w.digits) in
    let long : suc (length r.decimals) ≡ length bs - p = ap length (sym r.point) ∙ length-drop p bs in
    record {
      blanks = w.blanks;
      digits = w.digits;
      decimals = r.decimals;
      parts =
          sym (take-append-drop p bs) ∙ ap (λ (x : List ℕ). take p bs ++ x) r.point
          ∙ ap (λ (x : List ℕ). x ++ (46 ∷ r.decimals)) w.parts ∙ append_assoc w.blanks w.digits (46 ∷ r.decimals);
      all_blanks = w.all_blanks;
      some = w.some;
      all_digits = w.all_digits;
      exactly = omega arith;
      all_decimals = q.0;
      own = q.1 ∙ ap (λ (x : ℕ). behind_worth x r.decimals) w.own ∙ sym (decimal_append w.digits r.decimals);
    }

read_fixed : (d : ℕ) (bs : List ℕ) (v : ℕ) → InFormat (suc d) bs v → fixed_of (suc d) bs ≡ Number v
unfolding fixed_of decimals_behind
read_fixed d bs v f =
    let front = f.blanks ++ f.digits in
    let back : List ℕ = 46 ∷ f.decimals in
    let all : bs ≡ front ++ back = f.parts ∙ sym (append_assoc f.blanks f.digits back) in
    let p : length front ≡ length bs - suc (suc d) = omega (arith, ap length all, length-append front back, f.exactly) in
    let first : take (length bs - suc (suc d)) bs ≡ front = ap (take (length bs - suc (suc d))) all ∙ take_at front back _ p in
    let rest : drop (length bs - suc (suc d)) bs ≡ back = ap (drop (length bs - suc (suc d))) all ∙ drop_at front back _ p in
    rw (first, rest, read_whole f.blanks f.digits f.all_blanks f.some f.all_digits, decimals_behind)
    (read_digits_lem (decimal f.digits) f.decimals f.all_decimals ∙ ap Number (sym (decimal_append f.digits f.decimals) ∙ sym f.own))

nothing : (bs : List ℕ) → length bs ≡ 0 → bs ≡ []
nothing [] e = refl
nothing (b ∷ bs) e = absurd (omega arith)

pub in_format : (d : ℕ) (bs : List ℕ) (v : ℕ) → (field_of d bs ≡ Number v) ↔ InFormat d bs v
unfolding field_of
in_format zero bs v = (
  (λ e.
      let w = whole_read bs v e in
      record {
        blanks = w.blanks;
        digits = w.digits;
        decimals = [];
        parts = w.parts ∙ ap (λ (x : List ℕ). w.blanks ++ x) (sym (append-nil w.digits));
        all_blanks = w.all_blanks;
        some = w.some;
        all_digits = w.all_digits;
        exactly = refl;
        all_decimals = tt;
        own = w.own ∙ ap decimal (sym (append-nil w.digits));
      }),
  (λ f.
      let all : bs ≡ f.blanks ++ f.digits = f.parts ∙ ap (λ (x : List ℕ). f.blanks ++ x) (append-nil f.digits) in
      let own : v ≡ decimal f.digits =
      f.own ∙ ap (λ (x : List ℕ). decimal (f.digits ++ x)) (nothing f.decimals f.exactly) ∙ ap decimal (append-nil f.digits) in
      ap whole_of all ∙ read_whole f.blanks f.digits f.all_blanks f.some f.all_digits ∙ ap Number (sym own)),
)
in_format (suc d) bs v = (fixed_read d bs v, read_fixed d bs v)
