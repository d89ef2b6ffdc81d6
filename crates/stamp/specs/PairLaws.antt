-- A stamp read as four pairs of columns, YY, MM, DD and HH.
use Rattle.std.specs.Prelude.{◌≡◌, ℕ, suc, ◌+◌, ◌-◌, ◌*◌, ◌/◌, ◌%◌, ◌^◌, ◌<◌, ◌≤◌, Bool, true, false, cond, List, [], ◌∷◌, length, take, drop, ◌==◌, nat_lt, slice_index, slice_index_or, refl, None}
use Rattle.std.proofs.Common.{sym, ap, ◌∙◌, mod-eq_of_lt, drop-cons}
use native.Mathlib.Omega.{arith}
use Rattle.std.proofs.Math.Decide.{dec_lt}
use Rattle.std.proofs.Math.Nat.{mod-eq-sub-mod}
use Rattle.std.proofs.Math.ListN.{length-drop}
use Rattle.std.proofs.Math.Seq.{drop-drop}
use borrow.Author.Tests.{ne_eqb, le-leb, lt-leb, lt-ltb, le-ltb}
use Rattle.exact.specs.Logic.{clash}
use Rattle.columns.specs.Bytes.{is_digit}
use Rattle.columns.specs.Columns.{Inside, columns}
use Rattle.columns.specs.Number.{digits_from, digits_only}
use Rattle.columns.specs.declared.Field.{Field}
use Rattle.columns.specs.declared.Field.TheVariants.{Malformed, Number}
use Rattle.layout.specs.Layout.{date_width}
use Rattle.calendar.specs.Calendar.{IsQuarter, quarter_hour, LiesIn}
use Rattle.calendar.specs.MonthLaws.{days_in_month_lem}
use Rattle.calendar.specs.CalendarLaws.{outside}
use Rattle.calendar.specs.Calendar.{QuarterHour}
use Rattle.stamp.specs.Stamp.{number_hour, field_hour, stamp_hour}
use Rattle.stamp.specs.Pairs.{pair_width, pair_field}

-- one pair: its bytes, units that are no digit, and tens of any kind before units that are a digit
pair_bytes :
    (start : ℕ) (line : List ℕ) → Inside start pair_width line →
    columns start pair_width line ≡ slice_index line (start - 1) ∷ slice_index line start ∷ []
unfolding columns
pair_bytes start line h =
    let e : suc (start - 1) ≡ start = omega arith in
    let t : drop (suc (start - 1)) line ≡ slice_index line start ∷ drop (suc start) line = rw e (drop-cons line start 0 (omega arith)) in
    ap (take 2) (drop-cons line (start - 1) 0 (omega arith) ∙ ap (λ (r : List ℕ). slice_index line (start - 1) ∷ r) t)

digit : (b : ℕ) → 48 ≤ b → b ≤ 57 → is_digit b ≡ true
digit b h k = rw (le-leb 48 b h) (le-leb b 57 k)

low : (b : ℕ) → b < 48 → is_digit b ≡ false
low b h = rw (lt-leb 48 b h)

high : (b : ℕ) → 57 < b → is_digit b ≡ false
high b h = rw (le-leb 48 b (omega arith)) (lt-leb b 57 h)

no_units : (a b : ℕ) → is_digit b ≡ false → Malformed ≡ digits_only (a ∷ b ∷ [])
unfolding digits_from
no_units a b e = go (is_digit a) refl
  where
    go : (t : Bool) → is_digit a ≡ t → Malformed ≡ digits_only (a ∷ b ∷ [])
    go true f = rw (f, digits_from, e, digits_from)
    go false f = rw (f, digits_from)

module _ (a b k : ℕ) (read : (k + 528) % 2 ^ 64 ≡ 10 * a + b) where
  -- the difference wrapped round, or it did not
  wrapped : 10 * a + b < 528 → 100 ≤ k
  wrapped h = go (dec_lt k 100)
    where
      go : Dec (k < 100) → 100 ≤ k
      go (yes l) =
          let e : (k + 528) % 2 ^ 64 ≡ k + 528 = mod-eq_of_lt (omega arith) in
          absurd (omega arith)
      go (no l) = omega arith

  whole : k < 2 ^ 64 → 528 ≤ 10 * a + b → k + 528 ≡ 10 * a + b
  whole w h = go (dec_lt (k + 528) (2 ^ 64))
    where
      go : Dec (k + 528 < 2 ^ 64) → k + 528 ≡ 10 * a + b
      go (yes l) = sym (mod-eq_of_lt l) ∙ read
      go (no l) =
          let e : (k + 528) % 2 ^ 64 ≡ k + 528 - 2 ^ 64 = mod-eq-sub-mod (omega arith) ∙ mod-eq_of_lt (omega arith) in
          absurd (omega arith)

  units : 48 ≤ b → b ≤ 57 → k < 2 ^ 64 → pair_field k ≡ digits_only (a ∷ b ∷ [])
  unfolding digits_from
  units l m w = go (dec_lt a 48) (dec_lt 57 a)
    where
      go : Dec (a < 48) → Dec (57 < a) → pair_field k ≡ digits_only (a ∷ b ∷ [])
      go (yes s) t = rw (low a s, digits_from, le-ltb k 100 (wrapped (omega arith)))
      go (no s) (yes t) = rw (high a t, digits_from, le-ltb k 100 (omega (arith, whole w (omega arith))))
      go (no s) (no t) =
          let v : k ≡ (0 * 10 + (a - 48)) * 10 + (b - 48) = omega (arith, whole w (omega arith)) in
          rw (digit a (omega arith) (omega arith), digits_from, digit b l m, digits_from, ← v, lt-ltb k 100 (omega arith))

module _ (start : ℕ) (line : List ℕ) (inside : Inside start pair_width line) where
  pub low_units : slice_index_or line start 0 < 48 → pair_field 100 ≡ digits_only (columns start pair_width line)
  low_units h = rw (pair_bytes start line inside) (no_units _ _ (low (slice_index line start) h))

  pub high_units : 57 < slice_index line start → pair_field 100 ≡ digits_only (columns start pair_width line)
  high_units h = rw (pair_bytes start line inside) (no_units _ _ (high (slice_index line start) h))

  pub digit_units :
      (k : ℕ) → 48 ≤ slice_index line start → slice_index line start ≤ 57 → k < 2 ^ 64 →
      (k + 528) % 2 ^ 64 ≡ 10 * slice_index line (start - 1) + slice_index line start → pair_field k ≡ digits_only (columns start pair_width line)
  digit_units k l m w e = rw (pair_bytes start line inside) (units _ _ k e l m w)

-- digits are read pair by pair
by_pair :
    (n before k : ℕ) (l : List ℕ) → suc (suc n) ≤ length l → pair_field k ≡ digits_only (take 2 l) →
    digits_from before (take (suc (suc n)) l) ≡ cond (nat_lt k 100) (digits_from (before * 100 + k) (take n (drop 2 l))) Malformed
unfolding digits_from
by_pair n before k [] h p = absurd (omega arith)
by_pair n before k (x ∷ []) h p = absurd (omega arith)
by_pair n before k (x ∷ y ∷ l) h p = go (nat_lt k 100) (is_digit x) (is_digit y) p
  where
    go :
        (u s t : Bool) →
        cond u (Number k) Malformed
        ≡ elim s [ true ↦ elim t [ true ↦ Number ((0 * 10 + (x - 48)) * 10 + (y - 48)) | false ↦ Malformed ] | false ↦ Malformed ] →
        elim s [ true ↦ elim t [ true ↦ digits_from ((before * 10 + (x - 48)) * 10 + (y - 48)) (take n l) | false ↦ Malformed ] | false ↦ Malformed ]
        ≡ cond u (digits_from (before * 100 + k) (take n l)) Malformed
    go true true true e =
        let v : k ≡ (0 * 10 + (x - 48)) * 10 + (y - 48) = cc in
        ap (λ (m : ℕ). digits_from m (take n l)) (omega arith)
    go false true true e = clash (cc)
    go true true false e = clash (cc)
    go false true false e = refl
    go true false t e = clash (cc)
    go false false t e = refl

-- what four pairs hold, and the hour that they name
abbrev four_pairs : ℕ → ℕ → ℕ → ℕ → Field
four_pairs yy mm dd hh =
    let v = (((0 * 100 + yy) * 100 + mm) * 100 + dd) * 100 + hh in
    cond (nat_lt yy 100) (cond (nat_lt mm 100) (cond (nat_lt dd 100) (cond (nat_lt hh 100) (Number v) Malformed) Malformed) Malformed) Malformed

abbrev pub pairs_hour : ℕ → ℕ → ℕ → ℕ → ℕ → ℕ → QuarterHour
pairs_hour year quarter yy mm dd hh = cond (yy == year % 100) (quarter_hour year quarter (record { month = mm; day = dd; hour = hh })) None

module _ (year quarter : ℕ) (q : IsQuarter quarter) where
  no_hour_lem :
      (yy mm dd hh : ℕ) → (LiesIn year quarter (record { month = mm; day = dd; hour = hh }) → ⊥) →
      None ≡ pairs_hour year quarter yy mm dd hh
  no_hour_lem yy mm dd hh n = go (yy == year % 100)
    where
      go : (t : Bool) → None ≡ cond t (quarter_hour year quarter (record { month = mm; day = dd; hour = hh })) None
      go true = sym (outside year quarter (record { month = mm; day = dd; hour = hh }) n)
      go false = refl

  four_pairs_hour : (yy mm dd hh : ℕ) → field_hour year quarter (four_pairs yy mm dd hh) ≡ pairs_hour year quarter yy mm dd hh
  unfolding field_hour number_hour
  four_pairs_hour yy mm dd hh = go (dec_lt yy 100) (dec_lt mm 100) (dec_lt dd 100) (dec_lt hh 100)
    where
      go :
          Dec (yy < 100) → Dec (mm < 100) → Dec (dd < 100) → Dec (hh < 100) →
          field_hour year quarter (four_pairs yy mm dd hh) ≡ pairs_hour year quarter yy mm dd hh
      go (no y) m d h = rw (le-ltb yy 100 (omega arith), ne_eqb yy (year % 100) (λ e. omega arith))
      go (yes y) (no m) d h = rw (lt-ltb yy 100 y, le-ltb mm 100 (omega arith)) (no_hour_lem yy mm dd hh (λ l. omega arith))
      go (yes y) (yes m) (no d) h =
          rw (lt-ltb yy 100 y, lt-ltb mm 100 m, le-ltb dd 100 (omega arith)) (no_hour_lem yy mm dd hh (λ l. omega (arith, days_in_month_lem year mm)))
      go (yes y) (yes m) (yes d) (no h) =
          rw (lt-ltb yy 100 y, lt-ltb mm 100 m, lt-ltb dd 100 d, le-ltb hh 100 (omega arith)) (no_hour_lem yy mm dd hh (λ l. omega arith))
      go (yes y) (yes m) (yes d) (yes h) =
          let v = (((0 * 100 + yy) * 100 + mm) * 100 + dd) * 100 + hh in
          let year_of_lem : v / 1_000_000 ≡ yy = omega arith in
          let month_of : v / 10_000 % 100 ≡ mm = omega arith in
          let day_of : v / 100 % 100 ≡ dd = omega arith in
          let hour_of_lem : v % 100 ≡ hh = omega arith in
          rw (lt-ltb yy 100 y, lt-ltb mm 100 m, lt-ltb dd 100 d, lt-ltb hh 100 h, year_of_lem, month_of, day_of, hour_of_lem)

module _ (line : List ℕ) where
  -- a number was read in the two columns from `start` on
  abbrev pub Read : ℕ → ℕ → Type 0
  Read start k = pair_field k ≡ digits_only (columns start pair_width line)

  columns_by_pair :
      (n before start k : ℕ) → Inside start (suc (suc n)) line → Read start k →
      digits_from before (columns start (suc (suc n)) line)
      ≡ cond (nat_lt k 100) (digits_from (before * 100 + k) (columns (start + 2) n line)) Malformed
  unfolding columns
  columns_by_pair n before start k h p =
      let e : start - 1 + 2 ≡ start + 2 - 1 = omega arith in
      rw (← e, ← drop-drop 2 (start - 1) line)
      (by_pair n before k (drop (start - 1) line) (rw length-drop (omega arith)) p)

  -- the hour that the columns of a stamp name, by its pairs
  pub stamp_by_pairs :
      (year quarter : ℕ) → IsQuarter quarter → (start : ℕ) → Inside start date_width line →
      (yy mm dd hh : ℕ) → Read start yy → Read (start + 2) mm → Read (start + 2 + 2) dd → Read (start + 2 + 2 + 2) hh →
      stamp_hour year quarter (columns start date_width line) ≡ pairs_hour year quarter yy mm dd hh
  unfolding stamp_hour digits_from columns
  stamp_by_pairs year quarter q start h yy mm dd hh y m d o =
      rw (
        columns_by_pair 6 0 start yy (omega arith) y,
        columns_by_pair 4 _ (start + 2) mm (omega arith) m,
        columns_by_pair 2 _ (start + 2 + 2) dd (omega arith) d,
        columns_by_pair 0 _ (start + 2 + 2 + 2) hh (omega arith) o,
      )
      (four_pairs_hour year quarter q yy mm dd hh)
