-- What fits a picture: printable bytes, the bytes that it has of itself, and numbers in their fields.
use Rattle.std.specs.Prelude.{◌≡◌, ℕ, zero, suc, ◌+◌, ◌-◌, ◌<◌, ◌≤◌, Bool, true, false, ◌&&◌, ◌||◌, eqb, ◌↔◌, List, [], ◌∷◌, length, take, drop, ◌==◌, ◌≢◌, nat_le, slice_index, slice_index_or}
use Rattle.std.proofs.Math.Path.{refl, ap}
use Rattle.std.proofs.Common.{sym, ◌∙◌, ⊎_elim, arith, eqb-true, leb-true, ne_eqb, add-zero, zero-add, suc-add, add-one, get_or-drop, length-take-le, ext_get_or}
use Rattle.std.proofs.Math.ListN.{length-drop}
use Rattle.std.proofs.lemmas.Bool.{eqb-false}
use Rattle.exact.specs.Logic.{both, either}
use Rattle.columns.specs.Bytes.{is_blank, is_digit, is_printable, all}
use Rattle.columns.specs.Number.{digits_from, whole_of, decimals_behind, fixed_of, field_of, fewest_columns}
use Rattle.columns.proofs.ColumnsLaws.{columns_length, columns_byte}
use Rattle.std.proofs.Math.Seq.{get_or-take, drop-cons}
use Rattle.columns.specs.Columns.{columns}
use Rattle.columns.specs.Picture.{goes_on, passes, is_plain, blanks, nines, field_picture, Fits, fits_test}
use Rattle.columns.proofs.EachLaws.{digits_say}
use Rattle.columns.proofs.FormatLaws.{read_digits_lem}
use Rattle.columns.proofs.BytesLaws.{all_cons, all_from, all_byte, digit_printable}
use Rattle.columns.specs.declared.Field.TheVariants.{Number}

-- the ways in which a byte passes
data Way (p b next : ℕ) : Type 0 where
  itself : b ≡ p → Way p b next
  digit : is_digit b ≡ true → p ≡ 57 → Way p b next
  leading : is_digit b ≡ true → p ≡ 32 → goes_on next ≡ true → Way p b next
  any : p ≡ 126 → is_printable b ≡ true → Way p b next

way : (p b next : ℕ) → passes p b next ≡ true → Way p b next
unfolding passes
way p b next h = ⊎_elim (λ e. ⊎_elim (λ f. itself (eqb-true b p f)) number (either (b == p) _ e)) other (either _ (p == 126 && is_printable b) h)
  where
    front : is_digit b ≡ true → (p == 32) && goes_on next ≡ true → Way p b next
    front d e = let w = both (p == 32) _ e in leading d (eqb-true p 32 w.0) w.1

    number : is_digit b && (p == 57 || (p == 32 && goes_on next)) ≡ true → Way p b next
    number e = let d = both (is_digit b) _ e in ⊎_elim (λ f. digit d.0 (eqb-true p 57 f)) (front d.0) (either (p == 57) _ d.1)

    other : eqb p 126 && is_printable b ≡ true → Way p b next
    other e = let w = both (p == 126) _ e in any (eqb-true p 126 w.0) w.1

-- what passes a printable byte is printable
passes_printable : (p b next : ℕ) → is_printable p ≡ true → passes p b next ≡ true → is_printable b ≡ true
passes_printable p b next h k = go (way p b next k)
  where
    go : Way p b next → is_printable b ≡ true
    go (itself e) = rw e h
    go (digit d e) = digit_printable b d
    go (leading d e n) = digit_printable b d
    go (any e w) = w

pub fits_printable : (picture line : List ℕ) → all is_printable picture ≡ true → length picture ≤ length line → Fits picture line →
    all is_printable (take (length picture) line) ≡ true
fits_printable picture line h k f =
    let n = length picture in
    let e : length (take n line) ≡ n = length-take-le n line k in
    all_from is_printable (take n line)
    (λ i l.
    let m : i < n = omega arith in
    rw (get_or-take n line i 0 m) (passes_printable _ _ _ (all_byte is_printable picture h i m) (f.column i (omega arith) m)))

-- the test tells
pub test_fits : (picture line : List ℕ) → length picture ≤ length line → (fits_test picture line ≡ true) ↔ Fits picture line
unfolding fits_test
test_fits [] line h = ((λ e. record { column = λ i k l. absurd (omega arith) }), λ f. refl)
test_fits (p ∷ ps) [] h = absurd (omega arith)
test_fits (p ∷ ps) (b ∷ bs) h =
    let ih = test_fits ps bs (omega arith) in (
      (λ e. let w = both _ _ e in record { column = λ i k l. told w.0 (ih.0 w.1) i l }),
      (λ f. rw (f.column 0 (omega arith) (omega arith), ih.1 (later f))),
    )
  where
    told : passes p b (slice_index bs 0) ≡ true → Fits ps bs → (i : ℕ) → i < suc (length ps) →
        passes (slice_index (p ∷ ps) i) (slice_index (b ∷ bs) i) (slice_index (b ∷ bs) (i + 1)) ≡ true
    told first rest zero l = first
    told first rest (suc i) l = rw (add-one (suc i)) (rw (add-one i) at (rest.column i (omega arith) (omega arith)))

    later : Fits (p ∷ ps) (b ∷ bs) → Fits ps bs
    later f = record { column = λ i k l. rw (add-one i) (rw (add-one (suc i)) at (f.column (suc i) (omega arith) (omega arith))) }

-- bytes that stand for themselves

passes_plain : (p b next : ℕ) → is_plain p ≡ true → passes p b next ≡ true → b ≡ p
passes_plain p b next h k = go (way p b next k)
  where
    w : (nat_le 33 p ≡ true) × (nat_le p 56 ≡ true)
    w = both (nat_le 33 p) _ h

    go : Way p b next → b ≡ p
    go (itself e) = e
    go (digit d e) = absurd (omega (arith, leb-true p 56 w.1))
    go (leading d e n) = absurd (omega (arith, leb-true 33 p w.0))
    go (any e m) = absurd (omega (arith, leb-true p 56 w.1))

pub fits_plain : (n : ℕ) (picture line : List ℕ) → n ≤ length picture → n ≤ length line → all is_plain (take n picture) ≡ true → Fits picture line →
    take n line ≡ take n picture
fits_plain n picture line h k p f =
    let long : length (take n line) ≡ n = length-take-le n line k in
    let wide : length (take n picture) ≡ n = length-take-le n picture h in
    ext_get_or 0 (take n line) (take n picture) (long ∙ sym wide)
    (λ i l.
    let m : i < n = omega arith in
    let q : is_plain (slice_index picture i) ≡ true = rw (get_or-take n picture i 0 m) at (all_byte is_plain (take n picture) p i (omega arith)) in
    rw (get_or-take n line i 0 m, get_or-take n picture i 0 m) (passes_plain _ _ _ q (f.column i (omega arith) (omega arith))))

-- a digit and the point
passes_digit : (b next : ℕ) → passes 57 b next ≡ true → is_digit b ≡ true
passes_digit b next k = go (way 57 b next k)
  where
    go : Way 57 b next → is_digit b ≡ true
    go (itself e) = rw e
    go (digit d e) = d
    go (leading d e n) = d
    go (any e w) = absurd (omega arith)

passes_point : (b next : ℕ) → passes 46 b next ≡ true → b ≡ 46
passes_point b next k = passes_plain 46 b next refl k

-- in front of the last digit: a blank, or a digit with none behind it
passes_leading : (b next : ℕ) → (b ≢ 32) → passes 32 b next ≡ true → (is_digit b ≡ true) × (48 ≤ next)
passes_leading b next other k = go (way 32 b next k)
  where
    go : Way 32 b next → (is_digit b ≡ true) × (48 ≤ next)
    go (itself e) = absurd (other e)
    go (digit d e) = absurd (omega arith)
    go (leading d e n) = (d, leb-true 48 next n)
    go (any e w) = absurd (omega arith)

digit_least : (b : ℕ) → is_digit b ≡ true → 48 ≤ b
digit_least b h = leb-true 48 b (both (nat_le 48 b) _ h).0

-- digits are a number
digits_number : (before : ℕ) (bs : List ℕ) → all is_digit bs ≡ true → (k : ℕ) × (digits_from before bs ≡ Number k)
digits_number before bs h = (_, read_digits_lem before bs (digits_say bs h))

-- n columns in front of the last one
module _ where
  abbrev Leads : ℕ → List ℕ → Type 0
  Leads n bs = (i : ℕ) → i < n → passes 32 (slice_index bs i) (slice_index bs (i + 1)) ≡ true

  shift : (n b : ℕ) (bs : List ℕ) → Leads (suc n) (b ∷ bs) → Leads n bs
  shift n b bs h i k = rw (add-one i) (rw (add-one (suc i)) at (h (suc i) (omega arith)))

  leads_digits : (n : ℕ) (bs : List ℕ) → length bs ≡ suc n → Leads n bs → is_digit (slice_index bs n) ≡ true → is_digit (slice_index bs 0) ≡ true →
      all is_digit bs ≡ true
  unfolding all
  leads_digits zero [] l h e d = absurd (omega arith)
  leads_digits zero (b ∷ []) l h e d = all_cons is_digit b [] e refl
  leads_digits zero (b ∷ c ∷ bs) l h e d = absurd (omega arith)
  leads_digits (suc n) [] l h e d = absurd (omega arith)
  leads_digits (suc n) (b ∷ []) l h e d = absurd (omega arith)
  leads_digits (suc n) (b ∷ c ∷ bs) l h e d =
      let w = passes_leading b c (λ f. omega (arith, digit_least b d)) (h 0 (omega arith)) in
      all_cons is_digit b (c ∷ bs) d (leads_digits n (c ∷ bs) (omega arith) (shift n b (c ∷ bs) h) e (next n w.1 (shift n b (c ∷ bs) h) e))
    where
      next : (m : ℕ) → 48 ≤ c → Leads m (c ∷ bs) → is_digit (slice_index (c ∷ bs) m) ≡ true → is_digit c ≡ true
      next zero k q e = e
      next (suc m) k q e = (passes_leading c (slice_index bs 0) (λ f. omega arith) (q 0 (omega arith))).0

  leads_number : (n : ℕ) (bs : List ℕ) → length bs ≡ suc n → Leads n bs → is_digit (slice_index bs n) ≡ true → (k : ℕ) × (whole_of bs ≡ Number k)
  unfolding whole_of
  leads_number n [] l h e = absurd (omega arith)
  leads_number zero (b ∷ bs) l h e =
      let r = digits_number 0 (b ∷ bs) (leads_digits zero (b ∷ bs) l h e e) in
      (r.0, rw (ne_eqb b 32 (λ f. omega (arith, digit_least b e)), whole_of) r.1)
  leads_number (suc n) (b ∷ bs) l h e = go (leads_number n bs (omega arith) (shift n b bs h) e) (is_blank b) refl
    where
      go : (k : ℕ) × (whole_of bs ≡ Number k) → (t : Bool) → is_blank b ≡ t →
          (k : ℕ) × (elim t [ true ↦ whole_of bs | false ↦ digits_from 0 (b ∷ bs) ] ≡ Number k)
      go ih true f = ih
      go ih false f =
          let w = passes_leading b (slice_index bs 0) (eqb-false b 32 f) (h 0 (omega arith)) in
          digits_number 0 (b ∷ bs) (leads_digits (suc n) (b ∷ bs) l h e w.0)

-- the bytes of a field's picture

blanks_front : (n i : ℕ) (ps : List ℕ) → i < n → slice_index (blanks n ps) i ≡ 32
unfolding blanks
blanks_front zero i ps h = absurd (omega arith)
blanks_front (suc n) zero ps h = refl
blanks_front (suc n) (suc i) ps h = blanks_front n i ps (omega arith)

blanks_behind : (n j : ℕ) (ps : List ℕ) → slice_index (blanks n ps) (n + j) ≡ slice_index ps j
unfolding blanks
blanks_behind zero j ps = rw (zero-add j)
blanks_behind (suc n) j ps = rw (suc-add n j) (blanks_behind n j ps)

nines_at : (n j : ℕ) → j < n → slice_index (nines n) j ≡ 57
unfolding nines
nines_at zero j h = absurd (omega arith)
nines_at (suc n) zero h = refl
nines_at (suc n) (suc j) h = nines_at n j (omega arith)

fixed_is : (d : ℕ) (field : List ℕ) {ds : List ℕ} {r : ℕ} (k : ℕ) → whole_of (take (length field - suc (suc d)) field) ≡ Number k →
    drop (length field - suc (suc d)) field ≡ 46 ∷ ds → digits_from k ds ≡ Number r → fixed_of (suc d) field ≡ Number r
unfolding fixed_of decimals_behind
fixed_is d field k a b c = rw (a, b) c

-- a field of a line that fits a picture in which the field has its own
module _ (start width : ℕ) (picture line : List ℕ) (there : start - 1 + width ≤ length picture) (long : length picture ≤ length line)
    (f : Fits picture line) where
  abbrev field : List ℕ
  field = columns start width line

  wide : length field ≡ width
  wide = columns_length start width line (omega arith)

  -- one of its columns, and what stands behind it
  module _ (ps : List ℕ) (e : columns start width picture ≡ ps) (j : ℕ) (h : j < width) where
    here : passes (slice_index ps j) (slice_index field j) (slice_index line (start - 1 + j + 1)) ≡ true
    here =
        let m : start - 1 + j < length picture = omega arith in
        let p : slice_index_or picture (start - 1 + j) 0 ≡ slice_index_or ps j 0 = columns_byte start width picture j h ∙ ap (λ (l : List ℕ). slice_index l j) e in
        rw (p, columns_byte start width line j h) at (f.column (start - 1 + j) (omega arith) m)

    behind : j + 1 < width → passes (slice_index ps j) (slice_index field j) (slice_index field (j + 1)) ≡ true
    behind k =
        let m : start - 1 + j + 1 ≡ start - 1 + (j + 1) = omega arith in
        rw (m, columns_byte start width line (j + 1) k) at here

    -- a blank, a digit or the point
    leads_at : slice_index_or ps j 0 ≡ 32 → j + 1 < width → passes 32 (slice_index field j) (slice_index field (j + 1)) ≡ true
    leads_at p k = rw p at (behind k)

    digit_at : slice_index_or ps j 0 ≡ 57 → is_digit (slice_index field j) ≡ true
    digit_at p = passes_digit _ _ (rw p at here)

    point_at : slice_index_or ps j 0 ≡ 46 → slice_index field j ≡ 46
    point_at p = passes_point _ _ (rw p at here)

  whole_number_lem : 1 ≤ width → columns start width picture ≡ field_picture width 0 → (k : ℕ) × (field_of 0 field ≡ Number k)
  unfolding field_of field_picture
  whole_number_lem room e =
      let n = width - 1 in
      let z : slice_index_or (blanks n (57 ∷ [])) n 0 ≡ 57 = rw (add-zero n) at (blanks_behind n 0 (57 ∷ [])) in
      leads_number n field (omega (arith, wide))
      (λ i h. leads_at _ e i (omega arith) (blanks_front n i (57 ∷ []) h) (omega arith))
      (digit_at _ e n (omega arith) z)

  fixed_number : (d : ℕ) → suc d + 2 ≤ width → columns start width picture ≡ field_picture width (suc d) → (k : ℕ) × (fixed_of (suc d) field ≡ Number k)
  unfolding field_picture
  fixed_number d room e =
      let n = width - (suc d + 2) in
      let ps : List ℕ = 57 ∷ 46 ∷ nines (suc d) in
      let point = length field - suc (suc d) in
      let q : point ≡ suc n = omega (arith, wide) in
      let whole = leads_number n (take point field) (length-take-le point field (omega arith) ∙ q)
      (λ i h. rw (get_or-take point field i 0 (omega arith), get_or-take point field (i + 1) 0 (omega arith))
      (leads_at _ e i (omega arith) (blanks_front n i ps h) (omega arith)))
      (rw (get_or-take point field n 0 (omega arith)) (digit_at _ e n (omega arith) (rw (add-zero n) at (blanks_behind n 0 ps)))) in
      let o : n + 1 ≡ point = omega (arith, wide) in
      let dot : slice_index_or field point 0 ≡ 46 = point_at _ e point (omega (arith, wide)) (rw o at (blanks_behind n 1 ps)) in
      let long : length (drop (suc point) field) ≡ suc d = length-drop (suc point) field ∙ omega (arith, wide) in
      let digits : all is_digit (drop (suc point) field) ≡ true =
      all_from is_digit (drop (suc point) field)
      (λ i h.
      let w : n + suc (suc i) ≡ suc point + i = omega (arith, wide) in
      rw (get_or-drop (suc point) field i 0)
      (digit_at _ e (suc point + i) (omega (arith, wide)) (rw w at (blanks_behind n (suc (suc i)) ps) ∙ nines_at (suc d) i (omega arith)))) in
      let behind = digits_number whole.0 (drop (suc point) field) digits in
      let rest : drop point field ≡ 46 ∷ drop (suc point) field =
      drop-cons field point 0 (omega (arith, wide)) ∙ ap (λ (b : ℕ). b ∷ drop (suc point) field) dot in
      (behind.0, fixed_is d field {r = behind.0} whole.0 whole.1 rest behind.1)

  pub field_number : (d : ℕ) → fewest_columns d ≤ width → columns start width picture ≡ field_picture width d → (k : ℕ) × (field_of d field ≡ Number k)
  unfolding field_of
  field_number zero room e = whole_number_lem room e
  field_number (suc d) room e = fixed_number d room e
