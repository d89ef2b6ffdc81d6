-- The first line of what is left of a file, byte by byte, and the faults of its shape.
use Prim.Native.Nat.{ℕ, zero, suc, ◌+◌, ◌≤◌, ◌<◌}
use mathlib.Core.Path.{◌≡◌, refl, sym, ap, ◌∙◌}
use mathlib.Core.List.{List, [], ◌∷◌}
use mathlib.Core.Bool.{Bool, true, false, ◌&&◌}
use native.Mathlib.Omega.{arith}
use native.Mathlib.Decide.{dec_lt}
use native.Mathlib.Numerals.{add-one}
use lib.Dec.{eqb}
use lib.ListN.{length, take, drop, get_or, length-take, drop_of_length-le, get_or-eq_default}
use lib.Seq.{drop-cons, length-take-le}
use borrow.Author.Tests.{eq-eqb, ne_eqb, eqb-true}
use Rattle.columns.specs.Bytes.{is_digit, is_printable, all, same}
use Rattle.columns.proofs.BytesLaws.{same_eq, all_head, all_tail}
use Rattle.columns.proofs.WrittenLaws.{digits_length, digits_all_digits}
use Rattle.layout.specs.Layout.{code_of, length_of, type_width, type_digits}
use Rattle.layout.specs.declared.RecordType.{RecordType}
use Rattle.lines.specs.Lines.{first_line}
use Rattle.lines.proofs.LineLaws.{first_take}
use Rattle.exact.specs.Faults.{unless}
use Rattle.lines.specs.LineFaults.{type_is, shape_fault}
use Rattle.lines.proofs.FaultLaws.{shape_length}
use Rattle.lines.specs.Beginning.{is_line}

module _ (l : List ℕ) (i : ℕ) (inside : i < length l) where
  pub line_stop : get_or l i 0 ≡ 10 → first_line (drop i l) ≡ []
  unfolding first_line
  line_stop e = rw (drop-cons l i 0 inside, eq-eqb (get_or l i 0) 10 e, first_line)

  pub line_one : (get_or l i 0 ≡ 10 → ⊥) → length (first_line (drop i l)) ≡ suc (length (first_line (drop (i + 1) l)))
  unfolding first_line
  line_one e = rw (add-one i, drop-cons l i 0 inside, ne_eqb (get_or l i 0) 10 e, first_line)

pub line_over : (l : List ℕ) (i : ℕ) → length l ≤ i → first_line (drop i l) ≡ []
unfolding first_line
line_over l i h = rw (drop_of_length-le l h)

-- digits are bytes of a line wherever they stand at its start, since byte 10 is none
same_line : (ds bs : List ℕ) → all is_digit ds ≡ true → same (take (length ds) (first_line bs)) ds ≡ same (take (length ds) bs) ds
unfolding first_line same
same_line [] bs h = refl
same_line (d ∷ ds) [] h = refl
same_line (d ∷ ds) (b ∷ bs) h = go (eqb b 10) refl (same_line ds bs (all_tail is_digit d ds h))
  where
    other : eqb b 10 ≡ true → eqb b d ≡ false
    other e = ne_eqb b d (λ f. go2 (sym f ∙ eqb-true b 10 e))
      where
        go2 : d ≡ 10 → ⊥
        go2 g = let z : is_digit 10 ≡ true = rw g at (all_head is_digit d ds h) in let y : ◌≡◌ {A = ℕ} 0 1 = cc in omega arith

    go : (t : Bool) → eqb b 10 ≡ t → same (take (length ds) (first_line bs)) ds ≡ same (take (length ds) bs) ds →
        same (take (suc (length ds)) (elim t [ true ↦ [] | false ↦ b ∷ first_line bs ])) (d ∷ ds)
        ≡ elim (eqb b d) [ true ↦ same (take (length ds) bs) ds | false ↦ false ]
    go true e k = rw (other e)
    go false e k = ap (λ (t : Bool). elim (eqb b d) [ true ↦ t | false ↦ false ]) k

pub type_bytes : (t : RecordType) (bs : List ℕ) → type_is t (first_line bs) ≡ same (take type_width bs) (type_digits t)
unfolding type_is
type_bytes t bs =
    let ds = type_digits t in
    ap (λ (n : ℕ). same (take n (first_line bs)) ds) (sym (digits_length type_width (code_of t)))
    ∙ same_line ds bs (digits_all_digits type_width (code_of t))
    ∙ ap (λ (n : ℕ). same (take n bs) ds) (digits_length type_width (code_of t))

pub type_short : (t : RecordType) (bs : List ℕ) → length bs < type_width → type_is t (first_line bs) ≡ false
type_short t bs h = type_bytes t bs ∙ go (same (take type_width bs) (type_digits t)) refl
  where
    go : (u : Bool) → same (take type_width bs) (type_digits t) ≡ u → u ≡ false
    go true e =
        let f = ap length ((same_eq (take type_width bs) (type_digits t)).0 e) in
        absurd (omega (arith, rw (digits_length type_width (code_of t)) at f, length-take type_width bs))
    go false e = refl

-- the faults of a shape, one by one
module _ (t : RecordType) (line : List ℕ) where
  pub fault_type : type_is t line ≡ false → shape_fault t line ≡ 2
  unfolding shape_fault
  fault_type e = rw e

  pub fault_length : type_is t line ≡ true → (length line ≡ length_of t → ⊥) → shape_fault t line ≡ 3
  unfolding shape_fault
  fault_length e n = rw (e, ne_eqb (length line) (length_of t) n)

  pub fault_bytes : type_is t line ≡ true → length line ≡ length_of t → (b : Bool) → all is_printable line ≡ b → shape_fault t line ≡ unless b 4
  unfolding shape_fault
  fault_bytes e n b p = rw (e, eq-eqb (length line) (length_of t) n, p)

-- what is left begins with a line of this type
module _ (t : RecordType) (bs : List ℕ) (fine : shape_fault t (first_line bs) ≡ 0) (long : ℕ) (e : long ≡ length_of t) where
  pub line_known : first_line bs ≡ take long bs
  line_known = first_take bs ∙ ap (λ (n : ℕ). take n bs) (shape_length t (first_line bs) fine ∙ sym e)

  pub line_length_lem : length (take long bs) ≡ length_of t
  line_length_lem = rw (← line_known) (shape_length t (first_line bs) fine)

  pub line_fine : shape_fault t (take long bs) ≡ 0
  line_fine = rw (← line_known) fine

-- printable bytes with byte 10 behind them are a line
alone : (long : ℕ) (bs : List ℕ) → get_or bs long 0 ≡ 10 → all is_printable (take long bs) ≡ true → first_line bs ≡ take long bs
unfolding first_line
alone zero [] e h = refl
alone zero (b ∷ bs) e h = rw (eq-eqb b 10 e, first_line)
alone (suc long) [] e h = refl
alone (suc long) (b ∷ bs) e h =
    rw (ne_eqb b 10 (other (all_head is_printable b (take long bs) h)), first_line)
    (ap (λ (l : List ℕ). b ∷ l) (alone long bs e (all_tail is_printable b (take long bs) h)))
  where
    other : is_printable b ≡ true → b ≡ 10 → ⊥
    other p g = let z : is_printable 10 ≡ true = rw g at p in let y : ◌≡◌ {A = ℕ} 0 1 = cc in omega arith

module _ (long : ℕ) (bs : List ℕ) where
  parts : is_line long bs ≡ true → (get_or bs long 0 ≡ 10) × (all is_printable (take long bs) ≡ true)
  unfolding is_line
  parts = go (eqb (get_or bs long 0) 10) refl
    where
      go : (t : Bool) → eqb (get_or bs long 0) 10 ≡ t → t && all is_printable (take long bs) ≡ true →
          (get_or bs long 0 ≡ 10) × (all is_printable (take long bs) ≡ true)
      go true e h = (eqb-true (get_or bs long 0) 10 e, h)
      go false e h = let z : ◌≡◌ {A = ℕ} 0 1 = cc in absurd (omega arith)

  inside : get_or bs long 0 ≡ 10 → long < length bs
  inside e = go (dec_lt long (length bs))
    where
      go : Dec (long < length bs) → long < length bs
      go (yes h) = h
      go (no h) = let k : length bs ≤ long = omega arith in absurd (omega (arith, get_or-eq_default bs 0 k))

  pub line_alone : is_line long bs ≡ true → (t : RecordType) → type_is t (first_line bs) ≡ true → long ≡ length_of t → shape_fault t (first_line bs) ≡ 0
  line_alone h t e g =
      let p = parts h in
      let l = alone long bs p.0 p.1 in
      let m : long ≤ length bs = omega (arith, inside p.0) in
      fault_bytes t (first_line bs) e (rw l (length-take-le long bs m) ∙ g) true (rw l p.1)
