-- A file whose last byte is 10 ends with a line's end: no line runs past it.
use Rattle.std.specs.Prelude.{ℕ, zero, suc, ◌+◌, ◌<◌, ◌≡◌, refl, List, [], ◌∷◌, Bool, true, false, eqb, length, drop}
use Rattle.std.proofs.Common.{◌∙◌, arith, not-suc-le-zero, le_of_suc-le-suc, length-drop}
use Rattle.std.proofs.lemmas.Bool.{eqb-false}
use Rattle.lines.specs.Lines.{first_line, last}

-- the last byte of what is left, where something is left
pub last_drop : (n : ℕ) (bs : List ℕ) → n < length bs → last (drop n bs) ≡ last bs
unfolding last
last_drop zero bs h = refl
last_drop (suc n) [] h = absurd (not-suc-le-zero h)
last_drop (suc n) (b ∷ []) h = absurd (omega arith)
last_drop (suc n) (b ∷ c ∷ bs) h = last_drop n (c ∷ bs) (le_of_suc-le-suc h)

-- a first line is shorter than what ends with byte 10
pub line_shorter : (bs : List ℕ) → 0 < length bs → last bs ≡ 10 → length (first_line bs) < length bs
unfolding first_line last
line_shorter [] h e = absurd (not-suc-le-zero h)
line_shorter (b ∷ []) h e = go (eqb b 10) refl
  where
    go : (t : Bool) → eqb b 10 ≡ t → length {A = ℕ} (elim t [ true ↦ [] | false ↦ b ∷ first_line [] ]) < 1
    go true f = omega arith
    go false f = absurd (eqb-false b 10 f e)
line_shorter (b ∷ c ∷ bs) h e = go (eqb b 10) (line_shorter (c ∷ bs) (omega arith) e)
  where
    go : (t : Bool) → length (first_line (c ∷ bs)) < length (c ∷ bs) →
        length {A = ℕ} (elim t [ true ↦ [] | false ↦ b ∷ first_line (c ∷ bs) ]) < length (b ∷ c ∷ bs)
    go true k = omega arith
    go false k = omega arith

pub line_within : (file : List ℕ) (at : ℕ) → last file ≡ 10 → at < length file → at + length (first_line (drop at file)) < length file
line_within file at e h =
    let p : 0 < length (drop at file) = simp length-drop (omega arith) in
    omega (arith, line_shorter (drop at file) p (last_drop at file h ∙ e), length-drop at file)
