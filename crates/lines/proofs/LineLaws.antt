-- The lines of a file from any place on: the first of them is what stands before the next byte 10, and the others follow it.
use Rattle.std.specs.Prelude.{ℕ, suc, ◌+◌, ◌≤◌, ◌<◌, ◌≡◌, refl, List, [], ◌∷◌, Bool, true, false, eqb, length, take, drop}
use Rattle.std.proofs.Common.{ap, ◌∙◌, arith, add-one, length-take, length-drop, drop-drop}
use Rattle.lines.specs.Lines.{first_line, onto, lines}

pub first_take : (bs : List ℕ) → first_line bs ≡ take (length (first_line bs)) bs
unfolding first_line
first_take [] = refl
first_take (b ∷ bs) = go (eqb b 10) (first_take bs)
  where
    go : (t : Bool) → first_line bs ≡ take (length (first_line bs)) bs →
        elim t [ true ↦ [] | false ↦ b ∷ first_line bs ] ≡ take (length {A = ℕ} (elim t [ true ↦ [] | false ↦ b ∷ first_line bs ])) (b ∷ bs)
    go true e = refl
    go false e = ap (λ (l : List ℕ). b ∷ l) e

lines_cons : (bs : List ℕ) → 0 < length bs → lines bs ≡ first_line bs ∷ lines (drop (suc (length (first_line bs))) bs)
unfolding lines first_line onto
lines_cons [] h = absurd (omega arith)
lines_cons (b ∷ []) h = go (eqb b 10)
  where
    go : (t : Bool) → elim t [ true ↦ [] ∷ lines [] | false ↦ onto b (lines []) ]
        ≡ elim t [ true ↦ [] | false ↦ b ∷ first_line [] ] ∷ lines (drop (suc (length {A = ℕ} (elim t [ true ↦ [] | false ↦ b ∷ first_line [] ]))) (b ∷ []))
    go true = refl
    go false = refl
lines_cons (b ∷ c ∷ bs) h = go (eqb b 10) (lines_cons (c ∷ bs) (omega arith))
  where
    go : (t : Bool) → lines (c ∷ bs) ≡ first_line (c ∷ bs) ∷ lines (drop (suc (length (first_line (c ∷ bs)))) (c ∷ bs)) →
        elim t [ true ↦ [] ∷ lines (c ∷ bs) | false ↦ onto b (lines (c ∷ bs)) ]
        ≡ elim t [ true ↦ [] | false ↦ b ∷ first_line (c ∷ bs) ]
        ∷ lines (drop (suc (length {A = ℕ} (elim t [ true ↦ [] | false ↦ b ∷ first_line (c ∷ bs) ]))) (b ∷ c ∷ bs))
    go true e = refl
    go false e = ap (onto b) e

-- of the lines from `at` on
pub lines_at_lem : (file : List ℕ) (at : ℕ) → at < length file →
    lines (drop at file) ≡ first_line (drop at file) ∷ lines (drop (at + (length (first_line (drop at file)) + 1)) file)
lines_at_lem file at h =
    let p : 0 < length (drop at file) = simp length-drop (omega arith) in
    lines_cons (drop at file) p
    ∙ ap (λ (l : List ℕ). first_line (drop at file) ∷ lines l) (rw (add-one) (drop-drop (suc (length (first_line (drop at file)))) at file))

-- a first line of known length is that many bytes, and the others follow byte 10
pub line_at : (file : List ℕ) (at long : ℕ) → length (first_line (drop at file)) ≡ long → first_line (drop at file) ≡ take long (drop at file)
line_at file at long e = first_take (drop at file) ∙ ap (λ (n : ℕ). take n (drop at file)) e

-- a first line is part of what is left
pub line_part : (bs : List ℕ) → length (first_line bs) ≤ length bs
line_part bs = omega (arith, ap length (first_take bs), length-take (length (first_line bs)) bs)
