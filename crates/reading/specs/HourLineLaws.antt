-- The 200 lines that are read: how many there are, and which has which rank.
use Rattle.std.specs.Prelude.{ℕ, zero, suc, ◌<◌, ◌≡◌, refl, List, [], ◌∷◌, ◌++◌, length, get_or}
use Rattle.std.proofs.Common.{sym, ap, ◌∙◌, arith, not-suc-le-zero, length-append}
use Rattle.std.proofs.Math.Decide.{dec_lt}
use Rattle.std.proofs.Math.ListN.{get_or-append}
use Rattle.std.proofs.Math.Seq.{get_or-append_seam}
use Rattle.reading.specs.Places.{hour_line_in, hour_lines_in}

pub hour_lines_length : (file : List ℕ) (n : ℕ) → length (hour_lines_in file n) ≡ n
unfolding hour_lines_in
hour_lines_length file zero = refl
hour_lines_length file (suc n) = rw length-append (omega (arith, hour_lines_length file n))

-- each of some 200 lines stands where the one of its rank is looked for
abbrev pub Known : List ℕ → List (List ℕ) → Type 0
Known file hours = (j : ℕ) → j < length hours → get_or hours j [] ≡ hour_line_in file j

pub known_next : (file : List ℕ) (hours : List (List ℕ)) (x : List ℕ) → Known file hours → x ≡ hour_line_in file (length hours) →
    Known file (hours ++ (x ∷ []))
known_next file hours x known e j h = go (dec_lt j (length hours))
  where
    go : Dec (j < length hours) → get_or (hours ++ (x ∷ [])) j [] ≡ hour_line_in file j
    go (yes l) = get_or-append hours (x ∷ []) [] j l ∙ known j l
    go (no l) =
        let s : j ≡ length hours = omega (arith, h, length-append hours (x ∷ [])) in
        rw s (get_or-append_seam hours x [] [] ∙ e)

hour_lines_known : (file : List ℕ) (n : ℕ) → Known file (hour_lines_in file n)
unfolding hour_lines_in
hour_lines_known file zero = λ j h. absurd (not-suc-le-zero h)
hour_lines_known file (suc n) =
    known_next file (hour_lines_in file n) (hour_line_in file n) (hour_lines_known file n) (ap (hour_line_in file) (sym (hour_lines_length file n)))

pub hour_lines_at : (file : List ℕ) (n k : ℕ) → k < n → get_or (hour_lines_in file n) k [] ≡ hour_line_in file k
hour_lines_at file n k h = hour_lines_known file n k (omega (arith, hour_lines_length file n))
