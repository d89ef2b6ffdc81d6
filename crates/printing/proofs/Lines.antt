-- Laws of a line that is written number by number: what is left to be written, behind what stands there.
use Prim.Native.Nat.{ℕ, suc, ◌+◌, ◌-◌, ◌≤◌, ◌<◌}
use mathlib.Core.Path.{◌≡◌, sym, ap, ◌∙◌}
use mathlib.Core.List.{List, [], ◌∷◌, ◌++◌, append_assoc}
use native.Mathlib.Omega.{arith}
use native.Mathlib.Numerals.{add-one}
use lib.ListN.{length, drop, get_or, length-append, drop_of_length-le}
use lib.Seq.{drop-cons}
use Rattle.columns.specs.Columns.{put}
use Rattle.columns.proofs.ColumnsLaws.{put_beside}
use Rattle.printing.specs.Printed.{spaced, all_spaced, printed_line}

-- the numbers from place i on, and the end of the line
abbrev pub left_from : ℕ → List ℕ → List ℕ
left_from i numbers = all_spaced (drop i numbers) ++ (10 ∷ [])

module _ (numbers : List ℕ) (i : ℕ) where
  pub left_one : i < length numbers → left_from i numbers ≡ spaced (get_or numbers i 0) ++ left_from (i + 1) numbers
  unfolding all_spaced
  left_one h =
      rw (add-one i, drop-cons numbers i 0 h)
      (append_assoc (spaced (get_or numbers i 0)) (all_spaced (drop (suc i) numbers)) (10 ∷ []))

  pub left_none : length numbers ≤ i → left_from i numbers ≡ 10 ∷ []
  unfolding all_spaced
  left_none h = rw (drop_of_length-le numbers h)

  pub left_length : i < length numbers → length (spaced (get_or numbers i 0)) + length (left_from (i + 1) numbers) ≡ length (left_from i numbers)
  left_length h = sym (length-append (spaced (get_or numbers i 0)) (left_from (i + 1) numbers)) ∙ ap length (sym (left_one h))

  pub left_put : (column : ℕ) (line : List ℕ) → i < length numbers → 1 ≤ column → column - 1 + length (spaced (get_or numbers i 0)) ≤ length line
      → put (column + length (spaced (get_or numbers i 0))) (left_from (i + 1) numbers) (put column (spaced (get_or numbers i 0)) line)
      ≡ put column (left_from i numbers) line
  left_put column line h first fits =
      put_beside column (spaced (get_or numbers i 0)) line fits (left_from (i + 1) numbers) first
      ∙ ap (λ (bs : List ℕ). put column bs line) (sym (left_one h))

pub line_length_lem : (word numbers : List ℕ) → length (printed_line word numbers) ≡ length word + length (left_from 0 numbers)
unfolding printed_line
line_length_lem word numbers = length-append word (left_from 0 numbers)

pub line_put : (word numbers line : List ℕ) → length word ≤ length line
    → put (1 + length word) (left_from 0 numbers) (put 1 word line) ≡ put 1 (printed_line word numbers) line
unfolding printed_line
line_put word numbers line h = put_beside 1 word line (omega arith) (left_from 0 numbers) (omega arith)
