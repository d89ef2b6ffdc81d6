-- A file as its lines. A line is its columns and byte 10.
use Rattle.std.specs.Prelude.{ℕ, ◌-◌, ◌≤◌, List, [], ◌∷◌, true, false, eqb, length, get_or}

-- what stands before the first byte 10
unfoldable pub first_line : List ℕ → List ℕ
first_line [] = []
first_line (b ∷ bs) = elim (eqb b 10) [ true ↦ [] | false ↦ b ∷ first_line bs ]

-- a byte in front of the first line
unfoldable pub onto : ℕ → List (List ℕ) → List (List ℕ)
onto b [] = (b ∷ []) ∷ []
onto b (l ∷ ls) = (b ∷ l) ∷ ls

unfoldable pub lines : List ℕ → List (List ℕ)
lines [] = []
lines (b ∷ bs) = elim (eqb b 10) [ true ↦ [] ∷ lines bs | false ↦ onto b (lines bs) ]

-- a file has a line of this number, from 1
pub record HasLine (file : List ℕ) (line : ℕ) : Type 0 where
  pub first : 1 ≤ line
  pub last : line ≤ length (lines file)

-- its columns
abbrev pub text_of : List ℕ → ℕ → List ℕ
text_of file line = get_or (lines file) (line - 1) []

-- the last byte, 0 where there is none
unfoldable pub last : List ℕ → ℕ
last [] = 0
last (b ∷ []) = b
last (b ∷ c ∷ bs) = last (c ∷ bs)
