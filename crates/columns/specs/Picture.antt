-- The picture of a line: for each of its columns a byte that tells which bytes may stand there.
use Rattle.std.specs.Prelude.{◌≡◌, ℕ, zero, suc, ◌+◌, ◌-◌, ◌<◌, ◌≤◌, Bool, true, false, ◌&&◌, ◌||◌, List, [], ◌∷◌, length, ◌==◌, nat_le, slice_index}
use Rattle.columns.specs.Bytes.{is_digit, is_printable}

-- a byte behind a digit in front of a number's last whole digit: no blank, and no point
abbrev pub goes_on : ℕ → Bool
goes_on next = nat_le 48 next

-- `9` is for a digit, a blank for a blank or for a digit with no blank behind it, `~` for any printable byte, and every other byte for itself
unfoldable pub passes : (p b next : ℕ) → Bool
passes p b next = (b == p || (is_digit b && (p == 57 || (p == 32 && goes_on next)))) || (p == 126 && is_printable b)

-- a byte of a picture that stands for itself
abbrev pub is_plain : ℕ → Bool
is_plain p = nat_le 33 p && nat_le p 56

-- so many blanks in front, and so many nines
unfoldable pub blanks : ℕ → List ℕ → List ℕ
blanks zero ps = ps
blanks (suc n) ps = 32 ∷ blanks n ps

unfoldable pub nines : ℕ → List ℕ
nines zero = []
nines (suc n) = 57 ∷ nines n

-- the picture of a field with d decimals
unfoldable pub field_picture : (width d : ℕ) → List ℕ
field_picture width zero = blanks (width - 1) (57 ∷ [])
field_picture width (suc d) = blanks (width - (suc d + 2)) (57 ∷ 46 ∷ nines (suc d))

-- a line begins as its picture says, behind `from` columns and up to the column `to`: each byte, with the next one
pub record FitsFrom (from to : ℕ) (picture line : List ℕ) : Type 0 where
  pub column : (i : ℕ) → from ≤ i → i < to → passes (slice_index picture i) (slice_index line i) (slice_index line (i + 1)) ≡ true

-- in all columns of the picture
abbrev pub Fits : (picture line : List ℕ) → Type 0
Fits picture line = FitsFrom 0 (length picture) picture line

-- the same as a test
unfoldable pub fits_test : (picture line : List ℕ) → Bool
fits_test [] line = true
fits_test (p ∷ ps) [] = false
fits_test (p ∷ ps) (b ∷ bs) = passes p b (slice_index bs 0) && fits_test ps bs
