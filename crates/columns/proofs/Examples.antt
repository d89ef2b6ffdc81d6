-- Worked examples: what fields hold, and how numbers stand in columns.
use Rattle.std.proofs.Common.{◌≡◌, ℕ, Bool, true, false, List, [], ◌∷◌, map, length, replicate, refl}
use Rattle.columns.specs.Bytes.{all}
use Rattle.columns.specs.Columns.{columns, put}
use Rattle.columns.specs.Number.{digits_from, digits_only, whole_of, decimals_behind, fixed_of, field_of}
use Rattle.columns.specs.Picture.{passes, blanks, nines, field_picture, fits_test}
use Rattle.columns.specs.Written.{digits_of, digit_or_blank, leading, whole_written, fixed_written, written}
use Rattle.columns.specs.declared.Field.{Field}
use Rattle.columns.specs.declared.Field.TheVariants.{Blank, Malformed, Number}

-- a field: its decimals, its bytes and what it holds
record FieldRow : Type 0 where
  decimals : ℕ
  bytes : List ℕ
  holds : Field

field_row : ℕ → Field → List ℕ → FieldRow
field_row d f bs = record { decimals = d; bytes = bs; holds = f }

-- format I: 42 behind blanks and behind zeros, only blanks, a blank inside, a blank behind, a sign, a point;
-- F.1: 12.3, 0.0, only blanks, no point, no digit in front of the point, two decimals, a blank for the decimal; F.3: 0.055
table : List FieldRow
table =
    field_row 0 (Number 42) (32 ∷ 32 ∷ 52 ∷ 50 ∷ [])
    ∷ field_row 0 (Number 42) (48 ∷ 48 ∷ 52 ∷ 50 ∷ [])
    ∷ field_row 0 Blank (32 ∷ 32 ∷ 32 ∷ 32 ∷ [])
    ∷ field_row 0 Malformed (52 ∷ 32 ∷ 50 ∷ [])
    ∷ field_row 0 Malformed (52 ∷ 50 ∷ 32 ∷ [])
    ∷ field_row 0 Malformed (43 ∷ 52 ∷ 50 ∷ [])
    ∷ field_row 0 Malformed (52 ∷ 46 ∷ 50 ∷ [])
    ∷ field_row 1 (Number 123) (32 ∷ 32 ∷ 49 ∷ 50 ∷ 46 ∷ 51 ∷ [])
    ∷ field_row 1 (Number 0) (32 ∷ 32 ∷ 32 ∷ 48 ∷ 46 ∷ 48 ∷ [])
    ∷ field_row 1 Blank (32 ∷ 32 ∷ 32 ∷ 32 ∷ 32 ∷ 32 ∷ [])
    ∷ field_row 1 Malformed (32 ∷ 32 ∷ 32 ∷ 49 ∷ 50 ∷ 51 ∷ [])
    ∷ field_row 1 Malformed (32 ∷ 32 ∷ 32 ∷ 32 ∷ 46 ∷ 53 ∷ [])
    ∷ field_row 1 Malformed (32 ∷ 49 ∷ 50 ∷ 46 ∷ 51 ∷ 52 ∷ [])
    ∷ field_row 1 Malformed (32 ∷ 32 ∷ 49 ∷ 50 ∷ 46 ∷ 32 ∷ [])
    ∷ field_row 3 (Number 55) (32 ∷ 48 ∷ 46 ∷ 48 ∷ 53 ∷ 53 ∷ [])
    ∷ []

reads : map (λ r. field_of r.decimals r.bytes) table ≡ map (λ r. r.holds) table
unfolding field_row table all digits_from whole_of decimals_behind fixed_of field_of
reads = refl

-- the picture of a field fits the numbers among them, and nothing else
is_number : Field → Bool
is_number Blank = false
is_number Malformed = false
is_number (Number k) = true

fits_numbers : map (λ r. fits_test (field_picture (length r.bytes) r.decimals) r.bytes) table ≡ map (λ r. is_number r.holds) table
unfolding is_number field_row table passes blanks nines field_picture fits_test
fits_numbers = refl

-- numbers written: 12.3, 0.5, 0, 1005 and 0.055; and 7 in two digits
stands : written 6 1 123 ∷ written 6 1 5 ∷ written 4 0 0 ∷ written 4 0 1005 ∷ written 6 3 55 ∷ digits_of 2 7 ∷ []
    ≡ (32 ∷ 32 ∷ 49 ∷ 50 ∷ 46 ∷ 51 ∷ []) ∷ (32 ∷ 32 ∷ 32 ∷ 48 ∷ 46 ∷ 53 ∷ []) ∷ (32 ∷ 32 ∷ 32 ∷ 48 ∷ [])
    ∷ (49 ∷ 48 ∷ 48 ∷ 53 ∷ []) ∷ (32 ∷ 48 ∷ 46 ∷ 48 ∷ 53 ∷ 53 ∷ []) ∷ (48 ∷ 55 ∷ []) ∷ []
unfolding digits_of digit_or_blank leading whole_written fixed_written written
stands = refl

-- two bytes put into columns 3 and 4 of five
puts : put 3 (97 ∷ 98 ∷ []) (49 ∷ 50 ∷ 51 ∷ 52 ∷ 53 ∷ []) ≡ 49 ∷ 50 ∷ 97 ∷ 98 ∷ 53 ∷ []
unfolding put
puts = refl

-- bytes put into columns 3 to 8 of ten dashes: what reads them, the line afterwards, and what is then read from the columns
record WrittenRow : Type 0 where
  read : List ℕ → Field
  bytes : List ℕ
  line : List ℕ
  holds : Field

written_row : (List ℕ → Field) → List ℕ → Field → List ℕ → WrittenRow
written_row read bs f line = record { read = read; bytes = bs; line = line; holds = f }

number_row : ℕ → ℕ → Field → List ℕ → WrittenRow
number_row d v = written_row (field_of d) (written 6 d v)

digits_row : ℕ → Field → List ℕ → WrittenRow
digits_row v = written_row digits_only (digits_of 6 v)

-- F.1: 12.3, 0.0, 1000.5, the largest number that six columns hold, and one too large: its last digits stand, and it is not read back;
-- format I: 0, the largest, one too large; digits only: 123, 0, the largest, one too large
written_table : List WrittenRow
written_table =
    number_row 1 123 (Number 123) (45 ∷ 45 ∷ 32 ∷ 32 ∷ 49 ∷ 50 ∷ 46 ∷ 51 ∷ 45 ∷ 45 ∷ [])
    ∷ number_row 1 0 (Number 0) (45 ∷ 45 ∷ 32 ∷ 32 ∷ 32 ∷ 48 ∷ 46 ∷ 48 ∷ 45 ∷ 45 ∷ [])
    ∷ number_row 1 10005 (Number 10005) (45 ∷ 45 ∷ 49 ∷ 48 ∷ 48 ∷ 48 ∷ 46 ∷ 53 ∷ 45 ∷ 45 ∷ [])
    ∷ number_row 1 99999 (Number 99999) (45 ∷ 45 ∷ 57 ∷ 57 ∷ 57 ∷ 57 ∷ 46 ∷ 57 ∷ 45 ∷ 45 ∷ [])
    ∷ number_row 1 123456 (Number 23456) (45 ∷ 45 ∷ 50 ∷ 51 ∷ 52 ∷ 53 ∷ 46 ∷ 54 ∷ 45 ∷ 45 ∷ [])
    ∷ number_row 0 0 (Number 0) (45 ∷ 45 ∷ 32 ∷ 32 ∷ 32 ∷ 32 ∷ 32 ∷ 48 ∷ 45 ∷ 45 ∷ [])
    ∷ number_row 0 999999 (Number 999999) (45 ∷ 45 ∷ 57 ∷ 57 ∷ 57 ∷ 57 ∷ 57 ∷ 57 ∷ 45 ∷ 45 ∷ [])
    ∷ number_row 0 1000000 (Number 0) (45 ∷ 45 ∷ 48 ∷ 48 ∷ 48 ∷ 48 ∷ 48 ∷ 48 ∷ 45 ∷ 45 ∷ [])
    ∷ digits_row 123 (Number 123) (45 ∷ 45 ∷ 48 ∷ 48 ∷ 48 ∷ 49 ∷ 50 ∷ 51 ∷ 45 ∷ 45 ∷ [])
    ∷ digits_row 0 (Number 0) (45 ∷ 45 ∷ 48 ∷ 48 ∷ 48 ∷ 48 ∷ 48 ∷ 48 ∷ 45 ∷ 45 ∷ [])
    ∷ digits_row 999999 (Number 999999) (45 ∷ 45 ∷ 57 ∷ 57 ∷ 57 ∷ 57 ∷ 57 ∷ 57 ∷ 45 ∷ 45 ∷ [])
    ∷ digits_row 1234567 (Number 234567) (45 ∷ 45 ∷ 50 ∷ 51 ∷ 52 ∷ 53 ∷ 54 ∷ 55 ∷ 45 ∷ 45 ∷ [])
    ∷ []

rewrites : map (λ r. put 3 r.bytes (replicate 10 45)) written_table ≡ map (λ r. r.line) written_table
unfolding written_row number_row digits_row written_table put digits_of digit_or_blank leading whole_written fixed_written written
rewrites = refl

reads_back : map (λ r. r.read (columns 3 6 r.line)) written_table ≡ map (λ r. r.holds) written_table
unfolding written_row number_row digits_row written_table columns all digits_from whole_of decimals_behind fixed_of field_of
reads_back = refl
