-- What a field of columns holds: nothing, a number of format I or F.d, or something else.
use Rattle.std.specs.Prelude.{ℕ, zero, suc, ◌+◌, ◌-◌, ◌*◌, Bool, true, false, List, [], ◌∷◌, length, take, drop, ◌==◌}
use Rattle.columns.specs.Bytes.{is_blank, is_digit, all}
use Rattle.columns.specs.declared.Field.{Field}
use Rattle.columns.specs.declared.Field.TheVariants.{Blank, Malformed, Number}

-- digits to the end, behind digits worth `before`
unfoldable pub digits_from : ℕ → List ℕ → Field
digits_from before [] = Number before
digits_from before (b ∷ bs) = elim (is_digit b) [ true ↦ digits_from (before * 10 + (b - 48)) bs | false ↦ Malformed ]

-- columns that are digits only, as dates have them
abbrev pub digits_only : List ℕ → Field
digits_only bs = digits_from 0 bs

-- format I: blanks or none, and at least one digit, to the end
unfoldable pub whole_of : List ℕ → Field
whole_of [] = Blank
whole_of (b ∷ bs) = elim (is_blank b) [ true ↦ whole_of bs | false ↦ digits_from 0 (b ∷ bs) ]

-- the point and the decimals behind a whole number; behind blanks there are blanks only
unfoldable pub decimals_behind : Field → List ℕ → Field
decimals_behind (Number whole) [] = Malformed
decimals_behind (Number whole) (b ∷ bs) = elim (b == 46) [ true ↦ digits_from whole bs | false ↦ Malformed ]
decimals_behind Malformed bs = Malformed
decimals_behind Blank bs = elim (all is_blank bs) [ true ↦ Blank | false ↦ Malformed ]

-- format F.d: a whole number, a point and exactly d digits, in units of 10^-d
unfoldable pub fixed_of : ℕ → List ℕ → Field
fixed_of d bs =
    let point = length bs - suc d in
    decimals_behind (whole_of (take point bs)) (drop point bs)

-- a field with d decimals: F.d, and I where d is 0
unfoldable pub field_of : ℕ → List ℕ → Field
field_of zero bs = whole_of bs
field_of (suc d) bs = fixed_of (suc d) bs

-- whether a field holds nothing
unfoldable pub is_empty : Field → Bool
is_empty Blank = true
is_empty Malformed = false
is_empty (Number v) = false

-- the number in a field, 0 where there is none
unfoldable pub number_of : Field → ℕ
number_of Blank = 0
number_of Malformed = 0
number_of (Number v) = v

-- how many digits the columns of a field with d decimals hold: the point takes one
abbrev pub digits_held : ℕ → ℕ → ℕ
digits_held zero width = width
digits_held (suc d) width = width - 1

-- the fewest columns of a field with d decimals
abbrev pub fewest_columns : ℕ → ℕ
fewest_columns zero = 1
fewest_columns (suc d) = suc d + 2

-- the place of the point in a field with d decimals
abbrev pub point_in : List ℕ → ℕ → ℕ
point_in field d = length field - 1 - d
