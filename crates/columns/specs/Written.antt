-- Numbers as they stand in columns, from their last digit to their first.
use Rattle.std.specs.Prelude.{ℕ, zero, suc, ◌+◌, ◌-◌, ◌/◌, ◌%◌, ◌^◌, List, [], ◌∷◌, ◌++◌}

-- the byte of the last digit
abbrev pub last_digit : ℕ → ℕ
last_digit v = 48 + v % 10

-- exactly so many digits, with zeros in front
unfoldable pub digits_of : ℕ → ℕ → List ℕ
digits_of zero v = []
digits_of (suc w) v = digits_of w (v / 10) ++ (last_digit v ∷ [])

-- the byte of the last digit, a blank where no digit is left
unfoldable pub digit_or_blank : ℕ → ℕ
digit_or_blank zero = 32
digit_or_blank (suc v) = last_digit (suc v)

-- digits as far as there are any, with blanks in front
unfoldable pub leading : ℕ → ℕ → List ℕ
leading zero v = []
leading (suc w) v = leading w (v / 10) ++ (digit_or_blank v ∷ [])

-- a whole number: its last digit always stands
unfoldable pub whole_written : ℕ → ℕ → List ℕ
whole_written zero v = []
whole_written (suc w) v = leading w (v / 10) ++ (last_digit v ∷ [])

-- a number with d decimals, in units of 10^-d: its whole part, a point and exactly d digits
unfoldable pub fixed_written : ℕ → ℕ → ℕ → List ℕ
fixed_written width d v = whole_written (width - suc d) (v / 10 ^ d) ++ (46 ∷ digits_of d v)

-- in a field with d decimals: F.d, and I where d is 0
unfoldable pub written : ℕ → ℕ → ℕ → List ℕ
written width zero v = whole_written width v
written width (suc d) v = fixed_written width (suc d) v
