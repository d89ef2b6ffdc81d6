-- A line that fits the picture of its type: it has no fault that every line is tried for, and a number in each value's columns.
use Rattle.std.specs.Prelude.{ℕ, ◌<◌, ◌≡◌, List, [], ◌∷◌, Bool, true, cond, ◌&&◌, take}
use Rattle.columns.specs.Columns.{columns}
use Rattle.columns.specs.Worth.{worth_of}
use Rattle.columns.specs.declared.Field.TheVariants.{Number}
use Rattle.layout.specs.Layout.{length_of, row_of, values_of, value_count, value_at}
use Rattle.layout.specs.Values.{is_free, within}
use Rattle.layout.specs.Pictures.{whole_picture}
use Rattle.layout.specs.declared.RecordType.{RecordType}
use Rattle.layout.specs.declared.RecordType.TheVariants.{Operation}
use Rattle.layout.specs.declared.Row.{Row}
use Rattle.layout.specs.declared.values.Value.{Value}
use Rattle.lines.specs.Lines.{first_line}
use Rattle.lines.specs.LineFaults.{common_fault, field_in, operates, timed_fault}

-- a type's row and picture, which are asked for once for all its lines
pub record Known (t : RecordType) (row : Row) (picture : List ℕ) : Type 0 where
  pub rowed : row ≡ row_of t
  pub pictured : picture ≡ whole_picture t

pub record NumbersIn (t : RecordType) (line : List ℕ) : Type 0 where
  pub number : (i : ℕ) → i < value_count t → (k : ℕ) × (field_in (value_at t i) line ≡ Number k)

pub record Pictured (facility : List ℕ) (t : RecordType) (rest : List ℕ) : Type 0 where
  pub common : common_fault facility t (first_line rest) ≡ 0
  pub numbers : NumbersIn t (take (length_of t) rest)

-- a 300 line of an operating hour that must have this date, without fault but perhaps that of its hour
pub record OperatingLine (facility date line : List ℕ) : Type 0 where
  pub common : common_fault facility Operation line ≡ 0
  pub operating : operates line ≡ true
  pub timed : timed_fault date line ≡ 0

-- the number in a value's columns is one of its range
abbrev pub number_holds : Value → List ℕ → Bool
number_holds v line = within v (worth_of v.decimals (columns v.start v.width line))

-- the values that may not be whatever their columns hold
abbrev pub limited : List Value → List Value
limited [] = []
limited (v ∷ vs) = cond (is_free v) (limited vs) (v ∷ limited vs)

abbrev pub all_hold : List Value → List ℕ → Bool
all_hold [] line = true
all_hold (v ∷ []) line = number_holds v line
all_hold (v ∷ w ∷ vs) line = number_holds v line && all_hold (w ∷ vs) line

-- the tests of numbers that a picture leaves
unfoldable pub ranges_hold : RecordType → List ℕ → Bool
ranges_hold t line = all_hold (limited (values_of t)) line
