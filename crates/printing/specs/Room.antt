-- What the functions ask of their arguments: room in the line.
use Rattle.std.specs.Prelude.{ℕ, ◌+◌, ◌≤◌, List, length}
use Rattle.printing.specs.Printed.{most_numbers, longest_line}

-- a space and 20 digits from a column on
pub record NumberRoom (column : ℕ) (line : List ℕ) : Type 0 where
  pub first : 1 ≤ column
  pub last : column + 20 ≤ length line

pub record LineRoom (word numbers line : List ℕ) : Type 0 where
  pub letters : length word ≤ 8
  pub few : length numbers ≤ most_numbers
  pub room : longest_line ≤ length line
