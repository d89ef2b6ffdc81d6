-- Columns of a line, counted from 1: the bytes in them, and the line with other bytes in them.
use Rattle.std.specs.Prelude.{ℕ, ◌+◌, ◌-◌, ◌≤◌, List, ◌++◌, length, take, drop}

-- a line has so many columns from `start` on
pub record Inside (start width : ℕ) (line : List ℕ) : Type 0 where
  pub first : 1 ≤ start
  pub last : start - 1 + width ≤ length line

-- so many columns from `start` on
unfoldable pub columns : ℕ → ℕ → List ℕ → List ℕ
columns start width line = take width (drop (start - 1) line)

-- the line with these bytes from column `start` on, and everything else as it was
unfoldable pub put : ℕ → List ℕ → List ℕ → List ℕ
put start bytes line = take (start - 1) line ++ (bytes ++ drop (start - 1 + length bytes) line)
