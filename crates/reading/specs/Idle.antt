-- A file without its idle lines.
use Rattle.std.specs.Prelude.{ℕ, ◌≡◌, cond, List, [], ◌∷◌}
use Rattle.lines.specs.Lines.{lines, last}
use Rattle.reading.specs.Recorded.{idle}

unfoldable pub without_idle : List (List ℕ) → List (List ℕ)
without_idle [] = []
without_idle (l ∷ ls) = cond (idle l) (without_idle ls) (l ∷ without_idle ls)

-- the other file has the lines of the one, but for the idle ones
pub record WithoutIdle (file other : List ℕ) : Type 0 where
  pub lines : lines other ≡ without_idle (lines file)
  pub last : last other ≡ last file
