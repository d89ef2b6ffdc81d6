-- What a case leaves: how many bytes of the data it takes, and the length of the last report written.
use Rattle.std.specs.Prelude.{ℕ, zero, suc, ◌+◌, ◌*◌, ◌≤◌, ◌<◌, List, length, get_or, set, Ok, Err}
use Rattle.outside.specs.Numbers.{number_at}
use Rattle.outside.specs.declared.Step.{Step}
use Rattle.writer.specs.Written.{Written}

-- the length of the last report written, where it was `last` before
abbrev pub last_of : Written → ℕ → ℕ
last_of (Ok size) last = size
last_of (Err number) last = last

-- so many edits, each a place in the report and the byte that is to stand there
unfoldable pub edited_by : ℕ → List ℕ → List ℕ → List ℕ
edited_by zero edits report = report
edited_by (suc n) edits report = set (edited_by n edits report) (number_at edits (5 * n)) (get_or edits (5 * n + 4) 0)

-- a case takes some of the data, and the report lies within the buffer
pub record Taken (case buffer : List ℕ) (step : Step) : Type 0 where
  pub some : 0 < step.taken
  pub most : step.taken ≤ length case
  pub within : step.written ≤ length buffer
