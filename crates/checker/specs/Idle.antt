-- What idle lines change of an acceptance: nothing. A refusal's line counts them. IdleLaws.antt proves it of every file and the same file
-- without them.
use Rattle.std.specs.Prelude.{ℕ, ◌≡◌, List}
use Rattle.totals.specs.declared.Quarter.{Quarter}
use Rattle.reading.specs.Recorded.{hours_of, totals_in}
use Rattle.reading.specs.RightFile.{RightFile}
use Rattle.reading.specs.declared.Report.{Report}
use Rattle.judging.specs.Judged.{acceptance}
use Rattle.checker.specs.Checked.{answer_numbers, checked}

pub record IdleFree (file other : List ℕ) : Type 0 where
  pub hours : hours_of other ≡ hours_of file
  pub totals : totals_in other ≡ totals_in file
  -- where the one is accepted, so is the other, with the same numbers
  pub without : (r : Quarter) → answer_numbers (checked file) ≡ acceptance r → answer_numbers (checked other) ≡ acceptance r
  -- and back, where the lines of the file are right, the idle ones too
  pub among : (report : Report) → RightFile file report → (r : Quarter) → answer_numbers (checked other) ≡ acceptance r →
      answer_numbers (checked file) ≡ acceptance r
