-- What the check answers to a file: its hours and totals judged, with ranks turned into lines. It computes.
use Rattle.std.specs.Prelude.{ℕ, Result, zero, suc, List, [], ◌∷◌, Ok, Err}
use Rattle.layout.specs.declared.RecordType.TheVariants.{QuarterTotals}
use Rattle.judging.specs.Judged.{acceptance, type_named, judged_quarter}
use Rattle.judging.specs.Judged.{Verdict}
use Rattle.totals.specs.declared.Quarter.{Quarter}
use Rattle.refusals.specs.declared.PaperRefusal.{PaperRefusal}
use Rattle.reading.specs.Reading.{read_of}
use Rattle.reading.specs.Recorded.{record_at, hours_of, totals_in}
use Rattle.reading.specs.Reading.{Reading}

-- an acceptance, with n and the totals, or a refusal
abbrev pub Answer : Type 0
Answer = Result Quarter PaperRefusal

abbrev pub refusal : ℕ → ℕ → List ℕ
refusal number line = number ∷ line ∷ []

-- what an answer says, as the paper has it: n and the totals, or number and line
abbrev pub answer_numbers : Answer → List ℕ
answer_numbers (Ok r) = acceptance r
answer_numbers (Err r) = refusal r.number r.line

abbrev pub refused_at : ℕ → ℕ → Answer
refused_at number line = Err (record { number = number; line = line })

-- the line of a failure: with rank 0 line 301, else the record of the type that its number names, in the hour of its rank, from 1
abbrev pub line_named : List ℕ → (number rank : ℕ) → ℕ
line_named file number zero = (record_at file QuarterTotals 0).number
line_named file number (suc k) = (record_at file (type_named number) k).number

abbrev pub answer_of : List ℕ → Verdict → Answer
answer_of file (Ok r) = Ok r
answer_of file (Err f) = refused_at f.number (line_named file f.number f.rank)

-- the verdict on the hours and totals that a file's records say
abbrev pub verdict_on : List ℕ → Verdict
verdict_on file = judged_quarter (hours_of file) (totals_in file)

-- of a file whose lines are right
unfoldable pub judged : List ℕ → Answer
judged file = answer_of file (verdict_on file)

unfoldable pub after_reading : List ℕ → Reading → Answer
after_reading file (Ok report) = judged file
after_reading file (Err r) = Err r

unfoldable pub checked : List ℕ → Answer
checked file = after_reading file (read_of file)
