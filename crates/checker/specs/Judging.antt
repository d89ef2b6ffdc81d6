-- What the hour pass needs of a file: its lines where the layout has them, and every value of its hours in range; and what is needed of a
-- failure to find its line.
use Rattle.std.specs.Prelude.{ℕ, suc, ◌<◌, ◌≡◌, List, length}
use Rattle.layout.specs.declared.Shape.{Shape}
use Rattle.formulas.specs.Hour.{HourWithin}
use Rattle.judging.specs.Judged.{PaperFailure, type_named}
use Rattle.reading.specs.Recorded.{records_of, hour_at}
use Rattle.reading.specs.Places.{Standing}

pub record Judgeable (file : List ℕ) (s : Shape) : Type 0 where
  pub standing : Standing file s
  pub within : (k : ℕ) → k < s.hours → HourWithin (hour_at file k)

-- there is the record that a failure with a rank names
abbrev pub NamesRecord : List ℕ → PaperFailure → Type 0
NamesRecord file f = (k : ℕ) → f.rank ≡ suc k → k < length (records_of file (type_named f.number))
