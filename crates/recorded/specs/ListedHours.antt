-- A 300 line as the hour pass takes it.
use Rattle.std.specs.Prelude.{ℕ, List}
use Rattle.columns.specs.Number.{number_of}
use Rattle.layout.specs.declared.RecordType.TheVariants.{Operation}
use Rattle.layout.specs.declared.Shape.{Shape}
use Rattle.lines.specs.LineFaults.{time_in}
use Rattle.reading.specs.Places.{line_at}
use Rattle.recorded.specs.declared.ListedHour.{ListedHour}

-- the one at a place, with its time
abbrev pub listed_hour : List ℕ → Shape → ℕ → ListedHour
listed_hour file s p = record { place = p; time = number_of (time_in (line_at file s Operation p).text) }
