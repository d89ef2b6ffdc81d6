-- What is left of a file, as the functions that read its first line look at it.
use Rattle.std.specs.Prelude.{ℕ, List, Bool, ◌&&◌, eqb, take, get_or}
use Rattle.columns.specs.Bytes.{is_printable, all}
use Rattle.layout.specs.declared.RecordType.{RecordType}
use Rattle.layout.specs.declared.RecordType.TheVariants.{Operation}
use Rattle.lines.specs.LineFaults.{rising_fault, hour_on, hour_in, hour_said, said_of, OperationSaid}
use Rattle.lines.specs.LineFaults.{HourLine}
use Rattle.calendar.specs.Calendar.{Period}
use Rattle.lines.specs.declared.operation.OperationLine.TheVariants.{Operating}

-- so many printable bytes and byte 10
unfoldable pub is_line : ℕ → List ℕ → Bool
is_line long bs = eqb (get_or bs long 0) 10 && all is_printable (take long bs)

-- what a line that has no fault so far says of its hour, which must be at least `from`
unfoldable pub stamped_line : Period → RecordType → (from : ℕ) → List ℕ → HourLine
stamped_line period t from line = hour_said (rising_fault from (hour_on period t line)) (hour_in period t line)

-- the same of the 300 line of an operating hour
unfoldable pub operating_at : Period → (from : ℕ) → List ℕ → OperationSaid
operating_at period from line = said_of (rising_fault from (hour_on period Operation line)) (Operating (hour_in period Operation line))
