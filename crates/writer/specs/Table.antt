-- The table of what the writer answers to a sheet and a buffer of so many bytes: the length of a report, where every clause holds, or the
-- number of the first that does not. TableLaws.antt proves that every answer is of one of the two rows, and that no other number is.
use Rattle.std.specs.Prelude.{ℕ, ◌+◌, ◌*◌, ◌≡◌, List, length}
use Rattle.exact.specs.Clauses.{Hold, FirstFails}
use Rattle.writer.specs.WriterClauses.{writer_clauses}

pub data InWriterTable (year quarter : ℕ) (name sheet : List ℕ) (room : ℕ) : ℕ → Type 0 where
  -- of n operating hours
  report_written : (n : ℕ) → length sheet ≡ 6 * n → Hold (writer_clauses year quarter name sheet room) →
      InWriterTable year quarter name sheet room (75 + 318 * n)
  refused : (number : ℕ) → FirstFails (writer_clauses year quarter name sheet room) number → InWriterTable year quarter name sheet room number
