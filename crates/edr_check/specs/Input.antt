-- What the program takes standard input for, by what the reads of it returned.
use Rattle.std.specs.Prelude.{ℕ, Result, Ok, Err, zero, suc, ◌≤◌, ◌≡◌, ℤ, pos, negsuc}
use Rattle.edr_check.specs.declared.Reads.{Reads}
use Rattle.edr_check.specs.declared.Input.{Input}
use Rattle.edr_check.specs.declared.Input.TheVariants.{Report, TooLong, Unreadable}

-- what a read returned: a count, or a number below 0
abbrev pub returned : {E : Type 0} → Result ℕ E → ℤ
returned (Ok n) = pos n
returned (Err e) = negsuc 0

-- so many bytes have come, and then a read refused (a number below 0), brought nothing, or brought more
unfoldable pub input_of : (size : ℕ) (last : ℤ) → Input
input_of size (negsuc k) = Unreadable
input_of size (pos zero) = Report size
input_of size (pos (suc k)) = TooLong

-- a report has room for all bytes that have come; the last read brought more only behind a full one
pub record ReadTo (room : ℕ) (reads : Reads) : Type 0 where
  pub within : reads.size ≤ room
  pub beyond : (k : ℕ) → returned reads.last ≡ pos (suc k) → reads.size ≡ room
