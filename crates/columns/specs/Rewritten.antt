-- What writing a number does to its line: the bytes of its columns become the number's, no other byte changes, and a number that fits is read back.
use Rattle.std.specs.Prelude.{◌≡◌, ℕ, ◌+◌, ◌-◌, ◌^◌, ◌<◌, ◌≤◌, ◌↔◌, List, length, slice_index}
use Rattle.columns.specs.Columns.{columns}
use Rattle.columns.specs.Number.{digits_only, field_of, digits_held}
use Rattle.columns.specs.Written.{digits_of, written}
use Rattle.columns.specs.declared.Field.TheVariants.{Number}

-- a line in which the columns from `start` on have become these bytes, and no other byte has changed
pub record Rewritten (start : ℕ) (bytes before after : List ℕ) : Type 0 where
  pub long : length after ≡ length before
  pub there : columns start (length bytes) after ≡ bytes
  pub front : (i : ℕ) → i < start - 1 → slice_index after i ≡ slice_index before i
  pub behind : (i : ℕ) → start - 1 + length bytes ≤ i → slice_index after i ≡ slice_index before i

-- a number of d decimals in its columns: a byte for each of them, no others, and read back exactly where it fits
pub record NumberWritten (start width d v : ℕ) (before after : List ℕ) : Type 0 where
  pub wide : length (written width d v) ≡ width
  pub only : Rewritten start (written width d v) before after
  pub back : (v < 10 ^ digits_held d width) ↔ (field_of d (columns start width after) ≡ Number v)

-- the same of columns that are digits only: type, year, quarter, date and hour
pub record DigitsWritten (start width v : ℕ) (before after : List ℕ) : Type 0 where
  pub wide : length (digits_of width v) ≡ width
  pub only : Rewritten start (digits_of width v) before after
  pub back : (v < 10 ^ width) ↔ (digits_only (columns start width after) ≡ Number v)
