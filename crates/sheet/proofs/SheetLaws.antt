-- A word taken apart is what it was made of. The hours of a sheet: as many as its words say, and all of them from the first on.
use Rattle.std.specs.Prelude.{ℕ, ◌-◌, ◌<◌, ◌≡◌, List, length}
use Rattle.std.proofs.Common.{arith}
use Rattle.exact.specs.Logic.{ranked, ranked_length, ranked_whole}
use Rattle.sheet.specs.Sheet.{value_size, word_kind, word_value, apart, word_of, sheet_hour, sheet_hour_count, sheet_hours, sheet_hours_in}

pub word_kind_lem : (kind value : ℕ) → value < value_size → word_kind (word_of kind value) ≡ kind
word_kind_lem kind value h = omega arith

pub word_value_lem : (kind value : ℕ) → value < value_size → word_value (word_of kind value) ≡ value
word_value_lem kind value h = omega arith

pub word_apart_lem : (kind value : ℕ) → value < value_size → apart (word_of kind value) ≡ record { kind = kind; value = value }
word_apart_lem kind value h = rw (word_kind_lem kind value h, word_value_lem kind value h)

pub sheet_hours_count : (sheet : List ℕ) → length (sheet_hours sheet) ≡ sheet_hour_count sheet
unfolding sheet_hours_in
sheet_hours_count sheet = ranked_length (sheet_hour sheet) 0 (sheet_hour_count sheet)

pub sheet_hours_whole : (sheet : List ℕ) → ranked (sheet_hour sheet) 0 (sheet_hour_count sheet - 0) ≡ sheet_hours sheet
unfolding sheet_hours_in
sheet_hours_whole sheet = ranked_whole (sheet_hour sheet) (sheet_hour_count sheet)
