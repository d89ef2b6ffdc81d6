-- The test of how many hours a sheet has tells of its clause.
use Rattle.std.specs.Prelude.{◌≡◌, ℕ, ◌*◌, ◌%◌, ◌≤◌, Bool, true, List, length, eqb, leb}
use Rattle.std.proofs.Common.{arith, eqb-true, leb-true, le-leb}
use Rattle.exact.specs.Faults.{unless, unless_zero}
use Rattle.calendar.specs.Calendar.{most_hours}
use Rattle.sheet.specs.Sheet.{hour_words, sheet_hour_count}

-- the test
abbrev pub hours_few : List ℕ → Bool
hours_few sheet = leb (sheet_hour_count sheet) most_hours

module _ (sheet : List ℕ) (whole : unless (eqb (length sheet % hour_words) 0) 31 ≡ 0) where
  pub hours : length sheet % hour_words ≡ 0
  hours = eqb-true (length sheet % hour_words) 0 (unless_zero _ 30 whole)

  pub few_says : leb (sheet_hour_count sheet) most_hours ≡ true → length sheet ≤ 6 * 2208
  few_says e = omega (arith, hours, leb-true (sheet_hour_count sheet) most_hours e)

  pub says_few : length sheet ≤ 6 * 2208 → leb (sheet_hour_count sheet) most_hours ≡ true
  says_few h = le-leb (sheet_hour_count sheet) most_hours (omega arith)
