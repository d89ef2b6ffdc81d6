-- The test of how many words a sheet has tells of its clause.
use Rattle.std.specs.Prelude.{◌≡◌, ℕ, ◌*◌, ◌%◌, Bool, true, List, length, eqb}
use Rattle.std.proofs.Common.{arith, eqb-true, eq-eqb}
use Rattle.sheet.specs.Sheet.{hour_words, sheet_hour_count}

-- the test
abbrev pub words_whole : List ℕ → Bool
words_whole sheet = eqb (length sheet % hour_words) 0

module _ (sheet : List ℕ) where
  pub words_say : eqb (length sheet % hour_words) 0 ≡ true → (n : ℕ) × (length sheet ≡ 6 * n)
  words_say e = (sheet_hour_count sheet, omega (arith, eqb-true (length sheet % hour_words) 0 e))

  pub say_words : (n : ℕ) × (length sheet ≡ 6 * n) → eqb (length sheet % hour_words) 0 ≡ true
  say_words n = eq-eqb (length sheet % hour_words) 0 (omega (arith, n.1))
