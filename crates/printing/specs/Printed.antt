-- The line that the program prints for an answer: a word, a space and a decimal number for each number of the answer, byte 10. It computes.
use Rattle.std.specs.Prelude.{ℕ, zero, suc, ◌+◌, ◌*◌, ◌/◌, List, [], ◌∷◌, ◌++◌, true, false, ltb, Ok, Err}
use Rattle.columns.specs.Written.{digits_of}
use Rattle.checker.specs.Checked.{answer_numbers}
use Rattle.checker.specs.Checked.{Answer}

-- how many digits a number has that are no needless zeros, if so many steps suffice
unfoldable pub digit_count_in : ℕ → ℕ → ℕ
digit_count_in zero v = 1
digit_count_in (suc steps) v = elim (ltb v 10) [ true ↦ 1 | false ↦ suc (digit_count_in steps (v / 10)) ]

-- a number has fewer digits than its value, or one
abbrev pub digit_count : ℕ → ℕ
digit_count v = digit_count_in v v

abbrev pub decimal_of : ℕ → List ℕ
decimal_of v = digits_of (digit_count v) v

abbrev pub spaced : ℕ → List ℕ
spaced v = 32 ∷ decimal_of v

unfoldable pub all_spaced : List ℕ → List ℕ
all_spaced [] = []
all_spaced (v ∷ vs) = spaced v ++ all_spaced vs

unfoldable pub printed_line : List ℕ → List ℕ → List ℕ
printed_line word numbers = word ++ (all_spaced numbers ++ (10 ∷ []))

-- "accepted" and "refused"
abbrev pub outcome_word : Answer → List ℕ
outcome_word (Ok quarter) = 97 ∷ 99 ∷ 99 ∷ 101 ∷ 112 ∷ 116 ∷ 101 ∷ 100 ∷ []
outcome_word (Err refusal) = 114 ∷ 101 ∷ 102 ∷ 117 ∷ 115 ∷ 101 ∷ 100 ∷ []

abbrev pub printed : Answer → List ℕ
printed answer = printed_line (outcome_word answer) (answer_numbers answer)

-- no line has more numbers
abbrev pub most_numbers : ℕ
most_numbers = 6

-- the length of a word of eight letters, of so many spaces and numbers of 20 digits, and byte 10
abbrev pub longest_line : ℕ
longest_line = 8 + most_numbers * 21 + 1
