-- What is promised of a conversion, about the words before and after and the answer's number, 0 where the sheet is converted. No test of
-- Conversion.antt is called here.
use Rattle.std.specs.Prelude.{ℕ, ◌+◌, ◌*◌, ◌/◌, ◌%◌, ◌≤◌, ◌<◌, ◌^◌, ◌≡◌, List, [], ◌∷◌, length, get_or}
use Rattle.exact.specs.Clauses.{Clause, clause, Hold, FirstFails}
use Rattle.sheet.specs.Sheet.{first_form}
use Rattle.sheet.specs.SheetClauses.{kind_at, value_at, EachHour}
use Rattle.writer.specs.Written.{answered, answered_in, buffered, buffered_in}

-- word j of hour k of a kept sheet, both from 0: its kind in the top three of 32 bits, its value in the other 29, the flow in scfh

abbrev pub kept_kind : List ℕ → (k j : ℕ) → ℕ
kept_kind sheet k j = get_or sheet (6 * k + j) 0 / 2 ^ 29

abbrev pub kept_value : List ℕ → (k j : ℕ) → ℕ
kept_value sheet k j = get_or sheet (6 * k + j) 0 % 2 ^ 29

-- six words to an hour, 2,208 hours at most, of the kinds 0 to 5; then each flow a whole thousand
abbrev pub conversion_clauses : List ℕ → List Clause
conversion_clauses sheet =
    clause 31 ((n : ℕ) × (length sheet ≡ 6 * n))
    ∷ clause 31 (length sheet ≤ 6 * 2208)
    ∷ clause 31 (EachHour sheet (λ k. (j : ℕ) → j < 6 → kept_kind sheet k j ≡ j))
    ∷ clause 50 (EachHour sheet (λ k. kept_value sheet k 4 % 1000 ≡ 0))
    ∷ []

-- flows that a report could have when the sheet was kept
abbrev pub OldFlows : List ℕ → Type 0
OldFlows sheet = EachHour sheet (λ k. kept_value sheet k 4 ≤ 500_000_000)

pub record ConversionPromise (sheet : List ℕ) (number : ℕ) (after : List ℕ) : Type 0 where
  -- a refusal is that of the first clause which is not met, and leaves every word
  pub refused : (number ≡ 0 → ⊥) → FirstFails (conversion_clauses sheet) number × (after ≡ sheet)
  pub taken : number ≡ 0 → Hold (conversion_clauses sheet)
  -- flow words change, and no others; they count thousands
  pub as_long : length after ≡ length sheet
  pub others_kept : (k j : ℕ) → 6 * k + j < length sheet → j < 6 → (j ≡ 4 → ⊥) → get_or after (6 * k + j) 0 ≡ get_or sheet (6 * k + j) 0
  pub thousands : number ≡ 0 → EachHour sheet (λ k. (kind_at after k 4 ≡ 4) × (1000 * value_at after k 4 ≡ kept_value sheet k 4))
  -- the writer's answer and every byte of its buffer are those that the kept sheet had
  pub converted_same : number ≡ 0 → OldFlows sheet → (year quarter : ℕ) (name buffer : List ℕ) →
      (answered year quarter name after (length buffer) ≡ answered_in first_form year quarter name sheet (length buffer))
      × (buffered year quarter name after buffer ≡ buffered_in first_form year quarter name sheet buffer)
