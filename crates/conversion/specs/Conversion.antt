-- A kept sheet, of the first form, made into one of the present form: what refuses it, and each of its words afterwards.
use Rattle.std.specs.Prelude.{ℕ, zero, suc, ◌%◌, Bool, true, cond, not, ◌&&◌, ◌||◌, List, [], ◌∷◌, eqb, leb, length, Result, Ok, Err}
use Rattle.exact.specs.Faults.{◌or_else◌, unless}
use Rattle.calendar.specs.Calendar.{most_hours}
use Rattle.layout.specs.Values.{thousands_of, whole_steps, flow_scfh}
use Rattle.sheet.specs.Sheet.{hour_words, flow_kind, word_of, first_form, sheet_hour_count}

-- 31: the kind of a word is its place in the hour
abbrev pub kind_right : (place word : ℕ) → Bool
kind_right place word = eqb (first_form.kind word) place

-- 50: a flow is a whole thousand
abbrev pub flow_right : (place word : ℕ) → Bool
flow_right place word = not (eqb place flow_kind) || whole_steps flow_scfh (first_form.value word)

-- a test of every word, from the one of rank i in the sheet on
unfoldable pub each_word : (ℕ → ℕ → Bool) → ℕ → List ℕ → Bool
each_word test i [] = true
each_word test i (w ∷ ws) = test (i % hour_words) w && each_word test (suc i) ws

-- whole hours, no more than a quarter may have, the kinds and the flows of the first form; 0 is none
unfoldable pub conversion_refusal : List ℕ → ℕ
conversion_refusal sheet =
    unless (eqb (length sheet % hour_words) 0) 31
    or_else unless (leb (sheet_hour_count sheet) most_hours) 31
    or_else unless (each_word kind_right 0 sheet) 31
    or_else unless (each_word flow_right 0 sheet) 50

-- the word of a place in the present form
abbrev pub recoded : (place word : ℕ) → ℕ
recoded place word = cond (eqb place flow_kind) (word_of flow_kind (thousands_of (first_form.value word))) word

-- the words from the one of rank i on
unfoldable pub recoded_from : ℕ → List ℕ → List ℕ
recoded_from i [] = []
recoded_from i (w ∷ ws) = recoded (i % hour_words) w ∷ recoded_from (suc i) ws

-- the sheet afterwards: a refusal leaves every word
unfoldable pub converted : List ℕ → List ℕ
converted sheet = elim (conversion_refusal sheet) [ zero ↦ recoded_from 0 sheet | suc c ↦ sheet ]

-- the answer as the paper has it, and its number: 0 where the sheet is converted
abbrev pub Converted : Type 0
Converted = Result (Unit {0}) ℕ

unfoldable pub conversion_answer : List ℕ → Converted
conversion_answer sheet = elim (conversion_refusal sheet) [ zero ↦ Ok tt | suc c ↦ Err (suc c) ]

abbrev pub converted_number : Converted → ℕ
converted_number (Ok _) = 0
converted_number (Err number) = number
