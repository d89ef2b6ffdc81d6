-- Calls of `edr_check`, `edr_write`, `edr_year_to_date` and `edr_convert`: what is returned, and what is left in the lent slice. Computed, in tables.
use Rattle.std.specs.Prelude.{◌≡◌, refl, List, [], ◌∷◌, map, ℕ, replicate, take, Ok}
use Rattle.layout.specs.Values.{within}
use Rattle.totals.specs.declared.Quarter.{Quarter}
use Rattle.lines.specs.Lines.{last}
use Rattle.reading.specs.Reading.{read_of}
use Rattle.checker.specs.Checked.{refused_at, after_reading, checked}
use Rattle.checker.proofs.Examples.{worked_hour, answers}
use Rattle.checker.proofs.PromiseLaws.{accepts}
use Rattle.annual.specs.Joined.{all_zeros, follows, sums_fit, joined_of}
use Rattle.writer.proofs.Examples.{stack, worked_sheet, worked, worked_written}
use Rattle.conversion.specs.Conversion.{each_word, conversion_refusal, recoded_from, converted, conversion_answer, converted_number}
use Rattle.conversion.proofs.Examples.{kept}
use Rattle.edr_c.specs.Boundary.{check_code, check_filled, write_code, write_filled, year_code, year_filled}

abbrev lent : List ℕ
lent = 91 ∷ 92 ∷ 93 ∷ 94 ∷ 95 ∷ 96 ∷ 97 ∷ 98 ∷ []

-- n, SO2, CO2, heat, mean and NOx tons of the paper's worked hour; number and line of an empty file; five elements are too few, six enough
abbrev worked_answer : Quarter
worked_answer = record { hours = 1; so2 = 2; co2 = 684; heat = 6667; nox = 358; nox_tons = 1 }

worked_accepted : checked worked_hour ≡ Ok worked_answer
worked_accepted = accepts (checked worked_hour) worked_answer answers.0

empty_refused : checked [] ≡ refused_at 1 0
unfolding checked after_reading read_of last
empty_refused = refl

pub check_calls : (check_code worked_hour lent ≡ 1) × (check_filled worked_hour lent ≡ 1 ∷ 2 ∷ 684 ∷ 6667 ∷ 358 ∷ 1 ∷ 97 ∷ 98 ∷ [])
    × (check_code worked_hour (take 6 lent) ≡ 1) × (check_filled worked_hour (take 6 lent) ≡ 1 ∷ 2 ∷ 684 ∷ 6667 ∷ 358 ∷ 1 ∷ [])
    × (check_code worked_hour (take 5 lent) ≡ 2) × (check_filled worked_hour (take 5 lent) ≡ take 5 lent)
    × (check_code [] lent ≡ 0) × (check_filled [] lent ≡ 1 ∷ 0 ∷ 93 ∷ 94 ∷ 95 ∷ 96 ∷ 97 ∷ 98 ∷ [])
unfolding check_code check_filled
check_calls = (rw worked_accepted, rw worked_accepted, rw worked_accepted, rw worked_accepted, refl, refl, rw empty_refused, rw empty_refused)

-- a report of 393 bytes; names of five and of seven letters
pub write_calls : (write_code 2005 3 stack worked_sheet (replicate 393 0) ≡ 393) × (write_filled 2005 3 stack worked_sheet (replicate 393 0) ≡ worked)
    × (map (λ name. write_code 2005 3 name worked_sheet (replicate 393 0)) (take 5 stack ∷ (49 ∷ stack) ∷ []) ≡ 31 ∷ 31 ∷ [])
    × (map (λ name. write_filled 2005 3 name worked_sheet lent) (take 5 stack ∷ (49 ∷ stack) ∷ []) ≡ lent ∷ lent ∷ [])
unfolding write_code write_filled
write_calls = (rw worked_written.0, worked_written.1, refl, refl)

-- year, quarter, hours, SO2, CO2, heat and NOx tons

abbrev previous : List ℕ
previous = 2005 ∷ 1 ∷ 10 ∷ 20 ∷ 30 ∷ 40 ∷ 50 ∷ 99 ∷ []

abbrev answer : List ℕ
answer = 1 ∷ 2 ∷ 3 ∷ 4 ∷ 5 ∷ 6 ∷ 99 ∷ []

pub year_calls : (year_code previous answer 2005 2 lent ≡ 1) × (year_filled previous answer 2005 2 lent ≡ 2005 ∷ 2 ∷ 11 ∷ 22 ∷ 33 ∷ 44 ∷ 56 ∷ 98 ∷ [])
    × (year_code previous answer 2005 3 lent ≡ 0) × (year_filled previous answer 2005 3 lent ≡ 41 ∷ 92 ∷ 93 ∷ 94 ∷ 95 ∷ 96 ∷ 97 ∷ 98 ∷ [])
    -- seven, six and seven elements are enough, and one fewer of either is not
    × (year_code (take 7 previous) (take 6 answer) 2005 2 (take 7 lent) ≡ 1)
    × (year_code (take 6 previous) answer 2005 2 lent ∷ year_code previous (take 5 answer) 2005 2 lent ∷ year_code previous answer 2005 2 (take 6 lent) ∷ [] ≡
    replicate 3 2)
    × (year_filled (take 6 previous) answer 2005 2 lent ∷ year_filled previous (take 5 answer) 2005 2 lent ∷ [] ≡ replicate 2 lent)
    × (year_filled previous answer 2005 2 (take 6 lent) ≡ take 6 lent)
unfolding year_code year_filled joined_of follows within all_zeros sums_fit
year_calls = (refl, refl, refl, refl, refl, refl, refl, refl)

-- the kept form of the worked hour, no words, five words, and a flow that is no whole thousand
pub convert_calls : (map (λ sheet. converted_number (conversion_answer sheet)) (kept 0 20_000_000 ∷ [] ∷ take 5 (kept 0 20_000_000) ∷ kept 0 20_000_500 ∷ []) ≡
    0 ∷ 0 ∷ 31 ∷ 50 ∷ [])
    × (map converted (kept 0 20_000_000 ∷ [] ∷ take 5 (kept 0 20_000_000) ∷ kept 0 20_000_500 ∷ []) ≡ worked_sheet ∷ [] ∷ take 5 (kept 0 20_000_000)
    ∷ kept 0 20_000_500 ∷ [])
unfolding each_word conversion_refusal recoded_from converted conversion_answer
convert_calls = (refl, refl)
