-- Quarters joined, and each cause of a refusal: computed, in one fact.
use Rattle.std.specs.Prelude.{◌≡◌, refl, List, [], ◌∷◌, map, ℕ, ◌+◌, ◌-◌, ◌^◌, replicate}
use Rattle.layout.specs.Values.{within}
use Rattle.totals.specs.declared.Quarter.{Quarter}
use Rattle.annual.specs.Joined.{year_numbers, all_zeros, follows, sums_fit, joined_of}
use Rattle.annual.specs.declared.YearToDate.{YearToDate}

-- a record, the year and quarter handed over, an answer, and the numbers that joining them gives
pub record Row : Type 0 where
  pub previous : YearToDate
  pub year : ℕ
  pub quarter : ℕ
  pub answer : Quarter
  pub numbers : List ℕ

abbrev row : YearToDate → (year quarter : ℕ) → Quarter → List ℕ → Row
row previous year quarter answer numbers = record { previous = previous; year = year; quarter = quarter; answer = answer; numbers = numbers }

abbrev year_of : (year quarter hours so2 co2 heat tons : ℕ) → YearToDate
year_of year quarter hours so2 co2 heat tons =
    record { year = year; quarter = quarter; hours = hours; so2 = so2; co2 = co2; heat = heat; nox_tons = tons }

abbrev answer_of : (hours so2 co2 heat nox tons : ℕ) → Quarter
answer_of hours so2 co2 heat nox tons = record { hours = hours; so2 = so2; co2 = co2; heat = heat; nox = nox; nox_tons = tons }

-- the worked hour's answer, and a year's first half after it and another quarter
abbrev worked : Quarter
worked = answer_of 1 2 684 6667 358 1

abbrev half : YearToDate
half = year_of 2005 2 2209 5002 101_684 1_006_667 167

abbrev limit : ℕ
limit = 9_999_999_999

-- a year's quarter 0, and an answer without hours
abbrev none : YearToDate
none = year_of 2005 0 0 0 0 0 0

abbrev idle : Quarter
idle = answer_of 0 0 0 0 0 0

pub rows : List Row
rows =
    -- four quarters joined, one after the other; of whatever year; the mean, however large, is not carried
    row none 2005 1 worked (2005 ∷ 1 ∷ 1 ∷ 2 ∷ 684 ∷ 6667 ∷ 1 ∷ [])
    ∷ row (year_of 2005 1 1 2 684 6667 1) 2005 2 (answer_of 2208 5000 101_000 1_000_000 333 166) (2005 ∷ 2 ∷ 2209 ∷ 5002 ∷ 101_684 ∷ 1_006_667 ∷ 167 ∷ [])
    ∷ row half 2005 3 (answer_of 10 20 30 40 50 60) (2005 ∷ 3 ∷ 2219 ∷ 5022 ∷ 101_714 ∷ 1_006_707 ∷ 227 ∷ [])
    ∷ row (year_of 2005 3 2219 5022 101_714 1_006_707 227) 2005 4 idle (2005 ∷ 4 ∷ 2219 ∷ 5022 ∷ 101_714 ∷ 1_006_707 ∷ 227 ∷ [])
    ∷ row (year_of 0 0 0 0 0 0 0) 0 1 worked (0 ∷ 1 ∷ 1 ∷ 2 ∷ 684 ∷ 6667 ∷ 1 ∷ [])
    ∷ row (year_of 3000 1 1 2 684 6667 1) 3000 2 (answer_of 1 2 684 6667 (limit + 1) 1) (3000 ∷ 2 ∷ 2 ∷ 4 ∷ 1368 ∷ 13_334 ∷ 2 ∷ [])
    -- 2,208 hours a quarter on either side, and each sum at the limit
    ∷ row none 2005 1 (answer_of 2208 limit limit limit 0 limit) (2005 ∷ 1 ∷ 2208 ∷ limit ∷ limit ∷ limit ∷ limit ∷ [])
    ∷ row (year_of 2005 1 2208 0 0 0 0) 2005 2 idle (2005 ∷ 2 ∷ 2208 ∷ 0 ∷ 0 ∷ 0 ∷ 0 ∷ [])
    ∷ row (year_of 2005 2 4416 0 0 0 0) 2005 3 idle (2005 ∷ 3 ∷ 4416 ∷ 0 ∷ 0 ∷ 0 ∷ 0 ∷ [])
    ∷ row (year_of 2005 3 6624 0 0 0 0) 2005 4 (answer_of 2208 0 0 0 0 0) (2005 ∷ 4 ∷ 8832 ∷ 0 ∷ 0 ∷ 0 ∷ 0 ∷ [])
    ∷ row (year_of 2005 1 1 (limit - 2) (limit - 684) (limit - 6667) (limit - 1)) 2005 2 worked (2005 ∷ 2 ∷ 2 ∷ limit ∷ limit ∷ limit ∷ limit ∷ [])
    ∷ []

-- what joining them gives
abbrev numbers_for : YearToDate → (year quarter : ℕ) → Quarter → List ℕ
numbers_for previous year quarter answer = year_numbers (joined_of previous year quarter answer)

pub rows_hold : (map (λ (r : Row). numbers_for r.previous r.year r.quarter r.answer) rows ≡ map (λ (r : Row). r.numbers) rows)
    -- 41: no quarter of the four
    × (numbers_for none 2005 0 worked ∷ numbers_for (year_of 2005 (2 ^ 64 - 1) 0 0 0 0 0) 2005 0 worked ∷ numbers_for (year_of 2005 4 0 0 0 0 0) 2005 5 worked
    ∷ numbers_for (year_of 2005 5 0 0 0 0 0) 2005 6 worked ∷ []
    ≡ replicate 4 (41 ∷ []))
    -- not the quarter just before: the same again, one left out, the one after; of the year before or after; last year's fourth
    × (numbers_for half 2005 2 worked ∷ numbers_for half 2005 4 worked ∷ numbers_for half 2005 1 worked ∷ numbers_for none 2005 2 worked
    ∷ numbers_for (year_of 2005 1 0 0 0 0 0) 2005 1 worked ∷ numbers_for half 2006 3 worked ∷ numbers_for half 2004 3 worked
    ∷ numbers_for (year_of 2004 0 0 0 0 0 0) 2005 1 worked ∷ numbers_for (year_of 2004 4 0 0 0 0 0) 2005 1 worked ∷ []
    ≡ replicate 9 (41 ∷ []))
    -- a quarter 0 with hours, SO2, CO2, heat input or NOx tons
    × (map (λ y. numbers_for y 2005 1 idle) (year_of 2005 0 1 0 0 0 0 ∷ year_of 2005 0 0 1 0 0 0 ∷ year_of 2005 0 0 0 1 0 0 ∷ year_of 2005 0 0 0 0 1 0
    ∷ year_of 2005 0 0 0 0 0 1 ∷ [])
    ≡ replicate 5 (41 ∷ []))
    -- an hour more than 2,208 a quarter, on either side
    × (numbers_for none 2005 1 (answer_of 2209 0 0 0 0 0) ∷ numbers_for (year_of 2005 3 0 0 0 0 0) 2005 4 (answer_of 2209 0 0 0 0 0)
    ∷ numbers_for (year_of 2005 1 2209 0 0 0 0) 2005 2 idle ∷ numbers_for (year_of 2005 2 4417 0 0 0 0) 2005 3 idle
    ∷ numbers_for (year_of 2005 3 6625 0 0 0 0) 2005 4 idle ∷ []
    ≡ replicate 5 (41 ∷ []))
    -- 42: a sum past the limit, by the quarter, by the record, or by both
    × (map (λ y. numbers_for y 2005 2 worked) (year_of 2005 1 1 (limit - 1) 0 0 0 ∷ year_of 2005 1 1 0 (limit - 683) 0 0 ∷ year_of 2005 1 1 0 0 (limit - 6666) 0
    ∷ year_of 2005 1 1 0 0 0 limit ∷ year_of 2005 1 1 (2 ^ 64 - 2) 0 0 0 ∷ [])
    ≡ replicate 5 (42 ∷ []))
    × (map (λ a. numbers_for none 2005 1 a) (answer_of 1 (limit + 1) 0 0 0 0 ∷ answer_of 1 0 (limit + 1) 0 0 0 ∷ answer_of 1 0 0 (limit + 1) 0 0
    ∷ answer_of 1 0 0 0 0 (limit + 1) ∷ [])
    ≡ replicate 4 (42 ∷ []))
    × (map (λ y. numbers_for y 2005 4 idle) (year_of 2005 3 1 (limit + 1) 0 0 0 ∷ year_of 2005 3 1 0 (limit + 1) 0 0 ∷ year_of 2005 3 1 0 0 (limit + 1) 0
    ∷ year_of 2005 3 1 0 0 0 (limit + 1) ∷ [])
    ≡ replicate 4 (42 ∷ []))
    -- 41 before 42: of another year, a quarter 0 that is not all zeros, too many hours on either side
    × (numbers_for (year_of 2005 1 1 (limit - 1) 0 0 0) 2006 2 worked ∷ numbers_for (year_of 2005 0 0 0 0 0 (limit + 1)) 2005 1 worked
    ∷ numbers_for none 2005 1 (answer_of 2209 (limit + 1) 0 0 0 0) ∷ numbers_for (year_of 2005 1 2209 0 (limit + 1) 0 0) 2005 2 worked ∷ []
    ≡ replicate 4 (41 ∷ []))
unfolding joined_of follows within all_zeros sums_fit rows
rows_hold = (refl, refl, refl, refl, refl, refl, refl, refl, refl)
