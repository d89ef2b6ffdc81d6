-- What a year to date promises, over every list of accepted quarters that are joined one after the other, the first to a quarter 0: it is
-- their sum, behind it stand unrounded readings, and whichever they are, the exact year lies within the stated bounds; its NOx tons lie
-- within 1/20 ton a quarter of what the recorded figures come to. YearLaws.antt proves it. The year and quarter handed over with an answer
-- need not be the file's.
use Rattle.std.specs.Prelude.{ℕ, suc, ◌≡◌, List, [], ◌∷◌, length, Ok, Err}
use Rattle.std.proofs.Common.{lit<}
use Rattle.exact.specs.Fraction.{Fraction, ◌⊕◌, fraction, whole, sum_of, Near}
use Rattle.exact.specs.Rounding.{recorded}
use Rattle.exact.specs.Sums.{total_of}
use Rattle.formulas.specs.Hour.{tenth}
use Rattle.formulas.specs.Formulas.{Entry}
use Rattle.formulas.specs.declared.hour.Quantity.{Quantity}
use Rattle.formulas.specs.declared.hour.Quantity.TheVariants.{Heat, So2, Co2}
use Rattle.totals.specs.Mass.{mass_tons}
use Rattle.totals.specs.declared.Quarter.{Quarter}
use Rattle.reading.specs.Recorded.{hours_of}
use Rattle.judging.specs.Judged.{acceptance}
use Rattle.judging.specs.Behind.{LieBehind, exact_amount}
use Rattle.checker.specs.Checked.{checked, answer_numbers}
use Rattle.annual.specs.Joined.{Joined, joined_of}
use Rattle.annual.specs.declared.YearToDate.{YearToDate}

-- an accepted file with its answer, and what quarter it is said to be
pub record Part : Type 0 where
  pub file : List ℕ
  pub answer : Quarter
  pub year : ℕ
  pub quarter : ℕ
  pub accepted : answer_numbers (checked file) ≡ acceptance answer

-- a year's quarter 0
abbrev pub none_of : ℕ → YearToDate
none_of year = record { year = year; quarter = 0; hours = 0; so2 = 0; co2 = 0; heat = 0; nox_tons = 0 }

-- what comes next of a record; a refusal stays
abbrev pub and_then : Joined → (YearToDate → Joined) → Joined
and_then (Ok y) next = next y
and_then (Err number) next = Err number

-- part after part; the first refusal ends it
unfoldable pub joined_from : YearToDate → List Part → Joined
joined_from y [] = Ok y
joined_from y (p ∷ ps) = and_then (joined_of y p.year p.quarter p.answer) (λ x. joined_from x ps)

-- quarters of one year, one after the other from this one on
abbrev pub Consecutive : (year quarter : ℕ) → List Part → Type 0
Consecutive year quarter [] = Unit {0}
Consecutive year quarter (p ∷ ps) = ((p.year ≡ year) × (p.quarter ≡ quarter)) × Consecutive year (suc quarter) ps

-- the quantities that a year carries; the mean of the NOx rates is none
pub data Summed : Quantity → Type 0 where
  so2 : Summed So2
  co2 : Summed Co2
  heat : Summed Heat

abbrev pub reported_year : {q : Quantity} → Summed q → YearToDate → Fraction
reported_year so2 y = recorded tenth y.so2
reported_year co2 y = recorded tenth y.co2
reported_year heat y = recorded tenth y.heat

-- how far the exact amount of j quarters and n operating hours may lie from the reported one
abbrev pub allowed_year : {q : Quantity} → Summed q → (j n : ℕ) → Fraction
allowed_year so2 j n = fraction j 20 (lit< tt) ⊕ fraction n 40_000 (lit< tt)
allowed_year co2 j n = fraction j 20 (lit< tt) ⊕ fraction n 20 (lit< tt)
allowed_year heat j n = fraction j 20 (lit< tt) ⊕ fraction n 20 (lit< tt)

-- a list for each part, behind a quantity's figures of its hours
abbrev pub BehindAll : (q : Quantity) → List Part → List (List (Entry q)) → Type 0
BehindAll q [] [] = Unit {0}
BehindAll q [] (es ∷ ess) = ⊥
BehindAll q (p ∷ ps) [] = ⊥
BehindAll q (p ∷ ps) (es ∷ ess) = LieBehind q (hours_of p.file) es × BehindAll q ps ess

-- the exact amount of the year: that of its quarters, added
unfoldable pub exact_year : (q : Quantity) → List Part → List (List (Entry q)) → Fraction
exact_year q [] ess = whole 0
exact_year q (p ∷ ps) [] = whole 0
exact_year q (p ∷ ps) (es ∷ ess) = exact_amount q (hours_of p.file) es ⊕ exact_year q ps ess

pub record YearPromise (year : ℕ) (parts : List Part) (y : YearToDate) : Type 0 where
  -- its place: the year and the last of the quarters, which are those from 1 on
  pub same_year : y.year ≡ year
  pub last : y.quarter ≡ length parts
  pub order : Consecutive year 1 parts
  -- hours and sums: those of the parts, added
  pub hours : y.hours ≡ total_of (λ p. p.answer.hours) parts
  pub so2 : y.so2 ≡ total_of (λ p. p.answer.so2) parts
  pub co2 : y.co2 ≡ total_of (λ p. p.answer.co2) parts
  pub heat : y.heat ≡ total_of (λ p. p.answer.heat) parts
  pub nox_tons : y.nox_tons ≡ total_of (λ p. p.answer.nox_tons) parts
  -- behind each quantity stand unrounded readings; whichever they are, the exact year lies near the reported one
  pub behind : (q : Quantity) → (ess : List (List (Entry q))) × BehindAll q parts ess
  pub bounds : (q : Quantity) (s : Summed q) (ess : List (List (Entry q))) → BehindAll q parts ess →
      Near (exact_year q parts ess) (reported_year s y) (allowed_year s (length parts) y.hours)
  -- and NOx by mass, of recorded figures, within 1/20 ton a quarter
  pub mass : Near (sum_of (λ p. mass_tons (hours_of p.file)) parts) (recorded tenth y.nox_tons) (fraction (length parts) 20 (lit< tt))
