-- Verdicts computed: every number, in the first, the second and the last of some hours, the order of the figures, of the hours and of the
-- totals, and the lines that numbers name.
use Rattle.std.specs.Prelude.{ℕ, ◌≡◌, refl, false, List, [], ◌∷◌, map}
use Rattle.exact.specs.Faults.{first_failing}
use Rattle.exact.specs.Fraction.{over}
use Rattle.exact.specs.Sums.{total_of}
use Rattle.exact.specs.Behind.{meets}
use Rattle.layout.specs.Layout.{code_of}
use Rattle.formulas.specs.Formulas.{passes_test}
use Rattle.formulas.specs.declared.hour.Hour.{Hour}
use Rattle.totals.specs.Totals.{totals_of, mean_of, quarter_of, quarter_totals}
use Rattle.totals.specs.declared.Quarter.{Quarter}
use Rattle.judging.specs.Judged.{type_named, verdict_numbers, judged_hours, compared_totals, judged_quarter}

-- the worked hour, SO2 250.0, NOx 200.0, CO2 12.0, flow 20,000,000 and Fc 1,800.0 for half an hour, with these figures
abbrev hour_with : (heat so2 nox co2 : ℕ) → Hour
hour_with heat so2 nox co2 = record {
  time = 50;
  gas = false;
  readings = record { so2 = 2500; nox = 2000; co2 = 120; flow = 20_000; fc = 18_000 };
  figures = record { heat = heat; so2 = so2; nox = nox; co2 = co2 };
}

abbrev right : Hour
right = hour_with 13_333 8300 358 1368

-- one figure just below the least that passes
abbrev wrong_heat : Hour
wrong_heat = hour_with 13_276 8300 358 1368

abbrev wrong_so2 : Hour
wrong_so2 = hour_with 13_333 8297 358 1368

abbrev wrong_nox : Hour
wrong_nox = hour_with 13_333 8300 356 1368

abbrev wrong_co2 : Hour
wrong_co2 = hour_with 13_333 8300 358 1361

abbrev quarter : (hours so2 co2 heat nox nox_tons : ℕ) → Quarter
quarter hours so2 co2 heat nox nox_tons = record { hours = hours; so2 = so2; co2 = co2; heat = heat; nox = nox; nox_tons = nox_tons }

-- hours, the totals said of them, and what the verdict says
pub record Judgement : Type 0 where
  pub hours : List Hour
  pub said : Quarter
  pub numbers : List ℕ

abbrev judgement : List Hour → Quarter → List ℕ → Judgement
judgement hours said numbers = record { hours = hours; said = said; numbers = numbers }

-- of one such hour
abbrev total : Quarter
total = quarter 1 2 684 6667 358 1

pub judgements : List Judgement
judgements =
    -- no hour; one; two; three
    judgement [] (quarter 0 0 0 0 0 0) (0 ∷ 0 ∷ 0 ∷ 0 ∷ 0 ∷ 0 ∷ [])
    ∷ judgement (right ∷ []) total (1 ∷ 2 ∷ 684 ∷ 6667 ∷ 358 ∷ 1 ∷ [])
    ∷ judgement (right ∷ right ∷ []) (quarter 2 4 1368 13_333 358 2) (2 ∷ 4 ∷ 1368 ∷ 13_333 ∷ 358 ∷ 2 ∷ [])
    ∷ judgement (right ∷ right ∷ right ∷ []) (quarter 3 6 2052 20_000 358 4) (3 ∷ 6 ∷ 2052 ∷ 20_000 ∷ 358 ∷ 4 ∷ [])
    -- a figure of the first hour; of the second; of the last; a wrong total changes nothing
    ∷ judgement (wrong_heat ∷ []) total (11 ∷ 1 ∷ [])
    ∷ judgement (wrong_so2 ∷ []) total (12 ∷ 1 ∷ [])
    ∷ judgement (wrong_nox ∷ []) total (13 ∷ 1 ∷ [])
    ∷ judgement (wrong_co2 ∷ []) total (14 ∷ 1 ∷ [])
    ∷ judgement (right ∷ wrong_heat ∷ right ∷ []) total (11 ∷ 2 ∷ [])
    ∷ judgement (right ∷ wrong_so2 ∷ right ∷ []) total (12 ∷ 2 ∷ [])
    ∷ judgement (right ∷ wrong_nox ∷ right ∷ []) total (13 ∷ 2 ∷ [])
    ∷ judgement (right ∷ wrong_co2 ∷ right ∷ []) total (14 ∷ 2 ∷ [])
    ∷ judgement (right ∷ right ∷ wrong_co2 ∷ []) total (14 ∷ 3 ∷ [])
    -- two figures of an hour, in their order; of two hours, that of the first
    ∷ judgement (hour_with 13_276 8297 358 1368 ∷ []) total (11 ∷ 1 ∷ [])
    ∷ judgement (hour_with 13_333 8297 356 1368 ∷ []) total (12 ∷ 1 ∷ [])
    ∷ judgement (hour_with 13_333 8300 356 1361 ∷ []) total (13 ∷ 1 ∷ [])
    ∷ judgement (wrong_co2 ∷ wrong_heat ∷ []) total (14 ∷ 1 ∷ [])
    -- a total, each alone; two, in their order
    ∷ judgement (right ∷ []) (quarter 1 3 684 6667 358 1) (21 ∷ 0 ∷ [])
    ∷ judgement (right ∷ []) (quarter 1 2 683 6667 358 1) (22 ∷ 0 ∷ [])
    ∷ judgement (right ∷ []) (quarter 1 2 684 6666 358 1) (23 ∷ 0 ∷ [])
    ∷ judgement (right ∷ []) (quarter 1 2 684 6667 357 1) (24 ∷ 0 ∷ [])
    ∷ judgement (right ∷ []) (quarter 1 2 684 6667 358 2) (48 ∷ 0 ∷ [])
    ∷ judgement (right ∷ []) (quarter 1 3 683 6667 358 1) (21 ∷ 0 ∷ [])
    ∷ judgement (right ∷ []) (quarter 1 2 683 6666 358 1) (22 ∷ 0 ∷ [])
    ∷ judgement (right ∷ []) (quarter 1 2 684 6666 357 1) (23 ∷ 0 ∷ [])
    ∷ judgement (right ∷ []) (quarter 1 2 684 6667 357 2) (24 ∷ 0 ∷ [])
    -- the hours are counted, and not what is said of their number
    ∷ judgement (right ∷ []) (quarter 7 2 684 6667 358 1) (1 ∷ 2 ∷ 684 ∷ 6667 ∷ 358 ∷ 1 ∷ [])
    ∷ []

pub judged_so : map (λ (j : Judgement). verdict_numbers (judged_quarter j.hours j.said)) judgements ≡ map (λ (j : Judgement). j.numbers) judgements
unfolding judgements over meets total_of passes_test totals_of mean_of quarter_of quarter_totals first_failing judged_hours compared_totals judged_quarter
judged_so = refl

-- the line that a refusal names: a figure's is of its type, that of a total 301
pub lines_named : map (λ (number : ℕ). code_of (type_named number)) (11 ∷ 12 ∷ 13 ∷ 14 ∷ 21 ∷ 22 ∷ 23 ∷ 24 ∷ 48 ∷ [])
    ≡ 300 ∷ 310 ∷ 320 ∷ 330 ∷ 301 ∷ 301 ∷ 301 ∷ 301 ∷ 301 ∷ []
lines_named = refl
