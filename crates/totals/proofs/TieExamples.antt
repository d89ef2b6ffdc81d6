-- Ties: half a unit is rounded up, and what lies below it down, once for the quarter and not hour by hour. Computed, in tables.
use Rattle.std.specs.Prelude.{◌≡◌, refl, false, List, [], ◌∷◌, map, ℕ, replicate}
use Rattle.exact.specs.Fraction.{over}
use Rattle.exact.specs.Sums.{total_of}
use Rattle.formulas.specs.declared.hour.Hour.{Hour}
use Rattle.totals.specs.Totals.{totals_of, mean_of, quarter_of, quarter_totals}
use Rattle.totals.specs.declared.Totals.{Totals}
use Rattle.totals.specs.declared.Quarter.{Quarter}

-- hours, SO2, CO2 and heat in tenths, the mean in thousandths, NOx tons in tenths
abbrev numbers : Quarter → List ℕ
numbers q = q.hours ∷ q.so2 ∷ q.co2 ∷ q.heat ∷ q.nox ∷ q.nox_tons ∷ []

-- the sums: tenths × hundredths of lb, tons and mmBtu, thousandths of lb/mmBtu, millionths of lb
abbrev sums : (hours so2 co2 heat nox mass : ℕ) → Totals
sums hours so2 co2 heat nox mass = record { sums = so2 ∷ co2 ∷ heat ∷ nox ∷ mass ∷ []; hours = hours }

pub half_units : map (λ t. numbers (quarter_of t))
    -- just below half a unit and at it; below one unit and a half, and at it; the mean of three hours and of two
    (sums 3 99_999 49 49 1 99_999_999
    ∷ sums 2 100_000 50 50 1 100_000_000
    ∷ sums 3 299_999 149 149 4 299_999_999
    ∷ sums 2 300_000 150 150 3 300_000_000
    -- the mean of five: 2.4 and 2.6; whole units; each sum in its place; no hour
    ∷ sums 5 199_999 99 99 12 199_999_999
    ∷ sums 5 200_000 100 100 13 200_000_000
    ∷ sums 2 200_000 200 300 8 1_000_000_000
    ∷ sums 0 0 0 0 0 0
    ∷ [])
    ≡ (3 ∷ 0 ∷ 0 ∷ 0 ∷ 0 ∷ 0 ∷ [])
    ∷ (2 ∷ 1 ∷ 1 ∷ 1 ∷ 1 ∷ 1 ∷ [])
    ∷ (3 ∷ 1 ∷ 1 ∷ 1 ∷ 1 ∷ 1 ∷ [])
    ∷ (2 ∷ 2 ∷ 2 ∷ 2 ∷ 2 ∷ 2 ∷ [])
    ∷ (5 ∷ 1 ∷ 1 ∷ 1 ∷ 2 ∷ 1 ∷ [])
    ∷ (5 ∷ 1 ∷ 1 ∷ 1 ∷ 3 ∷ 1 ∷ [])
    ∷ (2 ∷ 1 ∷ 2 ∷ 3 ∷ 4 ∷ 5 ∷ [])
    ∷ (0 ∷ 0 ∷ 0 ∷ 0 ∷ 0 ∷ 0 ∷ [])
    ∷ []
unfolding quarter_of mean_of over
half_units = refl

-- hours

abbrev hour_of : (time heat so2 nox co2 : ℕ) → Hour
hour_of time heat so2 nox co2 = record {
  time = time;
  gas = false;
  readings = record { so2 = 0; nox = 0; co2 = 0; flow = 0; fc = 0 };
  figures = record { heat = heat; so2 = so2; nox = nox; co2 = co2 };
}

pub formed_once : map (λ hs. numbers (quarter_totals hs))
    -- no hour
    ([]
    -- two quarters of an hour at 200.0 lb/hr, 0.1 ton/hr and 0.1 mmBtu/hr come to 0.05 each: rounded hour by hour, to 0.0
    ∷ replicate 2 (hour_of 25 1 2000 0 1)
    -- the mean is not weighted by time: 0.003 for an hour and 0.000 for a hundredth of one
    ∷ (hour_of 100 0 0 3 0 ∷ hour_of 1 0 0 0 0 ∷ [])
    -- seven hours of 14.27 lb of NOx are 99.89 lb, and of 14.29 lb 100.03: rounded hour by hour, to 0.1 or to 1 lb, they would be 100.1 and 98
    ∷ replicate 7 (hour_of 100 100 0 1427 0)
    ∷ replicate 7 (hour_of 100 100 0 1429 0)
    ∷ [])
    ≡ (0 ∷ 0 ∷ 0 ∷ 0 ∷ 0 ∷ 0 ∷ [])
    ∷ (2 ∷ 1 ∷ 1 ∷ 1 ∷ 0 ∷ 0 ∷ [])
    ∷ (2 ∷ 0 ∷ 0 ∷ 0 ∷ 2 ∷ 0 ∷ [])
    ∷ (7 ∷ 0 ∷ 0 ∷ 700 ∷ 1427 ∷ 0 ∷ [])
    ∷ (7 ∷ 0 ∷ 0 ∷ 700 ∷ 1429 ∷ 1 ∷ [])
    ∷ []
unfolding quarter_totals quarter_of totals_of total_of mean_of over
formed_once = refl
