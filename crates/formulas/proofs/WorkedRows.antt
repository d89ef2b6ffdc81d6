-- The paper's "Hours to try", the rows marked ◆, five more, and gas hours: figures that pass and figures just outside, in one table and one fact.
use Rattle.std.specs.Prelude.{◌≡◌, refl, Bool, true, false, not, ◌&&◌, List, [], ◌∷◌, ℕ}
use Rattle.std.proofs.Common.{lit<, lit≤}
use Rattle.exact.specs.Fraction.{over, fraction, whole}
use Rattle.exact.specs.Behind.{meets}
use Rattle.formulas.specs.Hour.{heat_input, Unrounded}
use Rattle.formulas.specs.Formulas.{entry_of, LiesBehind, passes_test}
use Rattle.formulas.specs.declared.hour.Hour.{Hour}
use Rattle.formulas.specs.declared.hour.Quantity.{Quantity}
use Rattle.formulas.specs.declared.hour.Quantity.TheVariants.{Heat, So2, Nox, Co2}

-- a quantity, its hour with a figure, figures that pass, figures that do not
pub record WorkedRow : Type 0 where
  pub quantity : Quantity
  pub hour : ℕ → Hour
  pub pass : List ℕ
  pub outside : List ℕ

-- tenths of ppm, ppm and percent; thousands of scfh; tenths of Fc; and a figure, whichever quantity it is of
abbrev measured : (so2 nox co2 flow fc figure : ℕ) → Hour
measured so2 nox co2 flow fc figure = record {
  time = 100;
  gas = false;
  readings = record { so2 = so2; nox = nox; co2 = co2; flow = flow; fc = fc };
  figures = record { heat = figure; so2 = figure; nox = figure; co2 = figure };
}

-- a gas hour's heat and SO2, in tenths
abbrev on_gas : (heat so2 : ℕ) → Hour
on_gas heat so2 = record {
  time = 100;
  gas = true;
  readings = record { so2 = 0; nox = 0; co2 = 1; flow = 0; fc = 5000 };
  figures = record { heat = heat; so2 = so2; nox = 0; co2 = 0 };
}

abbrev passes : WorkedRow → ℕ → Bool
passes r v = passes_test r.quantity (r.hour v)

abbrev every_figure : (ℕ → Bool) → List ℕ → Bool
every_figure f [] = true
every_figure f (v ∷ vs) = f v && every_figure f vs

abbrev pub holds : List WorkedRow → Bool
holds [] = true
holds (r ∷ rs) = every_figure (passes r) r.pass && every_figure (λ v. not (passes r v)) r.outside && holds rs

pub worked_rows : List WorkedRow
worked_rows =
    record { quantity = So2; hour = measured 2500 0 1 20_000 5000; pass = 8298 ∷ 8302 ∷ []; outside = 8297 ∷ 8303 ∷ [] }
    ∷ record { quantity = Co2; hour = measured 0 0 120 20_000 5000; pass = 1362 ∷ 1374 ∷ []; outside = 1361 ∷ 1375 ∷ [] }
    ∷ record { quantity = Heat; hour = measured 0 0 120 20_000 18_000; pass = 13_277 ∷ 13_389 ∷ []; outside = 13_276 ∷ 13_390 ∷ [] }
    ∷ record { quantity = Nox; hour = measured 0 2000 120 0 18_000; pass = 357 ∷ 360 ∷ []; outside = 356 ∷ 361 ∷ [] }
    ∷ record { quantity = So2; hour = measured 0 0 1 20_000 5000; pass = 0 ∷ 2 ∷ []; outside = 3 ∷ [] }
    ∷ record { quantity = So2; hour = measured 0 0 1 0 5000; pass = 0 ∷ []; outside = 1 ∷ [] }
    ∷ record { quantity = So2; hour = measured 99_999 0 1 1000 5000; pass = 16_591 ∷ 16_608 ∷ []; outside = 16_590 ∷ 16_609 ∷ [] }
    -- the same flow, for CO2
    ∷ record { quantity = Co2; hour = measured 0 0 1000 1000 5000; pass = 569 ∷ 571 ∷ []; outside = 568 ∷ 572 ∷ [] }
    -- the narrowest span of NOx: 1.195 for 1.194 would not pass
    ∷ record { quantity = Nox; hour = measured 0 99_999 1000 0 30_000; pass = 3580 ∷ 3584 ∷ []; outside = 3579 ∷ 3585 ∷ [] }
    -- a flow recorded as 0 is up to 500 scfh
    ∷ record { quantity = So2; hour = measured 99_999 0 1 0 5000; pass = 0 ∷ 8 ∷ []; outside = 9 ∷ [] }
    -- values that end at 0.15, which none reaches, so that 0.2 fails; values that start at 0.05, so that 0.0 fails
    ∷ record { quantity = Heat; hour = measured 0 0 1 50 5050; pass = 1 ∷ []; outside = 2 ∷ [] }
    ∷ record { quantity = Heat; hour = measured 0 0 1 51 5050; pass = 1 ∷ []; outside = 0 ∷ [] }
    -- gas hours: 0.0006 lb/mmBtu
    ∷ record { quantity = So2; hour = on_gas 13_333; pass = 8 ∷ []; outside = 7 ∷ 9 ∷ [] }
    ∷ record { quantity = So2; hour = on_gas 832; pass = 0 ∷ []; outside = 1 ∷ [] }
    ∷ record { quantity = So2; hour = on_gas 833; pass = 0 ∷ 1 ∷ []; outside = 2 ∷ [] }
    ∷ record { quantity = So2; hour = on_gas 834; pass = 1 ∷ []; outside = 0 ∷ [] }
    ∷ record { quantity = So2; hour = on_gas 0; pass = 0 ∷ []; outside = 1 ∷ [] }
    ∷ []

pub worked_rows_hold : holds worked_rows ≡ true
unfolding worked_rows passes_test over meets
worked_rows_hold = refl

-- the worked hour on gas: 1,333.3 mmBtu/hr, 0.8 lb/hr, 0.358 lb/mmBtu, 136.8 tons/hr
abbrev worked_gas_hour : Hour
worked_gas_hour = record {
  time = 50;
  gas = true;
  readings = record { so2 = 0; nox = 2000; co2 = 120; flow = 20_000; fc = 18_000 };
  figures = record { heat = 13_333; so2 = 8; nox = 358; co2 = 1368 };
}

-- and a set behind all four of its figures: 200.0 ppm, 12.0 percent, 20,000,000 scfh, and for SO2 a heat that these do not give, 1,333.26
abbrev worked_gas_set : Unrounded
worked_gas_set = record {
  so2 = heat_input (fraction 133_326 100 (lit< tt));
  nox = whole 200;
  co2 = whole 12;
  flow = whole 20_000_000;
}

pub gas_set_behind : (q : Quantity) → LiesBehind q worked_gas_hour (entry_of q worked_gas_set)
unfolding over
gas_set_behind Heat = record {
  reads = record { left = record { low = lit≤ tt; high = lit< tt }; right = record { low = lit≤ tt; high = lit< tt } };
  gives = record { low = lit≤ tt; high = lit< tt };
}
gas_set_behind So2 = record { reads = (refl, record { low = lit≤ tt; high = lit< tt }); gives = record { low = lit≤ tt; high = lit< tt } }
gas_set_behind Nox = record {
  reads = record { left = record { low = lit≤ tt; high = lit< tt }; right = record { low = lit≤ tt; high = lit< tt } };
  gives = record { low = lit≤ tt; high = lit< tt };
}
gas_set_behind Co2 = record {
  reads = record { left = record { low = lit≤ tt; high = lit< tt }; right = record { low = lit≤ tt; high = lit< tt } };
  gives = record { low = lit≤ tt; high = lit< tt };
}
