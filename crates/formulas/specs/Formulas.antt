-- The four equations of 40 CFR Part 75, Appendix F, as data: a product or a quotient of two readings, with its factor. From them, once
-- for a product and once for a quotient: the exact value, what lies behind a figure, the test of a figure, the rounded value.
-- In a gas hour SO2 is a factor times the heat. FormulaLaws.antt proves the test exact.
use Rattle.std.specs.Prelude.{◌≡◌, Bool, true, false, cond, ◌↔◌, ℕ}
use Rattle.std.proofs.Common.{lit<}
use Rattle.exact.specs.Fraction.{Fraction, Positive, ◌⊗◌, ◌÷◌, fraction, whole, plain}
use Rattle.exact.specs.Rounding.{Span, Records, recorded, span, half_up}
use Rattle.exact.specs.Behind.{scale_meets, product_meets, ratio_meets}
use Rattle.formulas.specs.Hour.{tenth, flow_unit, unit_of, figure_of, Monitored, So2Reading, concentration, heat_input, Unrounded, set_of}
use Rattle.formulas.specs.declared.Form.{Form}
use Rattle.formulas.specs.declared.Form.TheVariants.{Product, Quotient}
use Rattle.formulas.specs.declared.hour.Readings.{Readings}
use Rattle.formulas.specs.declared.hour.Figures.{Figures}
use Rattle.formulas.specs.declared.hour.Hour.{Hour}
use Rattle.formulas.specs.declared.hour.Quantity.{Quantity}
use Rattle.formulas.specs.declared.hour.Quantity.TheVariants.{Heat, So2, Nox, Co2}

-- a recorded reading: so many units
pub record UnitCount : Type 0 where
  pub unit : Positive
  pub count : ℕ

abbrev tenths : ℕ → UnitCount
tenths n = record { unit = tenth; count = n }

abbrev thousands : ℕ → UnitCount
thousands n = record { unit = flow_unit; count = n }

-- factor × left × right, or factor × left / right: the left reading is a concentration, the right one the flow or the diluent
pub record Equation : Type 0 where
  pub form : Form
  pub factor : Fraction
  pub left : UnitCount
  pub right : UnitCount

-- Fc, exact as recorded
abbrev carbon_factor : Readings → Fraction
carbon_factor r = recorded tenth r.fc

-- F-15: CO2 × flow / (100 × Fc). F-1: 1.660 × 10^-7 × SO2 × flow.
-- F-6: 1.194 × 10^-7 × NOx × Fc × 100 / CO2. F-11: 5.7 × 10^-7 × CO2 × flow.
abbrev pub equation_of : Quantity → Readings → Equation
equation_of Heat r = record {
  form = Product;
  factor = whole 1 ÷ (whole 100 ⊗ carbon_factor r);
  left = tenths r.co2;
  right = thousands r.flow;
}
equation_of So2 r = record {
  form = Product;
  factor = fraction 166 1_000_000_000 (lit< tt);
  left = tenths r.so2;
  right = thousands r.flow;
}
equation_of Nox r = record {
  form = Quotient;
  factor = fraction 1194 10_000_000_000 (lit< tt) ⊗ carbon_factor r ⊗ whole 100;
  left = tenths r.nox;
  right = tenths r.co2;
}
equation_of Co2 r = record {
  form = Product;
  factor = fraction 57 100_000_000 (lit< tt);
  left = tenths r.co2;
  right = thousands r.flow;
}

-- SO2 of a gas hour: 0.0006 lb/mmBtu × heat, the default for pipeline natural gas (source document 004)
abbrev pub gas_factor : Positive
gas_factor = record { num = 6; den = 10_000; above = lit< tt; pos = lit< tt }

-- two unrounded readings, for the two of an equation
pub record Pair : Type 0 where
  pub left : Fraction
  pub right : Fraction

-- what an SO2 figure is worked out from: two readings of monitors or, in a gas hour, a heat
pub data So2Entry : Type 0 where
  monitored : Pair → So2Entry
  from_heat : Fraction → So2Entry

-- what a quantity's figure is worked out from
abbrev pub Entry : Quantity → Type 0
Entry Heat = Pair
Entry So2 = So2Entry
Entry Nox = Pair
Entry Co2 = Pair

abbrev so2_entry : So2Reading → (flow : Fraction) → So2Entry
so2_entry (concentration x) flow = monitored (record { left = x; right = flow })
so2_entry (heat_input x) flow = from_heat x

-- those of a set that a quantity's figure uses
abbrev pub entry_of : (q : Quantity) → Unrounded → Entry q
entry_of Heat u = record { left = u.co2; right = u.flow }
entry_of So2 u = so2_entry u.so2 u.flow
entry_of Nox u = record { left = u.nox; right = u.co2 }
entry_of Co2 u = record { left = u.co2; right = u.flow }

abbrev pub form_value : Form → (factor left right : Fraction) → Fraction
form_value Product c x y = c ⊗ (x ⊗ y)
form_value Quotient c x z = (c ⊗ x) ÷ z

-- an equation's exact value at unrounded readings
abbrev pub equation_value : Equation → Pair → Fraction
equation_value e p = form_value e.form e.factor p.left p.right

-- a figure's exact value
abbrev pub exact_value : (q : Quantity) → Readings → Entry q → Fraction
exact_value Heat r p = equation_value (equation_of Heat r) p
exact_value So2 r (monitored p) = equation_value (equation_of So2 r) p
exact_value So2 r (from_heat x) = plain gas_factor ⊗ x
exact_value Nox r p = equation_value (equation_of Nox r) p
exact_value Co2 r p = equation_value (equation_of Co2 r) p

-- unrounded readings round to an equation's recorded ones
pub record PairRounds (e : Equation) (p : Pair) : Type 0 where
  pub left : Records e.left.unit p.left e.left.count
  pub right : Records e.right.unit p.right e.right.count

-- unrounded readings round to an hour's recorded ones; for SO2 of a gas hour, and of no other, a heat records as the hour's heat
abbrev pub RoundsTo : (q : Quantity) → Hour → Entry q → Type 0
RoundsTo Heat h p = PairRounds (equation_of Heat h.readings) p
RoundsTo So2 h (monitored p) = (h.gas ≡ false) × PairRounds (equation_of So2 h.readings) p
RoundsTo So2 h (from_heat x) = (h.gas ≡ true) × Records tenth x h.figures.heat
RoundsTo Nox h p = PairRounds (equation_of Nox h.readings) p
RoundsTo Co2 h p = PairRounds (equation_of Co2 h.readings) p

-- "lies behind" (the paper): unrounded readings round to the recorded ones, and their formula value rounds to the figure
pub record LiesBehind (q : Quantity) (h : Hour) (e : Entry q) : Type 0 where
  pub reads : RoundsTo q h e
  pub gives : Records (unit_of q) (exact_value q h.readings e) (figure_of q h.figures)

abbrev pub span_of : UnitCount → Span
span_of m = span m.unit m.count

-- the values that a form takes over two spans meet a third
abbrev pub form_meets : Form → (num den : ℕ) → Span → Span → Span → Bool
form_meets Product num den s t r = product_meets num den s t r
form_meets Quotient num den s t r = ratio_meets num den s t r

abbrev pub equation_meets : Equation → Span → Bool
equation_meets e r = form_meets e.form e.factor.num e.factor.den (span_of e.left) (span_of e.right) r

-- the values that the equation takes over the readings' spans meet the figure's span
abbrev pub readings_meet : Quantity → Hour → Bool
readings_meet q h = equation_meets (equation_of q h.readings) (span (unit_of q) (figure_of q h.figures))

-- the values that the gas factor takes over the heat's span meet the SO2 figure's span
abbrev pub gas_meets : Figures → Bool
gas_meets f = scale_meets gas_factor.num gas_factor.den (span tenth f.heat) (span tenth f.so2)

-- SO2 of a gas hour is judged by its heat
abbrev pub by_heat : Quantity → Hour → Bool
by_heat Heat h = false
by_heat So2 h = h.gas
by_heat Nox h = false
by_heat Co2 h = false

-- the test of a figure
unfoldable pub passes_test : Quantity → Hour → Bool
passes_test q h = cond (by_heat q h) (gas_meets h.figures) (readings_meet q h)

-- a verdict on a figure: the test's, and right
pub record Judges (q : Quantity) (h : Hour) (verdict : Bool) : Type 0 where
  pub test : verdict ≡ passes_test q h
  pub exact : (verdict ≡ true) ↔ ((e : Entry q) × LiesBehind q h e)

-- an equation's recorded readings, read as exact
abbrev pub recorded_pair : Equation → Pair
recorded_pair e = record { left = recorded e.left.unit e.left.count; right = recorded e.right.unit e.right.count }

-- what the writer writes: the formula of the recorded readings, rounded half up
unfoldable pub rounded_value : Quantity → Readings → ℕ
rounded_value q r = half_up (unit_of q) (equation_value (equation_of q r) (recorded_pair (equation_of q r)))

-- a figure for each quantity
abbrev pub figures_by : (Quantity → ℕ) → Figures
figures_by figure = record { heat = figure Heat; so2 = figure So2; nox = figure Nox; co2 = figure Co2 }

unfoldable pub rounded_figures : Readings → Figures
rounded_figures r = figures_by (λ q. rounded_value q r)

-- what a recorder that multiplies before it rounds records of unrounded readings: each of them rounded, beside Fc, and the formulas of the
-- unrounded readings, rounded

-- a figure's exact value at unrounded readings, rounded half up
abbrev pub rounded_at : (q : Quantity) → Readings → Entry q → ℕ
rounded_at q r e = half_up (unit_of q) (exact_value q r e)

abbrev pub readings_from : Monitored → (fc : ℕ) → Readings
readings_from u fc = record {
  so2 = half_up tenth u.so2;
  nox = half_up tenth u.nox;
  co2 = half_up tenth u.co2;
  flow = half_up flow_unit u.flow;
  fc = fc;
}

abbrev pub figure_from : Quantity → Monitored → (fc : ℕ) → ℕ
figure_from q u fc = rounded_at q (readings_from u fc) (entry_of q (set_of u))

abbrev pub figures_from : Monitored → (fc : ℕ) → Figures
figures_from u fc = figures_by (λ q. figure_from q u fc)

-- the hour as it is then recorded, of so many hundredths
abbrev pub hour_from : Monitored → (fc time : ℕ) → Hour
hour_from u fc time = record { time = time; gas = false; readings = readings_from u fc; figures = figures_from u fc }
