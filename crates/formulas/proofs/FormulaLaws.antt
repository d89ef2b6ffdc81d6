-- The test of a figure is exact: it passes where some unrounded readings lie behind the figure, and nowhere else.
-- What the writer writes passes: the recorded readings themselves lie behind it.
use Rattle.std.specs.Prelude.{◌≡◌, refl, Bool, true, false, cond, ◌↔◌, ℕ, ◌*◌, ◌<◌}
use Rattle.std.proofs.Common.{sym, ap, ◌∙◌, true≢false, mul-pos, arith, lit<}
use Rattle.std.proofs.lemmas.Bool.{false≢true}
use Rattle.std.proofs.Math.Logic.Iff
use Rattle.exact.specs.Fraction.{Fraction, Positive, ◌⊗◌, plain, whole}
use Rattle.exact.proofs.FractionLaws.{quotient}
use Rattle.exact.specs.Rounding.{Span, In, Records, recorded, span, low_end}
use Rattle.exact.proofs.RoundingLaws.{records_half_up, records_recorded, records_rounded}
use Rattle.exact.proofs.ScaleLaw.{scale_law}
use Rattle.exact.proofs.ProductLaw.{product_law}
use Rattle.exact.proofs.QuotientLaw.{recorded_divisors, quotient_law}
use Rattle.layout.specs.Values.{Within, flow_scfh, thousands_of}
use Rattle.formulas.specs.Hour.{tenth, thousandth, flow_unit, unit_of, figure_of, ReadingsWithin, Monitored, set_of, as_recorded}
use Rattle.formulas.specs.Formulas.{UnitCount, Equation, equation_of, gas_factor, Pair, monitored, from_heat, Entry, entry_of, equation_value}
use Rattle.formulas.specs.Formulas.{exact_value, PairRounds, RoundsTo, LiesBehind, span_of, equation_meets, readings_meet, gas_meets, passes_test}
use Rattle.formulas.specs.Formulas.{recorded_pair, rounded_at, rounded_value, figures_by, rounded_figures, figure_from, hour_from}
use Rattle.formulas.specs.declared.Form.{Form}
use Rattle.formulas.specs.declared.Form.TheVariants.{Product, Quotient}
use Rattle.formulas.specs.declared.hour.Readings.{Readings}
use Rattle.formulas.specs.declared.hour.Figures.{Figures}
use Rattle.formulas.specs.declared.hour.Hour.{Hour}
use Rattle.formulas.specs.declared.hour.Quantity.{Quantity}
use Rattle.formulas.specs.declared.hour.Quantity.TheVariants.{Heat, So2, Nox, Co2}

-- a divisor's span lies above 0
abbrev pub Divides : Form → ℕ → Type 0
Divides Product k = Unit {0}
Divides Quotient k = 0 < low_end k

-- nothing in an equation is 0 that must not be: its factor, and what divides
pub record Sound (e : Equation) : Type 0 where
  pub factor : 0 < e.factor.num
  pub right : Divides e.form e.right.count

-- 1 / (100 × Fc)
pub heat_factor : (r : Readings) → ReadingsWithin r → ((equation_of Heat r).factor.num ≡ 10) × ((equation_of Heat r).factor.den ≡ 100 * r.fc)
heat_factor r w =
    let v = quotient (whole 1) (100 * (r.fc * 1)) (1 * 10) (omega arith) in
    (rw v.upper (omega arith), rw v.lower (omega arith))

pub equation_sound : (q : Quantity) (r : Readings) → ReadingsWithin r → Sound (equation_of q r)
equation_sound Heat r w = record { factor = rw (heat_factor r w).0 (lit< tt); right = tt }
equation_sound So2 r w = record { factor = lit< tt; right = tt }
equation_sound Nox r w = record { factor = omega arith; right = omega arith }
equation_sound Co2 r w = record { factor = lit< tt; right = tt }

-- the test of an equation against any span is exact: once for a product, once for a quotient
abbrev Exact : Equation → Span → Type 0
Exact e r = (equation_meets e r ≡ true) ↔ ((p : Pair) × PairRounds e p × In r (equation_value e p))

abbrev equation : Form → Positive → UnitCount → UnitCount → Equation
equation f c x y = record { form = f; factor = plain c; left = x; right = y }

exact_form : (f : Form) (c : Positive) (x y : UnitCount) → Divides f y.count → (r : Span) → Exact (equation f c x y) r
exact_form Product c x y d r =
    Iff.trans (product_law c (span_of x) (span_of y) r) (
      λ b. (record { left = b.left; right = b.right }, record { left = b.left_in; right = b.right_in }, b.value_in),
      λ p.
          record {
            left = p.0.left;
            right = p.0.right;
            left_in = p.1.left;
            right_in = p.1.right;
            value_in = p.2;
          },
    )
exact_form Quotient c x y d r =
    Iff.trans (quotient_law c (span_of x) (span_of y) (mul-pos d y.unit.above) (In (span_of y)) (recorded_divisors (span_of y)) r) (
      λ b. (record { left = b.left; right = b.right }, record { left = b.left_in; right = b.right_in }, b.value_in),
      λ p.
          record {
            left = p.0.left;
            right = p.0.right;
            left_in = p.1.left;
            right_in = p.1.right;
            value_in = p.2;
          },
    )

-- readings behind a figure by a quantity's equation
readings_exact : (q : Quantity) (r : Readings) → ReadingsWithin r → (s : Span) → Exact (equation_of q r) s
readings_exact q r w s =
    let e = equation_of q r in
    let k = equation_sound q r w in
    let c : Positive = record { num = e.factor.num; den = e.factor.den; above = k.factor; pos = e.factor.pos } in
    exact_form e.form c e.left e.right k.right s

-- a heat behind a gas hour's SO2 figure
gas_exact : (f : Figures) → (gas_meets f ≡ true) ↔ ((x : Fraction) × Records tenth x f.heat × Records tenth (plain gas_factor ⊗ x) f.so2)
gas_exact f =
    Iff.trans (scale_law gas_factor (span tenth f.heat) (span tenth f.so2)) (
      λ b. (b.reading, b.reading_in, b.value_in),
      λ p. record { reading = p.0; reading_in = p.1; value_in = p.2 },
    )

-- what lies behind an hour's figure, part by part
abbrev Behind : (q : Quantity) → Hour → Type 0
Behind q h = (e : Entry q) × RoundsTo q h e × Records (unit_of q) (exact_value q h.readings e) (figure_of q h.figures)

so2_exact : (h : Hour) → ReadingsWithin h.readings → (g : Bool) → h.gas ≡ g →
    (cond g (gas_meets h.figures) (readings_meet So2 h) ≡ true) ↔ Behind So2 h
so2_exact h w true g = Iff.trans (gas_exact h.figures) (λ p. (from_heat p.0, (g, p.1), p.2), heat)
  where
    heat : Behind So2 h → (x : Fraction) × Records tenth x h.figures.heat × Records tenth (plain gas_factor ⊗ x) h.figures.so2
    heat (monitored p, reads, gives) = absurd (true≢false (sym g ∙ reads.0))
    heat (from_heat x, reads, gives) = (x, reads.1, gives)
so2_exact h w false g = Iff.trans (readings_exact So2 h.readings w (span tenth h.figures.so2)) (λ p. (monitored p.0, (g, p.1), p.2), pair)
  where
    pair : Behind So2 h → (p : Pair) × PairRounds (equation_of So2 h.readings) p
        × Records tenth (equation_value (equation_of So2 h.readings) p) h.figures.so2
    pair (monitored p, reads, gives) = (p, reads.1, gives)
    pair (from_heat x, reads, gives) = absurd (false≢true (sym g ∙ reads.0))

parts_exact : (q : Quantity) (h : Hour) → ReadingsWithin h.readings → (passes_test q h ≡ true) ↔ Behind q h
unfolding passes_test
parts_exact Heat h w = readings_exact Heat h.readings w (span tenth h.figures.heat)
parts_exact So2 h w = so2_exact h w h.gas refl
parts_exact Nox h w = readings_exact Nox h.readings w (span thousandth h.figures.nox)
parts_exact Co2 h w = readings_exact Co2 h.readings w (span tenth h.figures.co2)

pub test_exact : (q : Quantity) (h : Hour) → ReadingsWithin h.readings → (passes_test q h ≡ true) ↔ ((e : Entry q) × LiesBehind q h e)
test_exact q h w =
    Iff.trans (parts_exact q h w) (
      λ p. (p.0, record { reads = p.1; gives = p.2 }),
      λ p. (p.0, p.1.reads, p.1.gives),
    )

-- the recorded flow, read as exact, is the number of scfh in its columns
pub flow_exact : (scfh : ℕ) → Within flow_scfh scfh → recorded flow_unit (thousands_of scfh) ≡ whole scfh
flow_exact scfh w = let e : thousands_of scfh * flow_unit.num ≡ scfh = omega arith in ap whole e

-- the recorded readings round to themselves

pair_rounds : (e : Equation) → PairRounds e (recorded_pair e)
pair_rounds e = record {
  left = records_recorded e.left.unit e.left.count;
  right = records_recorded e.right.unit e.right.count;
}

recorded_rounds : (q : Quantity) (h : Hour) → h.gas ≡ false → RoundsTo q h (entry_of q (set_of (as_recorded h.readings)))
recorded_rounds Heat h g = pair_rounds (equation_of Heat h.readings)
recorded_rounds So2 h g = (g, pair_rounds (equation_of So2 h.readings))
recorded_rounds Nox h g = pair_rounds (equation_of Nox h.readings)
recorded_rounds Co2 h g = pair_rounds (equation_of Co2 h.readings)

recorded_value : (q : Quantity) (r : Readings) → rounded_value q r ≡ rounded_at q r (entry_of q (set_of (as_recorded r)))
unfolding rounded_value
recorded_value Heat r = refl
recorded_value So2 r = refl
recorded_value Nox r = refl
recorded_value Co2 r = refl

-- a figure is written that the formula of the recorded readings is recorded as, and there is no other
pub written_records_lem : (q : Quantity) (r : Readings) (figure : ℕ) →
    Records (unit_of q) (exact_value q r (entry_of q (set_of (as_recorded r)))) figure ↔ (rounded_value q r ≡ figure)
written_records_lem q r figure = rw (recorded_value q r) (records_half_up (unit_of q) (exact_value q r (entry_of q (set_of (as_recorded r)))) figure)

figure_by : (q : Quantity) (figure : Quantity → ℕ) → figure_of q (figures_by figure) ≡ figure q
figure_by Heat figure = refl
figure_by So2 figure = refl
figure_by Nox figure = refl
figure_by Co2 figure = refl

-- readings that round to the recorded ones lie behind their own formula value, rounded
rounded_behind : (q : Quantity) (h : Hour) (e : Entry q) → RoundsTo q h e → figure_of q h.figures ≡ rounded_at q h.readings e → LiesBehind q h e
rounded_behind q h e reads same = record { reads = reads; gives = rw same (records_rounded (unit_of q) (exact_value q h.readings e)) }

-- behind the rounded formula values lie the recorded readings
pub written_behind : (q : Quantity) (h : Hour) → h.gas ≡ false → h.figures ≡ rounded_figures h.readings →
    LiesBehind q h (entry_of q (set_of (as_recorded h.readings)))
unfolding rounded_figures
written_behind q h g e =
    rounded_behind q h _ (recorded_rounds q h g)
    (ap (figure_of q) e ∙ figure_by q (λ q. rounded_value q h.readings) ∙ recorded_value q h.readings)

-- unrounded readings lie behind what a recorder records of them

rounds_from : (q : Quantity) (u : Monitored) (fc time : ℕ) → RoundsTo q (hour_from u fc time) (entry_of q (set_of u))
rounds_from Heat u fc time = record { left = records_rounded tenth u.co2; right = records_rounded flow_unit u.flow }
rounds_from So2 u fc time = (refl, record { left = records_rounded tenth u.so2; right = records_rounded flow_unit u.flow })
rounds_from Nox u fc time = record { left = records_rounded tenth u.nox; right = records_rounded tenth u.co2 }
rounds_from Co2 u fc time = record { left = records_rounded tenth u.co2; right = records_rounded flow_unit u.flow }

pub recorded_behind : (q : Quantity) (u : Monitored) (fc time : ℕ) → LiesBehind q (hour_from u fc time) (entry_of q (set_of u))
recorded_behind q u fc time = rounded_behind q (hour_from u fc time) _ (rounds_from q u fc time) (figure_by q (λ q. figure_from q u fc))
