-- The code's numbers give the definitions' test and rounded value: once for a product, once for a quotient; and the test of a gas hour's SO2.
use Rattle.std.specs.Prelude.{◌≡◌, ℕ, ◌*◌, ◌<◌}
use Rattle.std.proofs.Common.{ap, sym, mul-pos, arith, lit<}
use Rattle.exact.specs.Fraction.{Positive, Fraction, ◌⊗◌}
use Rattle.exact.proofs.FractionLaws.{quotient}
use Rattle.exact.specs.Rounding.{span, recorded, low_end, high_end, half_up}
use Rattle.exact.proofs.RoundingLaws.{nearest_reduced}
use Rattle.exact.specs.Behind.{meets}
use Rattle.exact.proofs.MeetsLaws.{meets_reduced}
use Rattle.formulas.specs.Formulas.{UnitCount, Equation, form_value, equation_value, recorded_pair, span_of, form_meets, equation_meets, gas_meets}
use Rattle.formulas.proofs.FormulaLaws.{Divides}
use Rattle.formulas.specs.Reduced.{upper_unit, lower_unit, Reduces, formula_meets, formula_rounded}
use Rattle.formulas.specs.declared.Form.{Form}
use Rattle.formulas.specs.declared.Form.TheVariants.{Product, Quotient}
use Rattle.formulas.specs.declared.Formula.{Formula}
use Rattle.formulas.specs.declared.hour.Figures.{Figures}

-- c · x · y over the units
product_upper : (m n c p q d x y : ℕ) → m * n ≡ c * p * q * d → 2 * m * (n * (x * y)) ≡ c * (x * p * (y * q)) * (2 * d)
product_upper m n c p q d x y e = omega (arith, ap (λ (t : ℕ). t * (x * y)) e)

product_lower : (m n c p q d v : ℕ) → m * n ≡ c * p * q * d → 2 * m * (v * (2 * n)) ≡ v * d * (c * (2 * p * (2 * q)))
product_lower m n c p q d v e = omega (arith, ap (λ (t : ℕ). t * v) e)

product_rounded : (m n c p q d x y : ℕ) → m * n ≡ c * p * q * d → m * (n * (x * y)) ≡ c * (x * p * (y * q)) * d
product_rounded m n c p q d x y e = omega (arith, ap (λ (t : ℕ). t * (x * y)) e)

-- c · x / z over the units
quotient_upper : (m n c p q d x : ℕ) → m * n ≡ c * p * q * d → 2 * m * (x * (2 * n)) ≡ c * (x * p) * (2 * q) * (2 * d)
quotient_upper m n c p q d x e = omega (arith, ap (λ (t : ℕ). t * x) e)

quotient_lower : (m n c p q d z v : ℕ) → m * n ≡ c * p * q * d → 2 * m * (v * (n * z)) ≡ v * d * (c * (2 * p) * (z * q))
quotient_lower m n c p q d z v e = omega (arith, ap (λ (t : ℕ). t * (v * z)) e)

quotient_rounded : (m n c p q d x : ℕ) → m * n ≡ c * p * q * d → m * (x * n) ≡ c * (x * p) * q * d
quotient_rounded m n c p q d x e = omega (arith, ap (λ (t : ℕ). t * x) e)

divisor_rounded : (m n c p q d z : ℕ) → m * n ≡ c * p * q * d → m * (n * z) ≡ d * (c * p * (z * q))
divisor_rounded m n c p q d z e = omega (arith, ap (λ (t : ℕ). t * z) e)

above_zero : (k : ℕ) → 0 < low_end k → 0 < k
above_zero k h = omega arith

meets_form : (k : Form) (f : Formula) (c : Fraction) (x y : UnitCount) (u : Positive) (m v : ℕ) → 0 < m →
    m * f.num ≡ c.num * x.unit.num * upper_unit k y.unit * u.den →
    m * f.den ≡ c.den * x.unit.den * lower_unit k y.unit * u.num →
    f.left ≡ x.count → f.right ≡ y.count →
    formula_meets k f v ≡ form_meets k c.num c.den (span_of x) (span_of y) (span u v)
meets_form Product f c x y u m v h p q l r =
    rw (sym l, sym r)
    (meets_reduced (2 * m) _ _ _ _ (omega arith)
    (product_upper m f.num c.num _ _ u.den (low_end f.left) (low_end f.right) p)
    (product_upper m f.num c.num _ _ u.den (high_end f.left) (high_end f.right) p)
    (product_lower m f.den c.den _ _ u.num (low_end v) q)
    (product_lower m f.den c.den _ _ u.num (high_end v) q))
meets_form Quotient f c x y u m v h p q l r =
    rw (sym l, sym r)
    (meets_reduced (2 * m) _ _ _ _ (omega arith)
    (quotient_upper m f.num c.num _ _ u.den (low_end f.left) p)
    (quotient_upper m f.num c.num _ _ u.den (high_end f.left) p)
    (quotient_lower m f.den c.den _ _ u.num (low_end f.right) (low_end v) q)
    (quotient_lower m f.den c.den _ _ u.num (high_end f.right) (high_end v) q))

pub reduced_meets : (f : Formula) (e : Equation) (u : Positive) → Reduces f e u → (v : ℕ) → formula_meets e.form f v ≡ equation_meets e (span u v)
reduced_meets f e u r v =
    meets_form e.form f e.factor e.left e.right u r.common v r.above r.upper r.lower r.left r.right

-- 6 × 20 against 10,000 × 20, reduced by 40
pub reduced_gas : (f : Figures) → meets (3 * low_end f.heat) (3 * high_end f.heat) (5000 * low_end f.so2) (5000 * high_end f.so2) ≡ gas_meets f
reduced_gas f = meets_reduced 40 _ _ _ _ (lit< tt) (omega arith) (omega arith) (omega arith) (omega arith)

rounded_form : (k : Form) (f : Formula) (c : Fraction) (x y : UnitCount) (u : Positive) (m : ℕ) → 0 < m →
    m * f.num ≡ c.num * x.unit.num * upper_unit k y.unit * u.den →
    m * f.den ≡ c.den * x.unit.den * lower_unit k y.unit * u.num →
    f.left ≡ x.count → f.right ≡ y.count → Divides k y.count →
    formula_rounded k f ≡ half_up u (form_value k c (recorded x.unit x.count) (recorded y.unit y.count))
rounded_form Product f c x y u m h p q l r d =
    rw (sym l, sym r)
    (nearest_reduced m _ _ _ _ h
    (product_rounded m f.num c.num _ _ u.den f.left f.right p)
    (omega (arith, q)))
rounded_form Quotient f c x y u m h p q l r d =
    let v = quotient (c ⊗ recorded x.unit x.count) (y.count * y.unit.num) y.unit.den (mul-pos (above_zero y.count d) y.unit.above) in
    rw (v.upper, v.lower, sym l, sym r)
    (nearest_reduced m _ _ _ _ h
    (quotient_rounded m f.num c.num _ _ u.den f.left p)
    (divisor_rounded m f.den c.den _ _ u.num f.right q))

pub reduced_value : (f : Formula) (e : Equation) (u : Positive) → Reduces f e u → Divides e.form e.right.count →
    formula_rounded e.form f ≡ half_up u (equation_value e (recorded_pair e))
reduced_value f e u r d =
    rounded_form e.form f e.factor e.left e.right u r.common r.above r.upper r.lower r.left r.right d
