-- An equation in recorded units serves its quantity; what a match on its form tells; how large a figure is.
use mathlib.Core.Path.{◌≡◌, sym, subst, ap, ◌∙◌}
use mathlib.Core.Bool.{Bool, true, false}
use Prim.Native.Nat.{ℕ, ◌*◌, ◌^◌, ◌≤◌, ◌<◌}
use native.Mathlib.Nat.{mul-le-mul}
use native.Mathlib.Omega.{arith}
use Rattle.exact.specs.Rounding.{span}
use Rattle.formulas.specs.Hour.{unit_of, figure_of, ReadingsWithin, FiguresWithin, HourWithin}
use Rattle.formulas.specs.Formulas.{equation_of, equation_meets, readings_meet, gas_meets, by_heat, passes_test, Judges, rounded_value}
use Rattle.formulas.specs.Reduced.{FormulaRoom, Serves, Reduces, formula_meets, formula_rounded}
use Rattle.formulas.proofs.FormulaLaws.{equation_sound, test_exact}
use Rattle.formulas.proofs.ReducedLaws.{reduced_meets, reduced_value}
use Rattle.formulas.specs.declared.hour.Hour.{Hour}
use Rattle.formulas.specs.declared.Form.{Form}
use Rattle.formulas.specs.declared.Formula.{Formula}
use Rattle.formulas.specs.declared.hour.Readings.{Readings}
use Rattle.formulas.specs.declared.hour.Figures.{Figures}
use Rattle.formulas.specs.declared.hour.Quantity.{Quantity}
use Rattle.formulas.specs.declared.hour.Quantity.TheVariants.{Heat, So2, Nox, Co2}

pub told : {f : Formula} {q p : Quantity} (r : Readings) → q ≡ p → Serves f p r → Serves f q r
told {f} r e s = subst (λ k. Serves f k r) (sym e) s

-- the form of a formula, told by a match on it
pub room_of : (f : Formula) {k : Form} → FormulaRoom f.form f → f.form ≡ k → FormulaRoom k f
room_of f w e = subst (λ k. FormulaRoom k f) e w

-- no figure has more than six digits
pub figure_most : (q : Quantity) (f : Figures) → FiguresWithin f → figure_of q f ≤ 999_999
figure_most Heat f w = omega arith
figure_most So2 f w = omega arith
figure_most Nox f w = omega arith
figure_most Co2 f w = omega arith

-- the ends of a figure times those of a divisor
pub divisor_ends : (v z n m : ℕ) → v ≤ 1_999_999 → z ≤ 2001 → n ≤ 1_000_000 → m ≡ z * n → v * m < 2 ^ 64
divisor_ends v z n m a b c e = rw e (omega (arith, mul-le-mul a (mul-le-mul b c)))

-- the equation's numbers give its test and its rounded value
pub meets_readings : (q : Quantity) (h : Hour) (f : Formula) (k : Form) (v : ℕ) → Reduces f (equation_of q h.readings) (unit_of q) → f.form ≡ k →
    v ≡ figure_of q h.figures → formula_meets k f v ≡ readings_meet q h
meets_readings q h f k v r e g =
    ap (λ (n : Form). formula_meets n f v) (sym e ∙ r.form)
    ∙ reduced_meets f (equation_of q h.readings) (unit_of q) r v
    ∙ ap (λ (n : ℕ). equation_meets (equation_of q h.readings) (span (unit_of q) n)) g

pub rounds : (q : Quantity) (r : Readings) (f : Formula) (k : Form) → ReadingsWithin r → Reduces f (equation_of q r) (unit_of q) → f.form ≡ k →
    formula_rounded k f ≡ rounded_value q r
unfolding rounded_value
rounds q r f k w d e =
    ap (λ (n : Form). formula_rounded n f) (sym e ∙ d.form)
    ∙ reduced_value f (equation_of q r) (unit_of q) d (equation_sound q r w).right

-- which test a figure is put to, and that it is exact
pub heat_tested : (q : Quantity) (h : Hour) → by_heat q h ≡ true → gas_meets h.figures ≡ passes_test q h
unfolding passes_test
heat_tested q h e = rw e

pub equation_tested : (q : Quantity) (h : Hour) → by_heat q h ≡ false → readings_meet q h ≡ passes_test q h
unfolding passes_test
equation_tested q h e = rw e

pub judges : (q : Quantity) (h : Hour) {verdict : Bool} → HourWithin h → verdict ≡ passes_test q h → Judges q h verdict
judges q h w e = record { test = e; exact = rw e (test_exact q h w.readings) }
