-- An equation in whole numbers of recorded units, as the code has it: reduced by a common factor, and with room for its products.
use Rattle.std.specs.Prelude.{◌≡◌, Bool, ℕ, ◌*◌, ◌≤◌, ◌<◌}
use Rattle.exact.specs.Fraction.{Positive}
use Rattle.exact.specs.Rounding.{low_end, high_end, nearest}
use Rattle.exact.specs.Behind.{meets}
use Rattle.formulas.specs.Hour.{unit_of}
use Rattle.formulas.specs.Formulas.{Equation, equation_of}
use Rattle.formulas.specs.declared.Form.{Form}
use Rattle.formulas.specs.declared.Form.TheVariants.{Product, Quotient}
use Rattle.formulas.specs.declared.Formula.{Formula}
use Rattle.formulas.specs.declared.hour.Readings.{Readings}
use Rattle.formulas.specs.declared.hour.Quantity.{Quantity}

-- a unit in the product or under the quotient
abbrev pub upper_unit : Form → Positive → ℕ
upper_unit Product u = u.num
upper_unit Quotient u = u.den

abbrev pub lower_unit : Form → Positive → ℕ
lower_unit Product u = u.den
lower_unit Quotient u = u.num

-- the formula's num / den is the equation's factor times the readings' units over the figure's, reduced
pub record Reduces (f : Formula) (e : Equation) (unit : Positive) : Type 0 where
  pub form : f.form ≡ e.form
  pub left : f.left ≡ e.left.count
  pub right : f.right ≡ e.right.count
  pub common : ℕ
  pub above : 0 < common
  pub upper : common * f.num ≡ e.factor.num * e.left.unit.num * upper_unit e.form e.right.unit * unit.den
  pub lower : common * f.den ≡ e.factor.den * e.left.unit.den * lower_unit e.form e.right.unit * unit.num

-- the test and the rounded value in whole numbers
abbrev pub formula_meets : Form → Formula → ℕ → Bool
formula_meets Product f v =
    meets
    (f.num * (low_end f.left * low_end f.right))
    (f.num * (high_end f.left * high_end f.right))
    (low_end v * (2 * f.den))
    (high_end v * (2 * f.den))
formula_meets Quotient f v =
    meets
    (low_end f.left * (2 * f.num))
    (high_end f.left * (2 * f.num))
    (low_end v * (f.den * low_end f.right))
    (high_end v * (f.den * high_end f.right))

abbrev pub formula_rounded : Form → Formula → ℕ
formula_rounded Product f = nearest (f.num * (f.left * f.right)) f.den
formula_rounded Quotient f = nearest (f.left * f.num) (f.den * f.right)

-- the right reading's half units stay below 20,000,000
pub record ProductRoom (f : Formula) : Type 0 where
  pub num : f.num ≤ 1000
  pub den : (1 ≤ f.den) × (f.den ≤ 1_000_000_000)
  pub left : f.left ≤ 99_999
  pub right : f.right ≤ 9_999_999

pub record QuotientRoom (f : Formula) : Type 0 where
  pub num : f.num ≤ 40_000_000
  pub den : (1 ≤ f.den) × (f.den ≤ 1_000_000)
  pub left : f.left ≤ 99_999
  pub right : (1 ≤ f.right) × (f.right ≤ 1000)

abbrev pub FormulaRoom : Form → Formula → Type 0
FormulaRoom Product f = ProductRoom f
FormulaRoom Quotient f = QuotientRoom f

-- a formula is a quantity's equation at recorded readings
abbrev pub Serves : Formula → Quantity → Readings → Type 0
Serves f q r = Reduces f (equation_of q r) (unit_of q) × FormulaRoom f.form f
