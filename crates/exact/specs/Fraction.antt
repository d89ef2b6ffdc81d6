-- Fractions: a whole number over a whole number of at least 1. Order by cross-multiplication, sum, product, quotient.
-- Definitions only; FractionLaws.antt has what is proved of them.
use Rattle.std.specs.Prelude.{List, [], ◌∷◌, ℕ, zero, suc, ◌+◌, ◌*◌, ◌≤◌, ◌<◌}
use Rattle.std.proofs.Common.{mul-pos, arith, lit<}

pub record Fraction : Type 0 where
  pub num : ℕ
  pub den : ℕ
  pub pos : 0 < den

-- a fraction above 0: the unit of a record, or the factor of a formula
pub record Positive : Type 0 where
  pub num : ℕ
  pub den : ℕ
  pub above : 0 < num
  pub pos : 0 < den

infix 50 ◌≤ᶠ◌
infix 50 ◌<ᶠ◌
infixl 60 ◌⊕◌
infixl 70 ◌⊗◌
infixl 70 ◌÷◌
abbrev pub ◌≤ᶠ◌ : Fraction → Fraction → Type 0
x ≤ᶠ y = x.num * y.den ≤ y.num * x.den

abbrev pub ◌<ᶠ◌ : Fraction → Fraction → Type 0
x <ᶠ y = x.num * y.den < y.num * x.den

abbrev pub fraction : (num den : ℕ) → 0 < den → Fraction
fraction num den pos = record { num = num; den = den; pos = pos }

abbrev pub whole : ℕ → Fraction
whole n = fraction n 1 (lit< tt)

abbrev pub plain : Positive → Fraction
plain u = fraction u.num u.den u.pos

abbrev pub ◌⊕◌ : Fraction → Fraction → Fraction
x ⊕ y = fraction (x.num * y.den + y.num * x.den) (x.den * y.den) (mul-pos x.pos y.pos)

abbrev pub ◌⊗◌ : Fraction → Fraction → Fraction
x ⊗ y = fraction (x.num * y.num) (x.den * y.den) (mul-pos x.pos y.pos)

-- x over num / den, and 0 where num is 0
unfoldable pub over : Fraction → (num den : ℕ) → Fraction
over x zero den = whole 0
over x (suc num) den = fraction (x.num * den) (x.den * suc num) (mul-pos x.pos (omega arith))

-- 0 where the divisor is 0
abbrev pub ◌÷◌ : Fraction → Fraction → Fraction
x ÷ z = over x z.num z.den

unfoldable pub sum_of : {A : Type 0} → (A → Fraction) → List A → Fraction
sum_of x [] = whole 0
sum_of x (a ∷ l) = x a ⊕ sum_of x l

-- x and y lie at most d apart
pub record Near (x y d : Fraction) : Type 0 where
  pub over : x ≤ᶠ y ⊕ d
  pub under : y ≤ᶠ x ⊕ d
