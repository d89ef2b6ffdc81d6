-- Sums of rates over part of an hour each, and plain means: exact, and formed from what was recorded.
-- Definitions only; SumLaws.antt says how far the one lies from the other.
use Rattle.std.specs.Prelude.{List, [], ◌∷◌, ℕ, ◌+◌, ◌*◌, ◌≤◌, ◌<◌}
use Rattle.std.proofs.Common.{mul-pos, lit<}
use Rattle.exact.specs.Fraction.{Fraction, Positive, ◌⊗◌, fraction}
use Rattle.exact.specs.Rounding.{Records}

unfoldable pub total_of : {A : Type 0} → (A → ℕ) → List A → ℕ
total_of m [] = 0
total_of m (a ∷ l) = m a + total_of m l

-- one rate: its exact value, its record in units of u, and the time that it holds for, in hundredths of an hour
pub record Rate (u : Positive) : Type 0 where
  pub value : Fraction
  pub figure : ℕ
  pub time : ℕ
  pub records : Records u value figure
  pub short : time ≤ 100

-- rate × time, exact
abbrev pub amount : {u : Positive} → Rate u → Fraction
amount h = h.value ⊗ fraction h.time 100 (lit< tt)

-- rate × time, recorded, in hundredths of a unit
abbrev pub recorded_amount : {u : Positive} → Rate u → ℕ
recorded_amount h = h.figure * h.time

abbrev pub hundred_pos : (u : Positive) → 0 < 100 * u.den
hundred_pos u = mul-pos {m = 100} (lit< tt) u.pos

-- n hundredths of a unit
abbrev pub hundredths : Positive → ℕ → Fraction
hundredths u n = fraction (n * u.num) (100 * u.den) (hundred_pos u)
