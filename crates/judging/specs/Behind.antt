-- What lies behind hours, what they exactly come to, and how far that may lie from what is reported.
use Rattle.std.specs.Prelude.{ℕ, List, [], ◌∷◌, length}
use Rattle.std.proofs.Common.{lit<}
use Rattle.exact.specs.Fraction.{Fraction, ◌⊕◌, ◌⊗◌, ◌÷◌, fraction, whole}
use Rattle.exact.specs.Rounding.{recorded}
use Rattle.formulas.specs.Hour.{tenth, thousandth, Unrounded}
use Rattle.formulas.specs.Formulas.{Entry, entry_of, exact_value, LiesBehind}
use Rattle.totals.specs.Totals.{pounds_per_ton}
use Rattle.formulas.specs.declared.hour.Hour.{Hour}
use Rattle.formulas.specs.declared.hour.Quantity.{Quantity}
use Rattle.formulas.specs.declared.hour.Quantity.TheVariants.{Heat, So2, Nox, Co2}
use Rattle.totals.specs.declared.Quarter.{Quarter}

-- a list lies behind a quantity's hourly figures: one pair of readings, or a gas hour's heat, for each hour, in order, each behind
-- its hour's figure
abbrev pub LieBehind : (q : Quantity) → List Hour → List (Entry q) → Type 0
LieBehind q [] [] = Unit {0}
LieBehind q [] (e ∷ es) = ⊥
LieBehind q (h ∷ hs) [] = ⊥
LieBehind q (h ∷ hs) (e ∷ es) = LiesBehind q h e × LieBehind q hs es

-- one set for each hour, in order, each behind all four figures of its hour
abbrev pub SetsBehind : List Hour → List Unrounded → Type 0
SetsBehind [] [] = Unit {0}
SetsBehind [] (s ∷ ss) = ⊥
SetsBehind (h ∷ hs) [] = ⊥
SetsBehind (h ∷ hs) (s ∷ ss) = ((q : Quantity) → LiesBehind q h (entry_of q s)) × SetsBehind hs ss

-- The exact amount: rate × time summed, for SO2 over 2,000; for NOx the plain mean of the rates. 0 for no hour.
abbrev pub exact_share : (q : Quantity) → Hour → Entry q → Fraction
exact_share Nox h e = exact_value Nox h.readings e
exact_share Heat h e = exact_value Heat h.readings e ⊗ fraction h.time 100 (lit< tt)
exact_share So2 h e = exact_value So2 h.readings e ⊗ fraction h.time 100 (lit< tt)
exact_share Co2 h e = exact_value Co2 h.readings e ⊗ fraction h.time 100 (lit< tt)

unfoldable pub exact_sum : (q : Quantity) → List Hour → List (Entry q) → Fraction
exact_sum q [] es = whole 0
exact_sum q (h ∷ hs) [] = whole 0
exact_sum q (h ∷ hs) (e ∷ es) = exact_share q h e ⊕ exact_sum q hs es

abbrev pub divisor_of : Quantity → ℕ → ℕ
divisor_of Heat n = 1
divisor_of So2 n = pounds_per_ton
divisor_of Nox n = n
divisor_of Co2 n = 1

abbrev pub exact_amount : (q : Quantity) → List Hour → List (Entry q) → Fraction
exact_amount q hs es = exact_sum q hs es ÷ whole (divisor_of q (length hs))

-- the reported amount, and how far the exact one may lie from it
abbrev pub reported : Quantity → Quarter → Fraction
reported Heat r = recorded tenth r.heat
reported So2 r = recorded tenth r.so2
reported Nox r = recorded thousandth r.nox
reported Co2 r = recorded tenth r.co2

abbrev pub allowed : Quantity → ℕ → Fraction
allowed Heat n = fraction 1 20 (lit< tt) ⊕ fraction n 20 (lit< tt)
allowed So2 n = fraction 1 20 (lit< tt) ⊕ fraction n 40_000 (lit< tt)
allowed Nox n = fraction 1 1000 (lit< tt)
allowed Co2 n = fraction 1 20 (lit< tt) ⊕ fraction n 20 (lit< tt)
