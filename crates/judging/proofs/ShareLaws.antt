-- What an hour's half tenth and the total's own come to, as the bounds say it.
use Rattle.std.specs.Prelude.{ℕ}
use Rattle.std.proofs.Common.{arith, lit<}
use Rattle.exact.specs.Fraction.{◌≤ᶠ◌, ◌⊕◌, ◌÷◌, over, fraction, whole}
use Rattle.exact.specs.Rounding.{half, halves}
use Rattle.formulas.specs.Hour.{tenth}
use Rattle.totals.specs.Totals.{pounds_per_ton}

-- n half tenths over 2,000 and over 1, and the total's own half tenth
pub ton_share : (n : ℕ) → ((halves tenth n ÷ whole pounds_per_ton) ⊕ half tenth) ≤ᶠ (fraction 1 20 (lit< tt) ⊕ fraction n 40_000 (lit< tt))
unfolding over
ton_share n = omega arith

pub plain_share : (n : ℕ) → ((halves tenth n ÷ whole 1) ⊕ half tenth) ≤ᶠ (fraction 1 20 (lit< tt) ⊕ fraction n 20 (lit< tt))
unfolding over
plain_share n = omega arith
