-- Accepted quarters of one year, joined from its first on, are never refused: no quarter's total is over 2,208 × 999,999 tenths, and four such
-- come to 8,831,991,168; its NOx tons are not over 110,398,786 tenths.
use Rattle.std.specs.Prelude.{ℕ, suc, ◌+◌, ◌*◌, ◌≤◌, ◌<◌, ◌≡◌, refl, List, [], ◌∷◌, true, ◌||◌, not, eqb, length, Ok}
use Rattle.std.proofs.Common.{ap, ◌∙◌, arith}
use borrow.Author.Tests.{eq-eqb, ne_eqb, le-leb}
use Rattle.calendar.specs.Calendar.{most_hours}
use Rattle.layout.specs.Values.{quarter_digit}
use Rattle.layout.specs.LayoutLaws.{true_within}
use Rattle.totals.proofs.FitLaws.{most_total, most_nox_tons, QuarterMost}
use Rattle.totals.specs.declared.Quarter.{Quarter}
use Rattle.checker.proofs.PromiseLaws.{accepted_most}
use Rattle.annual.specs.Joined.{Joined, year_numbers, all_zeros, follows, year_limit, sums_fit, with_quarter, joined_of}
use Rattle.annual.proofs.JoinedLaws.{joined_record}
use Rattle.annual.specs.Year.{Part, none_of, and_then, joined_from, Consecutive}
use Rattle.annual.specs.declared.YearToDate.{YearToDate}

-- a year's record after k quarters
record After (year k : ℕ) (y : YearToDate) : Type 0 where
  same_year : y.year ≡ year
  last : y.quarter ≡ k
  zeros : not (eqb y.quarter 0) || all_zeros y ≡ true
  hours : y.hours ≤ most_hours * k
  so2 : y.so2 ≤ most_total * k
  co2 : y.co2 ≤ most_total * k
  heat : y.heat ≤ most_total * k
  nox_tons : y.nox_tons ≤ most_nox_tons * k

module _ (year k : ℕ) (y : YearToDate) (a : After year k y) (few : k < 4) (answer : Quarter) (m : QuarterMost answer) where
  next_follows : follows y year (suc k) answer ≡ true
  unfolding follows
  next_follows =
      rw (true_within quarter_digit (suc k) (omega arith), eq-eqb (y.quarter + 1) (suc k) (omega (arith, a.last)), eq-eqb _ _ a.same_year, a.zeros)
      (rw (le-leb _ _ m.hours, le-leb y.hours (most_hours * y.quarter) (omega (arith, a.hours, a.last))) refl)

  next_fits : sums_fit y answer ≡ true
  unfolding sums_fit
  next_fits =
      rw (
        le-leb (y.so2 + answer.so2) year_limit (omega (arith, a.so2, m.so2)),
        le-leb (y.co2 + answer.co2) year_limit (omega (arith, a.co2, m.co2)),
        le-leb (y.heat + answer.heat) year_limit (omega (arith, a.heat, m.heat)),
        le-leb (y.nox_tons + answer.nox_tons) year_limit (omega (arith, a.nox_tons, m.nox_tons)),
      )

  next_after : After year (suc k) (with_quarter y year (suc k) answer)
  next_after = record {
    same_year = refl;
    last = refl;
    zeros = rw (ne_eqb (suc k) 0 (λ e. omega arith));
    hours = omega (arith, a.hours, m.hours);
    so2 = omega (arith, a.so2, m.so2);
    co2 = omega (arith, a.co2, m.co2);
    heat = omega (arith, a.heat, m.heat);
    nox_tons = omega (arith, a.nox_tons, m.nox_tons);
  }

joins : (parts : List Part) (year k : ℕ) (y : YearToDate) → After year k y → Consecutive year (suc k) parts → k + length parts ≤ 4 →
    (z : YearToDate) × (joined_from y parts ≡ Ok z)
unfolding joined_from
joins [] year k y a c few = (y, refl)
joins (p ∷ ps) year k y a c few =
    let m = accepted_most p.file p.answer p.accepted in
    let less : k < 4 = omega arith in
    let j : joined_of y p.year p.quarter p.answer ≡ Ok (with_quarter y year (suc k) p.answer) =
    rw (c.0.0, c.0.1) (joined_record y year (suc k) p.answer (next_follows year k y a less p.answer m) (next_fits year k y a less p.answer m)) in
    let r = joins ps year (suc k) (with_quarter y year (suc k) p.answer) (next_after year k y a less p.answer m) c.1 (omega arith) in
    (r.0, ap (λ (x : Joined). and_then x (λ z. joined_from z ps)) j ∙ r.1)

none_after : (year : ℕ) → After year 0 (none_of year)
unfolding all_zeros
none_after year = record {
  same_year = refl;
  last = refl;
  zeros = refl;
  hours = omega arith;
  so2 = omega arith;
  co2 = omega arith;
  heat = omega arith;
  nox_tons = omega arith;
}

pub always_joins : (year : ℕ) (parts : List Part) → Consecutive year 1 parts → length parts ≤ 4 →
    (y : YearToDate) × (year_numbers (joined_from (none_of year) parts) ≡ year_numbers (Ok y))
always_joins year parts c few = let j = joins parts year 0 (none_of year) (none_after year) c (omega arith) in (j.0, ap year_numbers j.1)
