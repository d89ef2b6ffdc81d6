-- What joining gives where the code decides: not in order, a sum over the limit, or the record.
use Rattle.std.specs.Prelude.{◌≡◌, ℕ, ◌+◌, ◌≤◌, ◌<◌, ◌^◌, true, false, Ok, Err}
use Rattle.std.proofs.Common.{arith, leb-true}
use Rattle.std.proofs.lemmas.Bool.{lt-leb, le-leb}
use Rattle.exact.specs.Logic.{both}
use Rattle.totals.specs.declared.Quarter.{Quarter}
use Rattle.annual.specs.Joined.{follows, year_limit, sums_fit, with_quarter, joined_of}
use Rattle.annual.specs.declared.YearToDate.{YearToDate}
use Rattle.annual.proofs.JoinedLaws.{follows_true, joined_record}

-- each sum lies within the limit
pub record SumsFit (previous : YearToDate) (answer : Quarter) : Type 0 where
  pub so2 : previous.so2 + answer.so2 ≤ year_limit
  pub co2 : previous.co2 + answer.co2 ≤ year_limit
  pub heat : previous.heat + answer.heat ≤ year_limit
  pub nox_tons : previous.nox_tons + answer.nox_tons ≤ year_limit

pub sums_true : (previous : YearToDate) (answer : Quarter) → sums_fit previous answer ≡ true → SumsFit previous answer
unfolding sums_fit
sums_true previous answer e =
    let c = both _ _ e in
    let b = both _ _ c.0 in
    let a = both _ _ b.0 in
    record { so2 = leb-true _ _ a.0; co2 = leb-true _ _ a.1; heat = leb-true _ _ b.1; nox_tons = leb-true _ _ c.1 }

module _ (previous : YearToDate) (year quarter : ℕ) (answer : Quarter) where
  pub joined_41 : follows previous year quarter answer ≡ false → joined_of previous year quarter answer ≡ Err 41
  unfolding joined_of
  joined_41 e = rw (e, joined_of)

  pub joined_42 : follows previous year quarter answer ≡ true → sums_fit previous answer ≡ false → joined_of previous year quarter answer ≡ Err 42
  unfolding joined_of
  joined_42 e s = rw (e, joined_of, s)

  pub hours_fit : follows previous year quarter answer ≡ true → previous.hours + answer.hours < 2 ^ 64
  hours_fit e = let f = follows_true previous year quarter answer e in omega (arith, f.one_of_four.most, f.next, f.hours, f.hours_before)

  pub so2_over : follows previous year quarter answer ≡ true → year_limit < previous.so2 + answer.so2 → joined_of previous year quarter answer ≡ Err 42
  unfolding sums_fit
  so2_over e h = joined_42 e (rw (lt-leb (previous.so2 + answer.so2) year_limit h))

  pub co2_over : follows previous year quarter answer ≡ true → year_limit < previous.co2 + answer.co2 → joined_of previous year quarter answer ≡ Err 42
  unfolding sums_fit
  co2_over e h = joined_42 e (grind (arith, lt-leb (previous.co2 + answer.co2) year_limit h))

  pub heat_over : follows previous year quarter answer ≡ true → year_limit < previous.heat + answer.heat → joined_of previous year quarter answer ≡ Err 42
  unfolding sums_fit
  heat_over e h = joined_42 e (grind (arith, lt-leb (previous.heat + answer.heat) year_limit h))

  pub nox_over : follows previous year quarter answer ≡ true → year_limit < previous.nox_tons + answer.nox_tons →
      joined_of previous year quarter answer ≡ Err 42
  unfolding sums_fit
  nox_over e h = joined_42 e (grind (arith, lt-leb (previous.nox_tons + answer.nox_tons) year_limit h))

  pub all_fit : follows previous year quarter answer ≡ true → previous.so2 + answer.so2 ≤ year_limit → previous.co2 + answer.co2 ≤ year_limit →
      previous.heat + answer.heat ≤ year_limit → previous.nox_tons + answer.nox_tons ≤ year_limit →
      joined_of previous year quarter answer ≡ Ok (with_quarter previous year quarter answer)
  unfolding sums_fit
  all_fit e s c h n = joined_record previous year quarter answer e (rw (le-leb _ _ s, le-leb _ _ c, le-leb _ _ h, le-leb _ _ n))

pub ruleset joining = (joined_41, hours_fit, so2_over, co2_over, heat_over, nox_over, all_fit)
