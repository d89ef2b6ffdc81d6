-- What holds of the three months of a quarter: their lengths, where each starts, and which of them holds a day.
use Rattle.std.specs.Prelude.{ℕ, ◌+◌, ◌≤◌, ◌<◌, Bool, true, false, cond, ◌≡◌, eqb, ltb}
use Rattle.std.proofs.Math.Path.{subst⁻¹}
use Rattle.std.proofs.Common.{arith}
use Rattle.std.proofs.Math.Decide.{ℕ_discrete, dec_lt}
use borrow.Author.Tests.{lt-ltb, le-ltb}
use Rattle.calendar.specs.Calendar.{Between, InMonths, leap_year, thirty_days, days_in_month, days_before, month_of_day}

pub cond_between : (low high a b : ℕ) (t : Bool) → Between low a high → Between low b high → Between low (cond t a b) high
cond_between low high a b true p q = p
cond_between low high a b false p q = q

pub days_in_month_lem : (year month : ℕ) → Between 28 (days_in_month year month) 31
unfolding days_in_month
days_in_month_lem year month =
    cond_between 28 31 _ _ (eqb month 2)
    (cond_between 28 31 29 28 (leap_year year) (omega arith) (omega arith))
    (cond_between 28 31 30 31 (thirty_days month) (omega arith) (omega arith))

pub month_length : (days year month : ℕ) → days ≡ days_in_month year month → Between 28 days 31
month_length days year month e = omega (arith, days_in_month_lem year month)

pub days_before_lem : (days year first month : ℕ) → days ≡ days_before year first month → days ≤ 62
unfolding days_before
days_before_lem days year first month e =
    omega (
      arith,
      cond_between 0 31 (days_in_month year first) 0 (ltb first month) (omega (arith, days_in_month_lem year first)) (omega arith),
      cond_between 0 31 (days_in_month year (first + 1)) 0 (ltb (first + 1) month) (omega (arith, days_in_month_lem year (first + 1))) (omega arith),
    )

-- the days before each of the three months
pub record Starts (year first : ℕ) : Type 0 where
  pub one : days_before year first first ≡ 0
  pub two : days_before year first (first + 1) ≡ days_in_month year first
  pub three : days_before year first (first + 2) ≡ days_in_month year first + days_in_month year (first + 1)

pub starts : (year first : ℕ) → Starts year first
unfolding days_before
starts year first =
    record {
      one = simp (le-ltb first first (omega arith), le-ltb (first + 1) first (omega arith));
      two = simp (lt-ltb first (first + 1) (omega arith), le-ltb (first + 1) (first + 1) (omega arith)) (omega arith);
      three = simp (lt-ltb first (first + 2) (omega arith), lt-ltb (first + 1) (first + 2) (omega arith));
    }

-- what holds of each of the three months holds of every month among them
by_month : (first : ℕ) (P : ℕ → Type 0) → P first → P (first + 1) → P (first + 2) → (month : ℕ) → InMonths first month → P month
by_month first P one two three month h = go (ℕ_discrete month first) (ℕ_discrete month (first + 1))
  where
    go : Dec (month ≡ first) → Dec (month ≡ first + 1) → P month
    go (yes e) d = subst⁻¹ P e one
    go (no n) (yes e) = subst⁻¹ P e two
    go (no n) (no m) = subst⁻¹ P (omega arith) three

module _ (year first : ℕ) where
  pub month_ends :
      (month : ℕ) → InMonths first month →
      days_before year first month + days_in_month year month ≤ days_in_month year first + days_in_month year (first + 1) + days_in_month year (first + 2)
  month_ends =
      by_month first
      (λ month. days_before year first month + days_in_month year month ≤ days_in_month year first + days_in_month year (first + 1) + days_in_month year (first + 2))
      (omega (arith, starts year first)) (omega (arith, starts year first)) (omega (arith, starts year first))

  -- a later month starts when an earlier one has ended
  pub months_rise :
      (month next : ℕ) → InMonths first month → InMonths first next → month < next →
      days_before year first month + days_in_month year month ≤ days_before year first next
  months_rise month next p q =
      by_month first (λ m. m < next → days_before year first m + days_in_month year m ≤ days_before year first next)
      (by_month first (λ n. first < n → days_before year first first + days_in_month year first ≤ days_before year first n)
      (λ h. omega arith) (λ h. omega (arith, starts year first)) (λ h. omega (arith, starts year first)) next q)
      (by_month first (λ n. first + 1 < n → days_before year first (first + 1) + days_in_month year (first + 1) ≤ days_before year first n)
      (λ h. omega arith) (λ h. omega arith) (λ h. omega (arith, starts year first)) next q)
      (λ h. omega arith) month p

-- a day of the quarter, the first being 0, lies in a month of it
pub record Holds (year first month day : ℕ) : Type 0 where
  pub among : InMonths first month
  pub start : days_before year first month ≤ day
  pub end : day < days_before year first month + days_in_month year month

module _ (year first day : ℕ) where
  -- month_of_day by its tests
  by_tests :
      (P : ℕ → Type 0) → (day < days_in_month year first → P first) →
      (days_in_month year first ≤ day → day < days_in_month year first + days_in_month year (first + 1) → P (first + 1)) →
      (days_in_month year first + days_in_month year (first + 1) ≤ day → P (first + 2)) → P (month_of_day year first day)
  unfolding month_of_day
  by_tests P one two three =
      rw ((starts year first).two, (starts year first).three)
      (go (dec_lt day (days_in_month year first)) (dec_lt day (days_in_month year first + days_in_month year (first + 1))))
    where
      go :
          Dec (day < days_in_month year first) → Dec (day < days_in_month year first + days_in_month year (first + 1)) →
          P
          (cond (ltb day (days_in_month year first)) first
          (cond (ltb day (days_in_month year first + days_in_month year (first + 1))) (first + 1) (first + 2)))
      go (yes p) d = rw (lt-ltb day _ p) (one p)
      go (no p) (yes q) = rw (le-ltb day (days_in_month year first) (omega arith), lt-ltb day _ q) (two (omega arith) q)
      go (no p) (no q) =
          rw (le-ltb day (days_in_month year first) (omega arith), le-ltb day (days_in_month year first + days_in_month year (first + 1)) (omega arith))
          (three (omega arith))

  pub month_starts : days_before year first (month_of_day year first day) ≤ day
  month_starts =
      by_tests (λ m. days_before year first m ≤ day)
      (λ p. omega (arith, starts year first)) (λ p q. omega (arith, starts year first)) (λ p. omega (arith, starts year first))

  pub month_holds :
      day < days_in_month year first + days_in_month year (first + 1) + days_in_month year (first + 2) → Holds year first (month_of_day year first day) day
  month_holds h =
      by_tests (λ m. Holds year first m day)
      (λ p. omega (arith, starts year first)) (λ p q. omega (arith, starts year first)) (λ p. omega (arith, starts year first))

  pub month_of_day_lem : (month : ℕ) → Holds year first month day → month_of_day year first day ≡ month
  month_of_day_lem month h = go (dec_lt (month_of_day year first day) month) (dec_lt month (month_of_day year first day))
    where
      other : Holds year first (month_of_day year first day) day
      other = month_holds (omega (arith, month_ends year first month h.among))

      go : Dec (month_of_day year first day < month) → Dec (month < month_of_day year first day) → month_of_day year first day ≡ month
      go (yes p) d = omega (arith, other, months_rise year first (month_of_day year first day) month other.among h.among p)
      go (no p) (yes q) = omega (arith, other, months_rise year first month (month_of_day year first day) h.among other.among q)
      go (no p) (no q) = omega arith
