-- The totals of at most 2,208 hours whose figures lie in their columns: how large they may be, and that they fit theirs.
use Rattle.std.specs.Prelude.{ℕ, zero, suc, ◌+◌, ◌*◌, ◌≤◌, ◌<◌, List, [], ◌∷◌, length}
use native.Mathlib.Omega.{arith}
use Rattle.std.proofs.Math.Nat.{mul-le-mul}
use Rattle.std.proofs.Common.{div-lt_iff_lt-mul}
use Rattle.calendar.specs.Calendar.{most_hours}
use Rattle.exact.specs.Fraction.{over}
use Rattle.exact.specs.Rounding.{nearest}
use Rattle.exact.specs.Sums.{total_of}
use Rattle.layout.specs.Values.{so2_tons, co2_tons, heat_total, nox_mean, nox_tons, so2_rate, co2_rate, heat_rate, nox_rate, time_hours, Within}
use Rattle.formulas.specs.Hour.{HourWithin, HoursWithin}
use Rattle.formulas.specs.declared.hour.Hour.{Hour}
use Rattle.totals.specs.Totals.{mass_share, totals_of, mean_of, quarter_of, quarter_totals}
use Rattle.totals.specs.declared.Quarter.{Quarter}

pub record QuarterWithin (q : Quarter) : Type 0 where
  pub so2 : Within so2_tons q.so2
  pub co2 : Within co2_tons q.co2
  pub heat : Within heat_total q.heat
  pub nox : Within nox_mean q.nox
  pub nox_tons : Within nox_tons q.nox_tons

-- if one hour's share is at most c, then n hours' is at most n × c
total_le : (m : Hour → ℕ) (c : ℕ) → ((h : Hour) → HourWithin h → m h ≤ c) → (hs : List Hour) → HoursWithin hs → total_of m hs ≤ length hs * c
unfolding total_of
total_le m c each [] w = omega arith
total_le m c each (h ∷ hs) w = omega (arith, each h w.0, total_le m c each hs w.1)

mean_le : (sum n : ℕ) → sum ≤ n * 99_999 → mean_of sum n ≤ 99_999
unfolding mean_of over
mean_le sum zero h = omega arith
mean_le sum (suc n) h =
    let d : 0 < 2 * (1 * (1000 * suc n)) = omega arith in
    let l : 2 * (sum * 1 * 1 * 1000) + 1 * (1000 * suc n) < 100_000 * (2 * (1 * (1000 * suc n))) = omega arith in
    omega (arith, (div-lt_iff_lt-mul d).1 l)

-- no quarter's SO2, CO2 or heat input is more, in tenths: the largest rate in each of 2,208 operating hours; the three rates have columns alike
abbrev pub most_total : ℕ
most_total = most_hours * heat_rate.most

-- nor are its NOx tons: the largest NOx rate and heat input in each of them
abbrev pub most_nox_tons : ℕ
most_nox_tons = nearest (most_hours * (nox_rate.most * heat_rate.most * time_hours.most)) 200_000_000

pub record QuarterMost (q : Quarter) : Type 0 where
  pub hours : q.hours ≤ most_hours
  pub so2 : q.so2 ≤ most_total
  pub co2 : q.co2 ≤ most_total
  pub heat : q.heat ≤ most_total
  pub nox_tons : q.nox_tons ≤ most_nox_tons

module _ (hs : List Hour) (w : HoursWithin hs) (b : length hs ≤ most_hours) where
  pub totals_most : QuarterMost (quarter_totals hs)
  unfolding quarter_totals quarter_of totals_of over
  totals_most =
      let s = total_le (λ h. h.figures.so2 * h.time) (so2_rate.most * time_hours.most) (λ h r. mul-le-mul r.figures.so2.most r.time.most) hs w in
      let c = total_le (λ h. h.figures.co2 * h.time) (co2_rate.most * time_hours.most) (λ h r. mul-le-mul r.figures.co2.most r.time.most) hs w in
      let e = total_le (λ h. h.figures.heat * h.time) (heat_rate.most * time_hours.most) (λ h r. mul-le-mul r.figures.heat.most r.time.most) hs w in
      let m = total_le (λ h. mass_share h.figures h.time) (nox_rate.most * heat_rate.most * time_hours.most)
      (λ h r. mul-le-mul (mul-le-mul r.figures.nox.most r.figures.heat.most) r.time.most) hs w in
      record { hours = b; so2 = omega arith; co2 = omega arith; heat = omega arith; nox_tons = omega arith }

  nox_most : (quarter_totals hs).nox ≤ nox_mean.most
  unfolding quarter_totals quarter_of totals_of
  nox_most = mean_le _ _ (total_le (λ h. h.figures.nox) nox_mean.most (λ h r. r.figures.nox.most) hs w)

  pub totals_fit : QuarterWithin (quarter_totals hs)
  totals_fit =
      let m = totals_most in
      record {
        so2 = record { least = omega arith; most = omega (arith, m.so2); steps = omega arith };
        co2 = record { least = omega arith; most = omega (arith, m.co2); steps = omega arith };
        heat = record { least = omega arith; most = omega (arith, m.heat); steps = omega arith };
        nox = record { least = omega arith; most = nox_most; steps = omega arith };
        nox_tons = record { least = omega arith; most = omega (arith, m.nox_tons); steps = omega arith };
      }
