-- The totals of a quarter: formed exactly from the recorded figures, hour by hour, and rounded once.
use Rattle.std.specs.Prelude.{ℕ, ◌+◌, ◌*◌, ◌≤◌, ◌^◌, ◌≡◌, List, [], ◌∷◌, map, length, get_or}
use Rattle.std.proofs.Common.{lit<}
use Rattle.calendar.specs.Calendar.{most_hours}
use Rattle.exact.specs.Fraction.{Fraction, ◌÷◌, fraction, whole}
use Rattle.exact.specs.Rounding.{recorded, half_up}
use Rattle.exact.specs.Sums.{total_of, hundredths}
use Rattle.formulas.specs.Hour.{tenth, thousandth}
use Rattle.formulas.specs.declared.hour.Figures.{Figures}
use Rattle.formulas.specs.declared.hour.Hour.{Hour}
use Rattle.totals.specs.declared.Totals.{Totals}
use Rattle.totals.specs.declared.Quarter.{Quarter}

-- an hour's share of a sum, from its figures and its operating time
abbrev pub Share : Type 0
Share = Figures → ℕ → ℕ

-- F-24: NOx by mass is rate × heat input × time
abbrev pub mass_share : Share
mass_share f time = f.nox * f.heat * time

-- the sums, in the order of record 301: SO2, CO2 and heat input as rate × time, NOx rates as they are, and NOx by mass
abbrev pub shares : List Share
shares = (λ f time. f.so2 * time) ∷ (λ f time. f.co2 * time) ∷ (λ f time. f.heat * time) ∷ (λ f time. f.nox) ∷ mass_share ∷ []

abbrev pub share_of : Figures → ℕ → List ℕ
share_of f time = map (λ (s : Share). s f time) shares

abbrev pub no_totals : Totals
no_totals = record { sums = map (λ (s : Share). 0) shares; hours = 0 }

-- place by place
unfoldable pub added : List ℕ → List ℕ → List ℕ
added [] ys = []
added (x ∷ xs) [] = x ∷ xs
added (x ∷ xs) (y ∷ ys) = (x + y) ∷ added xs ys

-- the running totals, grown by one hour
unfoldable pub with_hour : Totals → Figures → ℕ → Totals
with_hour t f time = record { sums = added t.sums (share_of f time); hours = t.hours + 1 }

-- over a list of hours, one after the other
unfoldable pub running_totals : Totals → List Hour → Totals
running_totals t [] = t
running_totals t (h ∷ hs) = running_totals (with_hour t h.figures h.time) hs

-- the sums over a list of hours: what the running totals come to (TotalLaws.antt)
abbrev pub sum_over : List Hour → Share → ℕ
sum_over hs s = total_of (λ h. s h.figures h.time) hs

unfoldable pub totals_of : List Hour → Totals
totals_of hs = record { sums = map (sum_over hs) shares; hours = length hs }

-- no share is more, whatever its figures' columns hold; a quarter's sum of such shares has room in 64 bits
abbrev pub most_share : ℕ
most_share = 10 ^ 13

abbrev pub most_sum : ℕ
most_sum = most_hours * most_share

-- one hour's shares
pub record ShareRoom (share : List ℕ) : Type 0 where
  pub count : length share ≡ length shares
  pub each : (i : ℕ) → get_or share i 0 ≤ most_share

-- the sums of at most 2,208 hours
pub record Room (t : Totals) : Type 0 where
  pub count : length t.sums ≡ length shares
  pub hours : t.hours ≤ most_hours
  pub each : (i : ℕ) → get_or t.sums i 0 ≤ t.hours * most_share

-- the sum of n NOx rates over n; 0 for no hour
unfoldable pub mean_of : ℕ → ℕ → ℕ
mean_of sum n = half_up thousandth (recorded thousandth sum ÷ whole n)

abbrev pub pounds_per_ton : ℕ
pounds_per_ton = 2000

-- a sum of NOx by mass is in millionths of a pound: thousandths × tenths × hundredths
abbrev pub millionths : ℕ → Fraction
millionths n = fraction n 1_000_000 (lit< tt)

-- the quarter: SO2 and NOx in tons of pounds; CO2 is in tons already
unfoldable pub quarter_of : Totals → Quarter
quarter_of t = record {
  hours = t.hours;
  so2 = half_up tenth (hundredths tenth (get_or t.sums 0 0) ÷ whole pounds_per_ton);
  co2 = half_up tenth (hundredths tenth (get_or t.sums 1 0) ÷ whole 1);
  heat = half_up tenth (hundredths tenth (get_or t.sums 2 0) ÷ whole 1);
  nox = mean_of (get_or t.sums 3 0) t.hours;
  nox_tons = half_up tenth (millionths (get_or t.sums 4 0) ÷ whole pounds_per_ton);
}

-- the totals of a list of hours, as line 301 has them
unfoldable pub quarter_totals : List Hour → Quarter
quarter_totals hs = quarter_of (totals_of hs)
