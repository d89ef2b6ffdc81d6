-- The values of the records: where each stands on its line, its decimals, its range and its step. Columns count from 1.
use Rattle.std.specs.Prelude.{ℕ, suc, ◌*◌, ◌-◌, ◌/◌, ◌%◌, ◌≤◌, ◌^◌, ◌≡◌, Bool, ◌&&◌, eqb, leb}
use Rattle.columns.specs.Number.{digits_held}
use Rattle.layout.specs.declared.values.Value.{Value}

-- a number of a range that is a multiple of a step, and any number of a range
abbrev pub stepped_value : (start width decimals least most step : ℕ) → Value
stepped_value start width decimals least most step =
    record { start = start; width = width; decimals = decimals; least = least; most = most; step = step }

abbrev pub ranged_value : (start width decimals least most : ℕ) → Value
ranged_value start width decimals least most = stepped_value start width decimals least most 1

-- line 100, digits only

abbrev pub year_digits : Value
year_digits = ranged_value 10 4 0 1995 2094

abbrev pub quarter_digit : Value
quarter_digit = ranged_value 14 1 0 1 4

-- a number with decimals that may be anything its columns hold: all of them but the point's
abbrev pub any_decimal : (start width decimals : ℕ) → Value
any_decimal start width decimals = ranged_value start width decimals 0 (10 ^ (width - 1) - 1)

-- a value of which no test is left once its columns hold a number
abbrev pub is_free : Value → Bool
is_free v = eqb v.least 0 && leb (10 ^ digits_held v.decimals v.width) (suc v.most) && eqb v.step 1

abbrev pub no_value : Value
no_value = ranged_value 0 0 0 0 0

abbrev pub so2_ppm : Value
so2_ppm = any_decimal 35 6 1

abbrev pub nox_ppm : Value
nox_ppm = any_decimal 29 6 1

abbrev pub co2_percent : Value
co2_percent = ranged_value 29 6 1 1 1000

abbrev pub flow_scfh : Value
flow_scfh = stepped_value 39 10 0 0 9_999_999_000 1000

-- flow is recorded in whole thousands: how many there are in a number of scfh, and the scfh of so many

abbrev pub thousands_of : ℕ → ℕ
thousands_of scfh = scfh / flow_scfh.step

abbrev pub scfh_of : ℕ → ℕ
scfh_of thousands = flow_scfh.step * thousands

-- the time of an operating hour, and that of any hour which is listed: an idle one has 0.00
abbrev pub time_hours : Value
time_hours = ranged_value 18 4 2 1 100

abbrev pub listed_time : Value
listed_time = ranged_value time_hours.start time_hours.width time_hours.decimals 0 time_hours.most

abbrev pub heat_rate : Value
heat_rate = any_decimal 36 7 1

abbrev pub so2_tons : Value
so2_tons = any_decimal 10 11 1

abbrev pub co2_tons : Value
co2_tons = any_decimal 21 11 1

abbrev pub heat_total : Value
heat_total = any_decimal 32 11 1

abbrev pub nox_mean : Value
nox_mean = any_decimal 43 6 3

abbrev pub nox_tons : Value
nox_tons = any_decimal 49 11 1

abbrev pub so2_rate : Value
so2_rate = any_decimal 25 7 1

abbrev pub f_factor : Value
f_factor = ranged_value 26 10 1 5000 30000

abbrev pub nox_rate : Value
nox_rate = any_decimal 36 6 3

abbrev pub co2_rate : Value
co2_rate = any_decimal 18 7 1

-- a number of a value's range
abbrev pub InRange : Value → ℕ → Type 0
InRange v k = (v.least ≤ k) × (k ≤ v.most)

-- a number of a value's range and a multiple of its step, and the tests of both
pub record Within (v : Value) (k : ℕ) : Type 0 where
  pub least : v.least ≤ k
  pub most : k ≤ v.most
  pub steps : k % v.step ≡ 0

abbrev pub in_range : Value → ℕ → Bool
in_range v k = leb v.least k && leb k v.most

abbrev pub whole_steps : Value → ℕ → Bool
whole_steps v k = eqb (k % v.step) 0

unfoldable pub within : Value → ℕ → Bool
within v k = in_range v k && whole_steps v k
