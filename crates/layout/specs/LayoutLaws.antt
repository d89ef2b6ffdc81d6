-- What is proved of the table and the order: a test over all rows holds of each; a report of n operating hours with m
-- 300 lines has 75 + 275 × n + 43 × m bytes.
use Rattle.std.specs.Prelude.{◌≡◌, refl, Bool, true, ◌&&◌, List, [], ◌∷◌, ℕ, zero, suc, ◌+◌, ◌*◌, ◌-◌, ◌≤◌, ◌<◌, ◌^◌, eqb, leb, length, get_or}
use Rattle.std.proofs.Common.{sym, ap, ◌∙◌, arith, le_of_suc-le-suc, not-suc-le-zero, lit≤, leb-true, le-leb, eqb-true, eq-eqb}
use Rattle.calendar.specs.Calendar.{most_hours}
use Rattle.columns.specs.Number.{digits_held}
use Rattle.exact.specs.Logic.{both}
use Rattle.exact.specs.Sums.{total_of}
use Rattle.layout.specs.Layout.{length_of, date_column, date_width, value_count, most_values, lines_of, record_of, count_of, shape, order, rank_of, type_at}
use Rattle.layout.specs.Layout.{report_length, Held}
use Rattle.layout.specs.Values.{is_free, InRange, Within, in_range, whole_steps, within, flow_scfh, thousands_of, scfh_of}
use Rattle.layout.specs.declared.RecordType.{RecordType}
use Rattle.layout.specs.declared.RecordType.TheVariants.{Facility, So2Concentration, NoxConcentration, Co2Concentration, VolumetricFlow}
use Rattle.layout.specs.declared.RecordType.TheVariants.{Operation, QuarterTotals, So2Mass, NoxRate, Co2Mass}
use Rattle.layout.specs.declared.Run.{Run}
use Rattle.layout.specs.declared.Run.TheVariants.{Once, Hourly, Listed}
use Rattle.layout.specs.declared.Shape.{Shape}
use Rattle.layout.specs.declared.values.Value.{Value}

-- a test of a type, of all types
abbrev pub all_types : (RecordType → Bool) → List RecordType → Bool
all_types p [] = true
all_types p (t ∷ ts) = p t && all_types p ts

-- every type stands in the order
pub in_order_lem : (t : RecordType) → (rank_of t < length order) × (type_at (rank_of t) ≡ t)
in_order_lem Facility = (lit≤ tt, refl)
in_order_lem So2Concentration = (lit≤ tt, refl)
in_order_lem NoxConcentration = (lit≤ tt, refl)
in_order_lem Co2Concentration = (lit≤ tt, refl)
in_order_lem VolumetricFlow = (lit≤ tt, refl)
in_order_lem Operation = (lit≤ tt, refl)
in_order_lem QuarterTotals = (lit≤ tt, refl)
in_order_lem So2Mass = (lit≤ tt, refl)
in_order_lem NoxRate = (lit≤ tt, refl)
in_order_lem Co2Mass = (lit≤ tt, refl)

types_at : (p : RecordType → Bool) (ts : List RecordType) (i : ℕ) (d : RecordType) → all_types p ts ≡ true → i < length ts → p (get_or ts i d) ≡ true
types_at p [] i d e h = absurd (not-suc-le-zero h)
types_at p (t ∷ ts) zero d e h = (both (p t) (all_types p ts) e).0
types_at p (t ∷ ts) (suc i) d e h = types_at p ts i d (both (p t) (all_types p ts) e).1 (le_of_suc-le-suc h)

-- what a test computed over the order shows of each type
pub each : (p : RecordType → Bool) → all_types p order ≡ true → (t : RecordType) → p t ≡ true
each p e t = ap p (sym (in_order_lem t).1) ∙ types_at p order (rank_of t) Facility e (in_order_lem t).0

pub each_le : (f g : RecordType → ℕ) → all_types (λ t. leb (f t) (g t)) order ≡ true → (t : RecordType) → f t ≤ g t
each_le f g e t = leb-true (f t) (g t) (each (λ t. leb (f t) (g t)) e t)

pub length_most : (t : RecordType) → length_of t ≤ 99
length_most t = each_le (λ t. length_of t) (λ t. 99) refl t

pub length_least : (t : RecordType) → 14 ≤ length_of t
length_least t = each_le (λ t. 14) (λ t. length_of t) refl t

pub values_most : (t : RecordType) → value_count t ≤ most_values
values_most t = each_le (λ t. value_count t) (λ t. most_values) refl t

-- date and hour, eight columns, lie within the line and behind the stack name
pub date_inside : (t : RecordType) → (1 ≤ date_column t) → (10 ≤ date_column t) × (date_column t + 7 ≤ length_of t)
date_inside t h =
    let a = each_le (λ t. 10) (λ t. date_column t + (10 - 10 * date_column t)) refl t in
    let b = each_le (λ t. date_column t + 7) (λ t. length_of t) refl t in
    omega arith

-- they do so where a record has none, too: then they would start the line
pub date_fits : (t : RecordType) → date_column t - 1 + date_width ≤ length_of t
date_fits t = each_le (λ t. date_column t - 1 + date_width) (λ t. length_of t) refl t

-- a record that stands once has none
pub once_undated : (t : RecordType) → (record_of t).run ≡ Once → date_column t ≡ 0
once_undated t e = let z = each_le (λ t. date_column t * lines_of (record_of t).run (shape 0)) (λ t. 0) refl t in omega (arith, rw e at z)

pub count_most : (s : Shape) → Held s → (t : RecordType) → count_of s t ≤ most_hours
count_most s h t = go (record_of t).run
  where
    go : (run : Run) → lines_of run s ≤ most_hours
    go Once = omega arith
    go Hourly = omega arith
    go Listed = omega arith

-- the tests of a range and a step

pub in_range_true : (v : Value) (k : ℕ) → in_range v k ≡ true → InRange v k
in_range_true v k e = let b = both (leb v.least k) (leb k v.most) e in (leb-true _ _ b.0, leb-true _ _ b.1)

pub tests_within : (v : Value) (k : ℕ) → in_range v k ≡ true → whole_steps v k ≡ true → Within v k
tests_within v k r s = let b = in_range_true v k r in record { least = b.0; most = b.1; steps = eqb-true _ _ s }

pub within_true : (v : Value) (k : ℕ) → within v k ≡ true → Within v k
unfolding within
within_true v k e = let b = both (in_range v k) (whole_steps v k) e in tests_within v k b.0 b.1

pub true_in_range : (v : Value) (k : ℕ) → InRange v k → in_range v k ≡ true
true_in_range v k b = rw (le-leb _ _ b.0, le-leb _ _ b.1)

pub true_within : (v : Value) (k : ℕ) → Within v k → within v k ≡ true
unfolding within
true_within v k w = rw (true_in_range v k (w.least, w.most), eq-eqb _ _ w.steps)

pub free_within : (v : Value) (k : ℕ) → is_free v ≡ true → k < 10 ^ digits_held v.decimals v.width → Within v k
free_within v k e h =
    let room = 10 ^ digits_held v.decimals v.width in
    let a = both (eqb v.least 0 && leb room (suc v.most)) (eqb v.step 1) e in
    let b = both (eqb v.least 0) (leb room (suc v.most)) a.0 in
    let least : v.least ≡ 0 = eqb-true _ _ b.0 in
    let most : room ≤ suc v.most = leb-true _ _ b.1 in
    let step : v.step ≡ 1 = eqb-true _ _ a.1 in
    record { least = omega arith; most = omega arith; steps = rw step (omega arith) }

-- scfh to thousands and back: 20,000,000 scfh are 20,000 thousands

pub thousands_named : (thousands_of 20_000_000 ≡ 20_000) × (scfh_of 20_000 ≡ 20_000_000)
thousands_named = (refl, refl)

pub scfh_back : (scfh : ℕ) → Within flow_scfh scfh → scfh_of (thousands_of scfh) ≡ scfh
scfh_back scfh w = omega arith

pub flow_within : (scfh : ℕ) → Within flow_scfh scfh → Within flow_scfh (scfh_of (thousands_of scfh))
flow_within scfh w = rw (scfh_back scfh w) w

pub thousands_back : (thousands : ℕ) → thousands_of (scfh_of thousands) ≡ thousands
thousands_back thousands = omega arith

pub report_length_lem : (s : Shape) → report_length s ≡ 75 + 275 * s.hours + 43 * s.operations
unfolding report_length total_of
report_length_lem s = omega arith
