-- Whichever list lies behind a quantity's figures, its exact amount lies near the total formed from the figures.
use Prim.Native.Nat.{ℕ, ◌+◌, ◌*◌}
use Rattle.std.specs.Prelude.{◌≡◌, length}
use Rattle.std.proofs.Math.Path.{refl, ap₂}
use mathlib.Core.List.{List, [], ◌∷◌}
use native.Mathlib.Omega.{arith}
use Rattle.exact.specs.Fraction.{Fraction, ◌⊕◌, ◌÷◌, whole, plain, sum_of, Near}
use Rattle.exact.proofs.FractionLaws.{near_weaken}
use Rattle.exact.specs.Rounding.{recorded, half, halves, half_up}
use Rattle.exact.proofs.RoundingLaws.{records_rounded}
use Rattle.exact.specs.Sums.{total_of, Rate, amount, recorded_amount, hundredths}
use Rattle.exact.proofs.SumLaws.{total_near, mean_near}
use Rattle.formulas.specs.Hour.{tenth, thousandth, unit_of, figure_of, HourWithin, HoursWithin}
use Rattle.formulas.specs.Formulas.{Entry, exact_value, LiesBehind}
use Rattle.totals.specs.Totals.{pounds_per_ton, quarter_totals}
use Rattle.totals.proofs.TotalLaws.{quarter_so2, quarter_co2, quarter_heat, quarter_nox}
use Rattle.formulas.specs.declared.hour.Hour.{Hour}
use Rattle.formulas.specs.declared.hour.Quantity.{Quantity}
use Rattle.formulas.specs.declared.hour.Quantity.TheVariants.{Heat, So2, Nox, Co2}
use Rattle.judging.proofs.ShareLaws.{ton_share, plain_share}
use Rattle.judging.specs.Behind.{LieBehind, exact_share, exact_sum, exact_amount, reported, allowed}

module _ (q : Quantity) where
  rate : (h : Hour) (e : Entry q) → HourWithin h → LiesBehind q h e → Rate (unit_of q)
  rate h e w b = record { value = exact_value q h.readings e; figure = figure_of q h.figures; time = h.time; records = b.gives; short = w.time.most }

  -- the rates of a list behind the figures
  rates : (hs : List Hour) (es : List (Entry q)) → HoursWithin hs → LieBehind q hs es → List (Rate (unit_of q))
  rates [] [] w b = []
  rates [] (e ∷ es) w b = []
  rates (h ∷ hs) [] w b = []
  rates (h ∷ hs) (e ∷ es) w b = rate h e w.0 b.0 ∷ rates hs es w.1 b.1

  rates_length : (hs : List Hour) (es : List (Entry q)) (w : HoursWithin hs) (b : LieBehind q hs es) → length (rates hs es w b) ≡ length hs
  unfolding rates
  rates_length [] [] w b = refl
  rates_length [] (e ∷ es) w b = absurd b
  rates_length (h ∷ hs) [] w b = absurd b
  rates_length (h ∷ hs) (e ∷ es) w b = let l = rates_length hs es w.1 b.1 in omega arith

  rates_total : (m : Rate (unit_of q) → ℕ) (g : Hour → ℕ) → ((h : Hour) (e : Entry q) (w : HourWithin h) (b : LiesBehind q h e) → m (rate h e w b) ≡ g h) →
      (hs : List Hour) (es : List (Entry q)) (w : HoursWithin hs) (b : LieBehind q hs es) → total_of m (rates hs es w b) ≡ total_of g hs
  unfolding rates total_of
  rates_total m g same [] [] w b = refl
  rates_total m g same [] (e ∷ es) w b = absurd b
  rates_total m g same (h ∷ hs) [] w b = absurd b
  rates_total m g same (h ∷ hs) (e ∷ es) w b = ap₂ ◌+◌ (same h e w.0 b.0) (rates_total m g same hs es w.1 b.1)

  rates_sum : (f : Rate (unit_of q) → Fraction) → ((h : Hour) (e : Entry q) (w : HourWithin h) (b : LiesBehind q h e) → f (rate h e w b) ≡ exact_share q h e) →
      (hs : List Hour) (es : List (Entry q)) (w : HoursWithin hs) (b : LieBehind q hs es) → sum_of f (rates hs es w b) ≡ exact_sum q hs es
  unfolding rates sum_of exact_sum
  rates_sum f same [] [] w b = refl
  rates_sum f same [] (e ∷ es) w b = absurd b
  rates_sum f same (h ∷ hs) [] w b = absurd b
  rates_sum f same (h ∷ hs) (e ∷ es) w b = ap₂ ◌⊕◌ (same h e w.0 b.0) (rates_sum f same hs es w.1 b.1)

  -- rate × time: a total formed from the figures, over s and rounded once to tenths
  timed_bound :
      ((h : Hour) (e : Entry q) (w : HourWithin h) (b : LiesBehind q h e) → amount (rate h e w b) ≡ exact_share q h e) →
      (s : ℕ) (hs : List Hour) (es : List (Entry q)) → HoursWithin hs → LieBehind q hs es →
      Near (exact_sum q hs es ÷ whole s)
      (recorded tenth (half_up tenth (hundredths (unit_of q) (total_of (λ h. figure_of q h.figures * h.time) hs) ÷ whole s)))
      ((halves (unit_of q) (length hs) ÷ whole s) ⊕ half tenth)
  unfolding rate
  timed_bound same s hs es w b =
      let l = rates hs es w b in
      let t = rates_total recorded_amount (λ h. figure_of q h.figures * h.time) (λ h e x y. refl) hs es w b in
      rw (rates_sum amount same hs es w b, t, rates_length hs es w b)
      at (total_near (unit_of q) tenth s l _ (records_rounded tenth (hundredths (unit_of q) (total_of recorded_amount l) ÷ whole s)))

mean_bound : (hs : List Hour) (es : List (Entry Nox)) → HoursWithin hs → LieBehind Nox hs es →
    Near (exact_sum Nox hs es ÷ whole (length hs))
    (recorded thousandth (half_up thousandth (recorded thousandth (total_of (λ h. h.figures.nox) hs) ÷ whole (length hs))))
    (plain thousandth)
unfolding rate
mean_bound hs es w b =
    let l = rates Nox hs es w b in
    let t = rates_total Nox (λ r. r.figure) (λ h. h.figures.nox) (λ h e x y. refl) hs es w b in
    rw (rates_sum Nox (λ r. r.value) (λ h e x y. refl) hs es w b, t, rates_length Nox hs es w b)
    at (mean_near thousandth l _ (records_rounded thousandth (recorded thousandth (total_of (λ r. r.figure) l) ÷ whole (length l))))

pub amount_bound : (q : Quantity) (hs : List Hour) (es : List (Entry q)) → HoursWithin hs → LieBehind q hs es →
    Near (exact_amount q hs es) (reported q (quarter_totals hs)) (allowed q (length hs))
unfolding rate
amount_bound Heat hs es w b = rw (quarter_heat hs) (near_weaken (timed_bound Heat (λ h e x y. refl) 1 hs es w b) (plain_share (length hs)))
amount_bound So2 hs es w b = rw (quarter_so2 hs) (near_weaken (timed_bound So2 (λ h e x y. refl) pounds_per_ton hs es w b) (ton_share (length hs)))
amount_bound Nox hs es w b = rw (quarter_nox hs) (mean_bound hs es w b)
amount_bound Co2 hs es w b = rw (quarter_co2 hs) (near_weaken (timed_bound Co2 (λ h e x y. refl) 1 hs es w b) (plain_share (length hs)))
