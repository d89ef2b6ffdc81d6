-- The running totals of a list of hours are its sums, and grow hour by hour to them; what the quarter's totals are of them.
use Rattle.std.specs.Prelude.{◌≡◌, List, [], ◌∷◌, map, ℕ, ◌+◌, ◌*◌, length}
use Rattle.std.proofs.Math.Path.{refl}
use Rattle.std.proofs.Common.{ap, ap₂, ◌∙◌, arith}
use Rattle.exact.specs.Fraction.{◌÷◌, whole}
use Rattle.exact.specs.Rounding.{recorded, half_up}
use Rattle.exact.specs.Sums.{total_of, hundredths}
use Rattle.formulas.specs.Hour.{tenth, thousandth}
use Rattle.formulas.specs.declared.hour.Figures.{Figures}
use Rattle.totals.specs.Totals.{Share, shares, no_totals, added, with_hour, running_totals, sum_over, totals_of}
use Rattle.totals.specs.Totals.{pounds_per_ton, mean_of, quarter_of, quarter_totals}
use Rattle.formulas.specs.declared.hour.Hour.{Hour}
use Rattle.totals.specs.declared.Totals.{Totals}

-- two lists of sums, added place by place
added_maps : (ss : List Share) (x y : Share → ℕ) → added (map x ss) (map y ss) ≡ map (λ s. x s + y s) ss
unfolding added
added_maps [] x y = refl
added_maps (s ∷ ss) x y = ap (λ (l : List ℕ). (x s + y s) ∷ l) (added_maps ss x y)

map_same : (ss : List Share) (x y : Share → ℕ) → ((s : Share) → x s ≡ y s) → map x ss ≡ map y ss
map_same [] x y e = refl
map_same (s ∷ ss) x y e = ap₂ ◌∷◌ (e s) (map_same ss x y e)

abbrev summed : (Share → ℕ) → ℕ → Totals
summed x n = record { sums = map x shares; hours = n }

same_totals : {xs ys : List ℕ} {n m : ℕ} → xs ≡ ys → n ≡ m → ◌≡◌ {A = Totals} (record { sums = xs; hours = n }) (record { sums = ys; hours = m })
same_totals e f = rw (e, f)

running_from : (x : Share → ℕ) (n : ℕ) (hs : List Hour) → running_totals (summed x n) hs ≡ summed (λ s. x s + sum_over hs s) (n + length hs)
unfolding running_totals total_of with_hour
running_from x n [] = same_totals (map_same shares x (λ s. x s + sum_over [] s) (λ s. omega arith)) (omega arith)
running_from x n (h ∷ hs) =
    ap (λ (l : List ℕ). running_totals (record { sums = l; hours = n + 1 }) hs) (added_maps shares x (λ s. s h.figures h.time))
    ∙ running_from (λ s. x s + s h.figures h.time) (n + 1) hs
    ∙ same_totals
    (map_same shares (λ s. x s + s h.figures h.time + sum_over hs s) (λ s. x s + sum_over (h ∷ hs) s) (λ s. omega arith))
    (omega arith)

pub running_totals_lem : (hs : List Hour) → running_totals no_totals hs ≡ totals_of hs
unfolding totals_of
running_totals_lem hs = running_from (λ s. 0) 0 hs ∙ same_totals (map_same shares (λ s. 0 + sum_over hs s) (sum_over hs) (λ s. omega arith)) (omega arith)

-- hour by hour

pub running_end : (t : Totals) → running_totals t [] ≡ t
unfolding running_totals
running_end t = refl

pub running_next : (t : Totals) (h : Hour) (hs : List Hour) → running_totals t (h ∷ hs) ≡ running_totals (with_hour t h.figures h.time) hs
unfolding running_totals
running_next t h hs = refl

pub grown_hours : (t : Totals) (f : Figures) (time : ℕ) → (with_hour t f time).hours ≡ t.hours + 1
unfolding with_hour
grown_hours t f time = refl

pub quarter_formed : (t : Totals) (hs : List Hour) → t ≡ totals_of hs → quarter_of t ≡ quarter_totals hs
unfolding quarter_totals
quarter_formed t hs e = ap quarter_of e

-- the quarter's totals, each from its sum
module _ (hs : List Hour) where
  pub quarter_hours : (quarter_totals hs).hours ≡ length hs
  unfolding quarter_totals quarter_of totals_of
  quarter_hours = refl

  pub quarter_so2 : (quarter_totals hs).so2 ≡ half_up tenth (hundredths tenth (total_of (λ h. h.figures.so2 * h.time) hs) ÷ whole pounds_per_ton)
  unfolding quarter_totals quarter_of totals_of
  quarter_so2 = refl

  pub quarter_co2 : (quarter_totals hs).co2 ≡ half_up tenth (hundredths tenth (total_of (λ h. h.figures.co2 * h.time) hs) ÷ whole 1)
  unfolding quarter_totals quarter_of totals_of
  quarter_co2 = refl

  pub quarter_heat : (quarter_totals hs).heat ≡ half_up tenth (hundredths tenth (total_of (λ h. h.figures.heat * h.time) hs) ÷ whole 1)
  unfolding quarter_totals quarter_of totals_of
  quarter_heat = refl

  pub quarter_nox : (quarter_totals hs).nox ≡ half_up thousandth (recorded thousandth (total_of (λ h. h.figures.nox) hs) ÷ whole (length hs))
  unfolding quarter_totals quarter_of totals_of mean_of
  quarter_nox = refl
