-- The running totals as the code grows and rounds them.
use mathlib.Core.Path.{◌≡◌, refl, ap, ap₂, sym, ◌∙◌}
use native.Mathlib.Decide.{dec_lt}
use Rattle.std.proofs.Common.{◌≢◌, get_or-set_other, get_or-set_same, set, length-set}
use mathlib.Core.List.{List, [], ◌∷◌}
use Prim.Native.Nat.{ℕ, suc, ◌+◌, ◌*◌, ◌≤◌, ◌<◌}
use native.Mathlib.Nat.{mul-le-mul_right}
use native.Mathlib.Omega.{arith}
use lib.Dec.{lit<}
use lib.ListN.{length, get_or}
use Rattle.calendar.specs.Calendar.{most_hours}
use Rattle.exact.specs.Fraction.{over, ◌÷◌, whole}
use Rattle.exact.proofs.FractionLaws.{quotient}
use Rattle.exact.specs.Rounding.{recorded, nearest, half_up}
use Rattle.exact.proofs.RoundingLaws.{nearest_reduced}
use Rattle.exact.specs.Sums.{hundredths}
use Rattle.formulas.specs.Hour.{tenth, thousandth}
use Rattle.totals.specs.Totals.{shares, share_of, added, with_hour, most_share, most_sum, ShareRoom, Room}
use Rattle.totals.specs.Totals.{mean_of, pounds_per_ton, millionths, quarter_of}
use Rattle.formulas.specs.declared.hour.Figures.{Figures}
use Rattle.totals.specs.declared.Totals.{Totals}
use Rattle.totals.specs.declared.Quarter.{Quarter}

-- the first i sums are grown by their shares
pub record Grown (xs ys zs : List ℕ) (i : ℕ) : Type 0 where
  pub long : length zs ≡ length xs
  pub done : (k : ℕ) → k < i → get_or zs k 0 ≡ get_or xs k 0 + get_or ys k 0
  pub left : (k : ℕ) → i ≤ k → get_or zs k 0 ≡ get_or xs k 0

pub grown_first : (xs ys : List ℕ) → Grown xs ys xs 0
grown_first xs ys = record { long = refl; done = λ k h. absurd (omega arith); left = λ k h. refl }

pub grown_next : (xs ys zs : List ℕ) (i : ℕ) → Grown xs ys zs i → i < length xs → Grown xs ys (set zs i (get_or zs i 0 + get_or ys i 0)) (i + 1)
grown_next xs ys zs i g h = record {
  long = length-set zs i _ ∙ g.long;
  done = λ k l. one k l (dec_lt k i);
  left = λ k l. let ne : k ≢ i = omega arith in rw get_or-set_other (g.left k (omega arith));
}
  where
    one : (k : ℕ) → k < i + 1 → Dec (k < i) → get_or (set zs i (get_or zs i 0 + get_or ys i 0)) k 0 ≡ get_or xs k 0 + get_or ys k 0
    one k l (yes m) = let ne : k ≢ i = omega arith in rw get_or-set_other (g.done k m)
    one k l (no m) =
        let e : k ≡ i = omega arith in
        let lt : i < length zs = omega (arith, g.long) in
        rw (e, get_or-set_same) (ap (λ n. n + get_or ys i 0) (g.left i (omega arith)))

all_added : (xs ys zs : List ℕ) → length ys ≡ length xs → length zs ≡ length xs →
    ((k : ℕ) → k < length xs → get_or zs k 0 ≡ get_or xs k 0 + get_or ys k 0) → zs ≡ added xs ys
unfolding added
all_added [] ys [] m l e = refl
all_added [] ys (z ∷ zs) m l e = absurd (omega arith)
all_added (x ∷ xs) [] zs m l e = absurd (omega arith)
all_added (x ∷ xs) (y ∷ ys) [] m l e = absurd (omega arith)
all_added (x ∷ xs) (y ∷ ys) (z ∷ zs) m l e =
    ap₂ ◌∷◌ (e 0 (omega arith)) (all_added xs ys zs (omega arith) (omega arith) (λ k h. e (suc k) (omega arith)))

pub grown : (t : Totals) (f : Figures) (time : ℕ) (share sums : List ℕ) (i : ℕ) → Grown t.sums share sums i → length t.sums ≤ i →
    length t.sums ≡ length shares → share ≡ share_of f time → ◌≡◌ {A = Totals} (record { sums = sums; hours = t.hours + 1 }) (with_hour t f time)
unfolding with_hour
grown t f time share sums i g h l e =
    let m : length share ≡ length t.sums = ap length e ∙ sym l in
    ap (λ (x : List ℕ). record { sums = x; hours = t.hours + 1 })
    (all_added t.sums share sums m g.long (λ k n. g.done k (omega arith)) ∙ ap (added t.sums) e)

pub grown_room : (t : Totals) (share sums : List ℕ) (i : ℕ) → Grown t.sums share sums i → Room t → ShareRoom share → t.hours < most_hours →
    Room (record { sums = sums; hours = t.hours + 1 })
grown_room t share sums i g r s h = record {
  count = g.long ∙ r.count;
  hours = omega arith;
  each = λ k. go k (dec_lt k i);
}
  where
    go : (k : ℕ) → Dec (k < i) → get_or sums k 0 ≤ (t.hours + 1) * most_share
    go k (yes m) = omega (arith, g.done k m, r.each k, s.each k)
    go k (no m) = omega (arith, g.left k (omega arith), r.each k)

-- a sum of a quarter is at most 2,208 times the most of an hour
pub sum_bound : (t : Totals) (i : ℕ) → Room t → get_or t.sums i 0 ≤ most_sum
sum_bound t i r = omega (arith, r.each i, mul-le-mul_right most_share r.hours)

pub mean_none : (sum n : ℕ) → n ≡ 0 → 0 ≡ mean_of sum n
unfolding mean_of over
mean_none sum n e = rw e

pub mean_some : (sum n : ℕ) → 0 < n → nearest sum n ≡ mean_of sum n
unfolding mean_of
mean_some sum n h =
    let v = quotient (recorded thousandth sum) n 1 h in
    rw (v.upper, v.lower) (nearest_reduced 1000 _ _ _ _ (lit< tt) (omega arith) (omega arith))

pub tons : (sum : ℕ) → nearest sum 200_000 ≡ half_up tenth (hundredths tenth sum ÷ whole pounds_per_ton)
unfolding over
tons sum = nearest_reduced 10 _ _ _ _ (lit< tt) (omega arith) (omega arith)

pub amounts : (sum : ℕ) → nearest sum 100 ≡ half_up tenth (hundredths tenth sum ÷ whole 1)
unfolding over
amounts sum = nearest_reduced 10 _ _ _ _ (lit< tt) (omega arith) (omega arith)

pub mass_tons_lem : (sum : ℕ) → nearest sum 200_000_000 ≡ half_up tenth (millionths sum ÷ whole pounds_per_ton)
unfolding over
mass_tons_lem sum = nearest_reduced 10 _ _ _ _ (lit< tt) (omega arith) (omega arith)

pub quarter_at : (t : Totals) {so2 co2 heat nox mass : ℕ} →
    so2 ≡ nearest (get_or t.sums 0 0) 200_000 →
    co2 ≡ nearest (get_or t.sums 1 0) 100 →
    heat ≡ nearest (get_or t.sums 2 0) 100 →
    nox ≡ mean_of (get_or t.sums 3 0) t.hours →
    mass ≡ nearest (get_or t.sums 4 0) 200_000_000 →
    ◌≡◌ {A = Quarter} (record { hours = t.hours; so2 = so2; co2 = co2; heat = heat; nox = nox; nox_tons = mass }) (quarter_of t)
unfolding quarter_of
quarter_at t s c h n m =
    rw (s ∙ tons (get_or t.sums 0 0), c ∙ amounts (get_or t.sums 1 0), h ∙ amounts (get_or t.sums 2 0), n, m ∙ mass_tons_lem (get_or t.sums 4 0))
