-- The promise holds of every year so joined. Year.antt states it.
use Rattle.std.specs.Prelude.{ℕ, suc, ◌+◌, ◌<◌, ◌≡◌, refl, length, Ok, Err}
use Rattle.std.proofs.Common.{sym, ap, subst, subst₂, ◌∙◌, mul-one, lit<}
use mathlib.Core.List.{List, [], ◌∷◌}
use native.Mathlib.Omega.{arith}
use Rattle.exact.specs.Fraction.{◌⊕◌, fraction, sum_of, Near}
use Rattle.exact.specs.Rounding.{recorded}
use Rattle.exact.specs.Sums.{total_of}
use Rattle.exact.proofs.SumLaws.{sum_near}
use Rattle.formulas.specs.Hour.{tenth}
use Rattle.formulas.specs.Formulas.{Entry}
use Rattle.formulas.specs.declared.hour.Quantity.{Quantity}
use Rattle.formulas.specs.declared.hour.Quantity.TheVariants.{Heat, So2, Co2, Nox}
use Rattle.totals.specs.Mass.{mass_tons}
use Rattle.totals.specs.declared.Quarter.{Quarter}
use Rattle.reading.specs.Recorded.{hours_of}
use Rattle.judging.specs.Behind.{LieBehind, exact_amount, reported, allowed}
use Rattle.checker.proofs.PromiseLaws.{promise}
use Rattle.annual.specs.Joined.{Joined, year_numbers, joined_of}
use Rattle.annual.proofs.NearLaws.{one_more_lem}
use Rattle.annual.proofs.JoinedLaws.{says_record, same_record, never_record, record_joined}
use Rattle.annual.specs.Year.{Part, none_of, and_then, joined_from, Consecutive, Summed, so2, co2, heat, reported_year, allowed_year}
use Rattle.annual.specs.Year.{BehindAll, exact_year, YearPromise}
use Rattle.annual.specs.declared.YearToDate.{YearToDate}

-- behind every part stand lists, and behind all of them a list of lists
parts_behind : (q : Quantity) (ps : List Part) → (ess : List (List (Entry q))) × BehindAll q ps ess
parts_behind q [] = ([], tt)
parts_behind q (p ∷ ps) =
    let b = (promise p.file).behind p.answer p.accepted q in
    let r = parts_behind q ps in
    (b.0 ∷ r.0, (b.1, r.1))

part_near : (q : Quantity) (p : Part) (es : List (Entry q)) → LieBehind q (hours_of p.file) es →
    Near (exact_amount q (hours_of p.file) es) (reported q p.answer) (allowed q p.answer.hours)
part_near q p es b = (promise p.file).bounds p.answer p.accepted q es b

hours_in : List Part → ℕ
hours_in ps = total_of (λ p. p.answer.hours) ps

-- a quantity whose quarters each lie within 1/20 and a share of 1/per an operating hour
module _ (q : Quantity) (amount : Quarter → ℕ) (per : ℕ) (pos : 0 < per)
    (each : (p : Part) (es : List (Entry q)) → LieBehind q (hours_of p.file) es →
    Near (exact_amount q (hours_of p.file) es) (recorded tenth (amount p.answer)) (fraction 1 20 (lit< tt) ⊕ fraction p.answer.hours per pos)) where
  parts_near : (ps : List Part) (ess : List (List (Entry q))) → BehindAll q ps ess →
      Near (exact_year q ps ess) (recorded tenth (total_of (λ p. amount p.answer) ps)) (fraction (length ps) 20 (lit< tt) ⊕ fraction (hours_in ps) per pos)
  unfolding exact_year total_of hours_in
  parts_near [] [] b = omega arith
  parts_near [] (es ∷ ess) b = absurd b
  parts_near (p ∷ ps) [] b = absurd b
  parts_near (p ∷ ps) (es ∷ ess) b =
      one_more_lem per pos _ (exact_year q ps ess) (amount p.answer) _ _ p.answer.hours _ (each p es b.0) (parts_near ps ess b.1)

-- NOx by mass: within 1/20 each
parts_mass : (ps : List Part) →
    Near (sum_of (λ p. mass_tons (hours_of p.file)) ps) (recorded tenth (total_of (λ p. p.answer.nox_tons) ps)) (fraction (length ps) 20 (lit< tt))
parts_mass ps =
    rw (mul-one (length ps))
    at (sum_near (λ p. mass_tons (hours_of p.file)) (λ p. p.answer.nox_tons) 1 10 1 20 (lit< tt) (lit< tt)
    (λ p. (promise p.file).mass p.answer p.accepted) ps)

-- a record that comes of two steps comes of the first
then_record : (j : Joined) (next : YearToDate → Joined) (y : YearToDate) → and_then j next ≡ Ok y →
    (x : YearToDate) × ((j ≡ Ok x) × (next x ≡ Ok y))
then_record (Ok x) next y e = (x, (refl, e))
then_record (Err number) next y e = never_record number y e

-- what joining part after part makes of a record
record Grown (before : YearToDate) (parts : List Part) (y : YearToDate) : Type 0 where
  same_year : y.year ≡ before.year
  last : y.quarter ≡ before.quarter + length parts
  order : Consecutive before.year (before.quarter + 1) parts
  hours : y.hours ≡ before.hours + hours_in parts
  so2 : y.so2 ≡ before.so2 + total_of (λ p. p.answer.so2) parts
  co2 : y.co2 ≡ before.co2 + total_of (λ p. p.answer.co2) parts
  heat : y.heat ≡ before.heat + total_of (λ p. p.answer.heat) parts
  nox_tons : y.nox_tons ≡ before.nox_tons + total_of (λ p. p.answer.nox_tons) parts

grown : (ps : List Part) (before y : YearToDate) → joined_from before ps ≡ Ok y → Grown before ps y
unfolding joined_from hours_in total_of
grown [] before y e =
    let at : (f : YearToDate → ℕ) → f y ≡ f before + 0 = λ f. ap f (sym (same_record before y e)) ∙ omega arith in
    record {
      same_year = ap (λ (x : YearToDate). x.year) (sym (same_record before y e));
      last = at (λ x. x.quarter);
      order = tt;
      hours = at (λ x. x.hours);
      so2 = at (λ x. x.so2);
      co2 = at (λ x. x.co2);
      heat = at (λ x. x.heat);
      nox_tons = at (λ x. x.nox_tons);
    }
grown (p ∷ ps) before y e =
    let t = then_record (joined_of before p.year p.quarter p.answer) (λ x. joined_from x ps) y e in
    let r = record_joined before p.year p.quarter p.answer t.0 t.1.0 in
    let f = r.0 in
    let g = subst (λ (x : YearToDate). Grown x ps y) (sym r.1) (grown ps t.0 y t.1.1) in
    let later : Consecutive before.year (suc (before.quarter + 1)) ps =
    subst₂ (λ year quarter. Consecutive year quarter ps) (sym f.same_year) (omega (arith, f.next)) g.order in
    record {
      same_year = g.same_year ∙ sym f.same_year;
      last = omega (arith, g.last, f.next);
      order = ((sym f.same_year, sym f.next), later);
      hours = omega (arith, g.hours);
      so2 = omega (arith, g.so2);
      co2 = omega (arith, g.co2);
      heat = omega (arith, g.heat);
      nox_tons = omega (arith, g.nox_tons);
    }

-- a record whose hours and sums are those of the parts
module _ (parts : List Part) (y : YearToDate) (h : y.hours ≡ hours_in parts) where
  year_near : (y.so2 ≡ total_of (λ p. p.answer.so2) parts) → (y.co2 ≡ total_of (λ p. p.answer.co2) parts) →
      (y.heat ≡ total_of (λ p. p.answer.heat) parts) → (q : Quantity) (s : Summed q) (ess : List (List (Entry q))) → BehindAll q parts ess →
      Near (exact_year q parts ess) (reported_year s y) (allowed_year s (length parts) y.hours)
  year_near a b c So2 so2 ess l = rw (a, h) (parts_near So2 (λ r. r.so2) 40_000 (lit< tt) (part_near So2) parts ess l)
  year_near a b c Co2 co2 ess l = rw (b, h) (parts_near Co2 (λ r. r.co2) 20 (lit< tt) (part_near Co2) parts ess l)
  year_near a b c Heat heat ess l = rw (c, h) (parts_near Heat (λ r. r.heat) 20 (lit< tt) (part_near Heat) parts ess l)
  year_near a b c Nox s ess l = elim s [ ]

pub year_promise : (year : ℕ) (parts : List Part) (y : YearToDate) → year_numbers (joined_from (none_of year) parts) ≡ year_numbers (Ok y) →
    YearPromise year parts y
unfolding hours_in
year_promise year parts y e =
    let g = grown parts (none_of year) y (says_record (joined_from (none_of year) parts) y e) in
    let h : y.hours ≡ hours_in parts = omega (arith, g.hours) in
    let a : y.so2 ≡ total_of (λ p. p.answer.so2) parts = omega (arith, g.so2) in
    let b : y.co2 ≡ total_of (λ p. p.answer.co2) parts = omega (arith, g.co2) in
    let c : y.heat ≡ total_of (λ p. p.answer.heat) parts = omega (arith, g.heat) in
    let d : y.nox_tons ≡ total_of (λ p. p.answer.nox_tons) parts = omega (arith, g.nox_tons) in
    record {
      same_year = g.same_year;
      last = omega (arith, g.last);
      order = g.order;
      hours = h;
      so2 = a;
      co2 = b;
      heat = c;
      nox_tons = d;
      behind = λ q. parts_behind q parts;
      bounds = year_near parts y h a b c;
      mass = rw d (parts_mass parts);
    }
