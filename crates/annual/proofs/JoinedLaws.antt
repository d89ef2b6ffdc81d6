-- What a record that a quarter follows is like, and what joining them gives.
use Rattle.std.specs.Prelude.{ℕ, ◌+◌, ◌*◌, ◌≤◌, ◌≡◌, List, Bool, length, get_or, Ok, Err}
use Rattle.std.proofs.Math.Path.{refl}
use Rattle.std.proofs.Common.{ap, arith}
use Rattle.std.proofs.Math.Bool.{true, false}
use borrow.Author.Tests.{eqb-true, leb-true}
use Rattle.calendar.specs.Calendar.{most_hours}
use Rattle.exact.specs.Logic.{both}
use Rattle.layout.specs.Values.{Within, quarter_digit}
use Rattle.layout.specs.LayoutLaws.{within_true}
use Rattle.totals.specs.declared.Quarter.{Quarter}
use Rattle.annual.specs.Joined.{Joined, year_numbers, follows, sums_fit, with_quarter, joined_of}
use Rattle.annual.specs.declared.YearToDate.{YearToDate}

pub never_record : {A : Type 0} (number : ℕ) (y : YearToDate) → Err number ≡ Ok y → A
never_record number y e = absurd (let z : ◌≡◌ {A = ℕ} 0 1 = cc in omega arith)

record_in : YearToDate → Joined → YearToDate
record_in y (Ok x) = x
record_in y (Err number) = y

pub same_record : (x y : YearToDate) → ◌≡◌ {A = Joined} (Ok x) (Ok y) → x ≡ y
unfolding record_in
same_record x y e = ap (record_in y) e

-- the numbers that a joining says determine its record
pub says_record : (j : Joined) (y : YearToDate) → year_numbers j ≡ year_numbers (Ok y) → j ≡ Ok y
says_record (Ok x) y e =
    let at : (k : ℕ) → get_or (year_numbers (Ok x)) k 0 ≡ get_or (year_numbers (Ok y)) k 0 = λ k. ap (λ (l : List ℕ). get_or l k 0) e in
    λ i. Ok (record { year = at 0 i; quarter = at 1 i; hours = at 2 i; so2 = at 3 i; co2 = at 4 i; heat = at 5 i; nox_tons = at 6 i })
says_record (Err number) y e = absurd (let l = ap length e in omega arith)

-- but for the zeros of a quarter 0, which nothing above needs
pub record Follows (previous : YearToDate) (year quarter : ℕ) (answer : Quarter) : Type 0 where
  pub one_of_four : Within quarter_digit quarter
  pub next : previous.quarter + 1 ≡ quarter
  pub same_year : previous.year ≡ year
  pub hours : answer.hours ≤ most_hours
  pub hours_before : previous.hours ≤ most_hours * previous.quarter

module _ (previous : YearToDate) (year quarter : ℕ) (answer : Quarter) where
  pub follows_true : follows previous year quarter answer ≡ true → Follows previous year quarter answer
  unfolding follows
  follows_true e =
      let b5 = both _ _ e in
      let b4 = both _ _ b5.0 in
      let b3 = both _ _ b4.0 in
      let b2 = both _ _ b3.0 in
      let b1 = both _ _ b2.0 in
      record {
        one_of_four = within_true _ _ b1.0;
        next = eqb-true _ _ b1.1;
        same_year = eqb-true _ _ b2.1;
        hours = leb-true _ _ b4.1;
        hours_before = leb-true _ _ b5.1;
      }

  pub joined_record : follows previous year quarter answer ≡ true → sums_fit previous answer ≡ true →
      joined_of previous year quarter answer ≡ Ok (with_quarter previous year quarter answer)
  unfolding joined_of
  joined_record e s = rw (e, joined_of, s)

  -- a record comes of a quarter that follows, and is the one with it added
  pub record_joined : (y : YearToDate) → joined_of previous year quarter answer ≡ Ok y →
      Follows previous year quarter answer × (with_quarter previous year quarter answer ≡ y)
  unfolding joined_of
  record_joined y e = go (follows previous year quarter answer) (sums_fit previous answer) refl e
    where
      go : (t s : Bool) → follows previous year quarter answer ≡ t →
          ◌≡◌ {A = Joined}
          (elim t [ false ↦ Err 41 | true ↦ elim s [ false ↦ Err 42 | true ↦ Ok (with_quarter previous year quarter answer) ] ])
          (Ok y) →
          Follows previous year quarter answer × (with_quarter previous year quarter answer ≡ y)
      go false s f w = never_record 41 y w
      go true false f w = never_record 42 y w
      go true true f w = (follows_true f, same_record (with_quarter previous year quarter answer) y w)
