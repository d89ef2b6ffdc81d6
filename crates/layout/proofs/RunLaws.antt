-- The runs of a report: which types have one line, which have one an hour, how long they are, and in which run a byte lies.
use Rattle.std.specs.Prelude.{ℕ, zero, suc, ◌+◌, ◌-◌, ◌≤◌, ◌<◌, ◌≡◌, refl, Bool, true, false, ◌&&◌, ◌||◌, List, [], ◌∷◌, ◌⊎◌, eqb, leb, length, get_or, take}
use Rattle.std.proofs.Common.{ap, ◌∙◌, inl, inr, ⊎_elim, arith, length-append, eqb-true, leb-true}
use Rattle.std.proofs.Math.Decide.{dec_lt}
use Rattle.exact.specs.Sums.{total_of}
use Rattle.layout.specs.Layout.{record_of, code_of, date_column, order, rank_of, type_at, once_or_dated, shape, lines_of, count_of, bytes_of, front_of, report_length}
use Rattle.exact.specs.Logic.{both}
use Rattle.layout.specs.LayoutLaws.{each, once_undated}
use Rattle.layout.proofs.TypeLaws.{code_tells}
use Rattle.layout.proofs.PlaceLaws.{front_bytes}
use Rattle.layout.specs.Layout.{joined_runs}
use Rattle.layout.specs.declared.RecordType.{RecordType}
use Rattle.layout.specs.declared.RecordType.TheVariants.{Facility, Operation, QuarterTotals}
use Rattle.layout.specs.declared.Run.{Run}
use Rattle.layout.specs.declared.Run.TheVariants.{Once, Hourly, Listed}
use Rattle.layout.specs.declared.Shape.{Shape}

-- line 100 and line 301 stand once
pub once_type : (t : RecordType) → (record_of t).run ≡ Once → (t ≡ Facility) ⊎ (t ≡ QuarterTotals)
once_type t e =
    go (eqb (code_of t) (code_of Facility)) refl
    (rw e at (each (λ t. once_or_dated (record_of t).run (eqb (code_of t) (code_of Facility) || eqb (code_of t) (code_of QuarterTotals)) true) refl t))
  where
    go : (first : Bool) → eqb (code_of t) (code_of Facility) ≡ first → first || eqb (code_of t) (code_of QuarterTotals) ≡ true
        → (t ≡ Facility) ⊎ (t ≡ QuarterTotals)
    go true f h = inl (code_tells t Facility (eqb-true _ _ f))
    go false f h = inr (code_tells t QuarterTotals (eqb-true _ _ h))

-- the others have a date
dated_test : (t : RecordType) → once_or_dated (record_of t).run true (leb 1 (date_column t)) ≡ true
dated_test t = each (λ t. once_or_dated (record_of t).run true (leb 1 (date_column t))) refl t

-- a type stands once, or has a date
pub once_or_dated_lem : (t : RecordType) → ((record_of t).run ≡ Once) ⊎ (1 ≤ date_column t)
once_or_dated_lem t = go (record_of t).run refl
  where
    go : (run : Run) → (record_of t).run ≡ run → ((record_of t).run ≡ Once) ⊎ (1 ≤ date_column t)
    go Once e = inl e
    go Hourly e = inr (leb-true _ _ (rw e at (dated_test t)))
    go Listed e = inr (leb-true _ _ (rw e at (dated_test t)))

pub undated_once : (t : RecordType) → date_column t ≡ 0 → (record_of t).run ≡ Once
undated_once t e = ⊎_elim (λ o. o) (λ d. absurd (omega arith)) (once_or_dated_lem t)

pub dated_run : {A : Type 0} (t : RecordType) → 1 ≤ date_column t → (once dated : A) → once_or_dated (record_of t).run once dated ≡ dated
dated_run t d once dated = go (record_of t).run refl
  where
    go : (run : Run) → (record_of t).run ≡ run → once_or_dated run once dated ≡ dated
    go Once e = absurd (omega (arith, once_undated t e))
    go Hourly e = refl
    go Listed e = refl

-- what holds of the one where the type stands once, and of the other where it has a date, holds by its run
pub by_run : {A : Type 0} (P : A → Type 0) (t : RecordType) (once dated : A) → ((record_of t).run ≡ Once → P once) → (1 ≤ date_column t → P dated) →
    P (once_or_dated (record_of t).run once dated)
by_run P t once dated f g = ⊎_elim (λ e. rw e (f e)) (λ d. rw (dated_run t d once dated) (g d)) (once_or_dated_lem t)

-- of a type with a date every operating hour has a line
module _ (t : RecordType) (d : 1 ≤ date_column t) where
  pub dated_count : (n : ℕ) → count_of (shape n) t ≡ n
  dated_count n = go (record_of t).run refl
    where
      go : (run : Run) → (record_of t).run ≡ run → lines_of run (shape n) ≡ n
      go Once e = absurd (omega (arith, once_undated t e))
      go Hourly e = refl
      go Listed e = refl

  pub dated_below : (s : Shape) (k : ℕ) → k < s.hours → k < s.operations → k < count_of s t
  dated_below s k h m = go (record_of t).run refl
    where
      go : (run : Run) → (record_of t).run ≡ run → k < lines_of run s
      go Once e = absurd (omega (arith, once_undated t e))
      go Hourly e = h
      go Listed e = m

-- 300 lines alone are more than the operating hours
abbrev if_listed : Run → Bool → Bool
if_listed Once listed = true
if_listed Hourly listed = true
if_listed Listed listed = listed

pub listed_type : (t : RecordType) → (record_of t).run ≡ Listed → t ≡ Operation
listed_type t e =
    code_tells t Operation (eqb-true _ _ (rw e at (each (λ t. if_listed (record_of t).run (eqb (code_of t) (code_of Operation))) refl t)))

pub other_count : (s : Shape) (t : RecordType) → (t ≡ Operation → ⊥) → count_of s t ≡ count_of (shape s.hours) t
other_count s t other = go (record_of t).run refl
  where
    go : (run : Run) → (record_of t).run ≡ run → lines_of run s ≡ lines_of run (shape s.hours)
    go Once e = refl
    go Hourly e = refl
    go Listed e = absurd (other (listed_type t e))

-- each type has its own place in the order
all_below : (ℕ → Bool) → ℕ → Bool
all_below p zero = true
all_below p (suc n) = all_below p n && p n

below_at : (p : ℕ → Bool) (n i : ℕ) → all_below p n ≡ true → i < n → p i ≡ true
unfolding all_below
below_at p zero i e h = absurd (omega arith)
below_at p (suc n) i e h = go (dec_lt i n) (below_at p n i (both (all_below p n) (p n) e).0)
  where
    go : Dec (i < n) → (i < n → p i ≡ true) → p i ≡ true
    go (yes l) f = f l
    go (no l) f = let s : i ≡ n = omega arith in rw s (both (all_below p n) (p n) e).1

pub rank_at : (i : ℕ) → i < length order → rank_of (type_at i) ≡ i
unfolding all_below
rank_at i h = eqb-true _ _ (below_at (λ i. eqb (rank_of (type_at i)) i) (length order) i refl h)

-- in which part of a sum a number lies
record InPart (f : RecordType → ℕ) (ts : List RecordType) (i : ℕ) : Type 0 where
  place : ℕ
  inside : place < length ts
  from : total_of f (take place ts) ≤ i
  below : i < total_of f (take place ts) + f (get_or ts place Facility)

in_part : (f : RecordType → ℕ) (ts : List RecordType) (i : ℕ) → i < total_of f ts → InPart f ts i
unfolding total_of
in_part f [] i h = absurd (omega arith)
in_part f (t ∷ ts) i h = go (dec_lt i (f t)) (in_part f ts (i - f t))
  where
    go : Dec (i < f t) → (i - f t < total_of f ts → InPart f ts (i - f t)) → InPart f (t ∷ ts) i
    go (yes l) next = record { place = 0; inside = omega arith; from = omega arith; below = omega arith }
    go (no l) next =
        let p = next (omega arith) in
        record { place = suc p.place; inside = omega (arith, p.inside); from = omega (arith, p.from); below = omega (arith, p.below) }

-- every byte of a report lies in the run of a type
pub record InRun (s : Shape) (i : ℕ) : Type 0 where
  pub type : RecordType
  pub from : (front_of s type).bytes ≤ i
  pub below : i < (front_of s type).bytes + bytes_of s type

pub in_run : (s : Shape) (i : ℕ) → i < report_length s → InRun s i
unfolding report_length
in_run s i h =
    let p = in_part (bytes_of s) order i h in
    let e = front_bytes s (type_at p.place) ∙ ap (λ (r : ℕ). total_of (bytes_of s) (take r order)) (rank_at p.place p.inside) in
    record { type = type_at p.place; from = rw e p.from; below = rw e p.below }

-- the runs of some types are as long as their bytes in sum
pub runs_length : (run : RecordType → List ℕ) (s : Shape) → ((t : RecordType) → length (run t) ≡ bytes_of s t) → (ts : List RecordType)
    → length (joined_runs run ts) ≡ total_of (bytes_of s) ts
unfolding total_of
runs_length run s long [] = refl
runs_length run s long (t ∷ ts) = length-append (run t) (joined_runs run ts) ∙ omega (arith, long t, runs_length run s long ts)
