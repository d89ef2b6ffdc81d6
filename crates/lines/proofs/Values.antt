-- The values of a record, one by one, and that each has columns of its own on its line.
use Prim.Native.Nat.{ℕ, zero, suc, ◌+◌, ◌-◌, ◌≤◌, ◌<◌}
use mathlib.Core.Path.{◌≡◌, refl, sym, ap, ◌∙◌}
use mathlib.Core.List.{List, ◌∷◌}
use native.Mathlib.Omega.{arith}
use native.Mathlib.Numerals.{add-one}
use mathlib.Core.Bool.{Bool}
use native.Mathlib.Nat.{add-sub_cancel_left}
use lib.ListN.{length, take, drop, get_or, drop_of_length-le}
use lib.Seq.{drop-cons}
use Rattle.columns.specs.Bytes.{same}
use Rattle.columns.specs.Columns.{columns}
use Rattle.layout.specs.Layout.{date_width, value_count, values_of, value_at}
use Rattle.layout.specs.Values.{ranged_value}
use Rattle.layout.proofs.ValueLaws.{value_count_lem, value_of}
use Rattle.layout.specs.declared.RecordType.{RecordType}
use Rattle.layout.specs.declared.values.Value.{Value}
use Rattle.exact.specs.Faults.{◌or_else◌, unless, or_first, or_next}
use Rattle.lines.specs.LineFaults.{field_fault, field_in, values_fault, date_fault}

values_one : (t : RecordType) (i : ℕ) → i < value_count t → drop i (values_of t) ≡ value_at t i ∷ drop (i + 1) (values_of t)
values_one t i h =
    let none = ranged_value 0 0 0 0 0 in
    let e : get_or (values_of t) i none ≡ value_at t i = value_of t i h in
    let k : i < length (values_of t) = omega (arith, value_count_lem t) in
    drop-cons (values_of t) i none k ∙ rw (e, add-one i)

-- one value further, and the end
module _ (t : RecordType) (line : List ℕ) (i : ℕ) where
  pub values_next : i < value_count t →
      values_fault (drop i (values_of t)) line ≡ field_fault (value_at t i) (field_in (value_at t i) line) or_else values_fault (drop (i + 1) (values_of t)) line
  unfolding values_fault
  values_next h = ap (λ (vs : List Value). values_fault vs line) (values_one t i h)

  module _ (v : Value) (fault : ℕ) (h : i < value_count t) (e : v ≡ value_at t i) (f : fault ≡ field_fault v (field_in v line)) where
    own : values_fault (drop i (values_of t)) line ≡ fault or_else values_fault (drop (i + 1) (values_of t)) line
    own = values_next h ∙ rw (f, e)

    pub first_fault_lem : (fault ≡ 0 → ⊥) → fault ≡ values_fault (drop i (values_of t)) line
    first_fault_lem n = sym (own ∙ or_first fault (values_fault (drop (i + 1) (values_of t)) line) n)

    pub next_fault : fault ≡ 0 → values_fault (drop (i + 1) (values_of t)) line ≡ values_fault (drop i (values_of t)) line
    next_fault n = sym (own ∙ or_next fault (values_fault (drop (i + 1) (values_of t)) line) n)

  pub values_end : value_count t ≤ i → values_fault (drop i (values_of t)) line ≡ 0
  unfolding values_fault
  values_end h = let k : length (values_of t) ≤ i = omega (arith, value_count_lem t) in rw (drop_of_length-le (values_of t) k)

-- the bytes from a date's column on, as a part of the line
pub date_compared : (column : ℕ) (date line : List ℕ) (from : ℕ) (r : Bool) → from ≡ column → (from ≡ 0 → ⊥) →
    r ≡ same (take (from - 1 + date_width - (from - 1)) (drop (from - 1) line)) date → date_fault column date line ≡ unless r 7
unfolding date_fault columns
date_compared column date line from r e n h = rw (h, ← e) (go from n)
  where
    go : (k : ℕ) → (k ≡ 0 → ⊥) → date_fault k date line ≡ unless (same (take (k - 1 + date_width - (k - 1)) (drop (k - 1) line)) date) 7
    go zero m = absurd (m refl)
    go (suc c) m = rw (add-sub_cancel_left (suc c - 1) date_width)
