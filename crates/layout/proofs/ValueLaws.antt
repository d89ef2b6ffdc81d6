-- What a test over all values shows of each: every value of a record lies within its line, has room for its decimals and a step above 0.
use Rattle.std.specs.Prelude.{◌≡◌, refl, Bool, true, ◌&&◌, List, [], ◌∷◌, ℕ, zero, suc, ◌+◌, ◌-◌, ◌<◌, leb, length, get_or}
use Rattle.std.proofs.Common.{le_of_suc-le-suc, not-suc-le-zero, leb-true}
use Rattle.columns.specs.Number.{fewest_columns}
use Rattle.layout.specs.Layout.{ValueInside, length_of, order, values_of, value_count, value_at}
use Rattle.layout.specs.Values.{no_value}
use Rattle.exact.specs.Logic.{both}
use Rattle.layout.specs.LayoutLaws.{all_types, each}
use Rattle.layout.specs.declared.values.Value.{Value}
use Rattle.layout.specs.declared.RecordType.{RecordType}

pub value_count_lem : (t : RecordType) → length (values_of t) ≡ value_count t
value_count_lem t = refl

pub value_of : (t : RecordType) (i : ℕ) → i < value_count t → get_or (values_of t) i no_value ≡ value_at t i
value_of t i h = refl

-- a test of a value, of all values of a list
abbrev pub all_values : (Value → Bool) → List Value → Bool
all_values p [] = true
all_values p (v ∷ vs) = p v && all_values p vs

values_at : (p : Value → Bool) (vs : List Value) (i : ℕ) (d : Value) → all_values p vs ≡ true → i < length vs → p (get_or vs i d) ≡ true
values_at p [] i d e h = absurd (not-suc-le-zero h)
values_at p (v ∷ vs) zero d e h = (both (p v) _ e).0
values_at p (v ∷ vs) (suc i) d e h = values_at p vs i d (both (p v) _ e).1 (le_of_suc-le-suc h)

-- what a test computed over the values of all types shows of each value
pub each_value : (p : RecordType → Value → Bool) → all_types (λ t. all_values (p t) (values_of t)) order ≡ true → (t : RecordType) (i : ℕ) →
    i < value_count t → p t (value_at t i) ≡ true
each_value p e t i h = values_at (p t) (values_of t) i no_value (each (λ t. all_values (p t) (values_of t)) e t) h

abbrev inside_test : RecordType → Value → Bool
inside_test t v =
    leb 1 v.start && leb (v.start - 1 + v.width) (length_of t) && leb v.width 11 && leb (fewest_columns v.decimals) v.width
    && leb (suc v.decimals) v.width && leb 1 v.step

test_inside : (t : RecordType) (v : Value) → inside_test t v ≡ true → ValueInside t v
test_inside t v e =
    let a = both _ _ e in
    let b = both _ _ a.0 in
    let c = both _ _ b.0 in
    let d = both _ _ c.0 in
    let f = both _ _ d.0 in
    record {
      first = leb-true _ _ f.0;
      last = leb-true _ _ f.1;
      narrow = leb-true _ _ d.1;
      room = leb-true _ _ c.1;
      decimals = leb-true _ _ b.1;
      step = leb-true _ _ a.1;
    }

pub value_inside : (t : RecordType) (i : ℕ) → i < value_count t → ValueInside t (value_at t i)
value_inside t i h = test_inside t (value_at t i) (each_value inside_test refl t i h)
