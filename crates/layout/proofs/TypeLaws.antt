-- Types are told apart by their codes, and by the digits in the first columns of their lines; each stands once in the order.
use Rattle.std.specs.Prelude.{◌≡◌, refl, Bool, true, not, ◌||◌, List, ℕ, eqb}
use Rattle.std.proofs.Common.{sym, ap, ◌∙◌, eqb-true}
use Rattle.exact.specs.Logic.{agree, agreed}
use Rattle.columns.specs.Bytes.{same}
use Rattle.columns.specs.Written.{digits_of}
use Rattle.layout.specs.Layout.{record_of, code_of, type_digits, order, place_of, type_at, earlier, later}
use Rattle.layout.specs.LayoutLaws.{all_types, in_order_lem, each}
use Rattle.layout.specs.declared.RecordType.{RecordType}
use Rattle.layout.specs.declared.RecordType.TheVariants.{So2Mass}

pub code_tells : (t u : RecordType) → code_of t ≡ code_of u → t ≡ u
code_tells t u e = sym (in_order_lem t).1 ∙ ap (λ (c : ℕ). type_at (place_of c order)) e ∙ (in_order_lem u).1

abbrev pub same_digits : RecordType → RecordType → Bool
same_digits t u = same (type_digits t) (type_digits u)

pub digits_tell : (t u : RecordType) → same_digits t u ≡ eqb (code_of t) (code_of u)
unfolding same digits_of
digits_tell t u =
    agreed (same_digits t u) (eqb (code_of t) (code_of u))
    (each (λ u. agree (same_digits t u) (eqb (code_of t) (code_of u)))
    (each (λ t. all_types (λ u. agree (same_digits t u) (eqb (code_of t) (code_of u))) order) refl t) u)

-- no type of this code
abbrev pub absent : ℕ → List RecordType → Bool
absent code ts = all_types (λ t. not (eqb (code_of t) code)) ts

pub only_once : (t : RecordType) → (absent (code_of t) (earlier t) ≡ true) × (absent (code_of t) (later t) ≡ true)
only_once t = (each (λ t. absent (code_of t) (earlier t)) refl t, each (λ t. absent (code_of t) (later t)) refl t)

-- GAS stands on 310 lines only
pub gas_type : (t : RecordType) → (record_of t).gas ≡ true → t ≡ So2Mass
gas_type t e = code_tells t So2Mass (eqb-true _ _ (rw e at (each (λ t. not (record_of t).gas || eqb (code_of t) (code_of So2Mass)) refl t)))
