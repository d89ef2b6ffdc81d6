-- The value of a place in a record's list.
use mathlib.Core.Path.{◌≡◌, sym, ap, ap₂, ◌∙◌}
use Prim.Native.Nat.{ℕ, suc, ◌≤◌, ◌<◌}
use native.Mathlib.Omega.{arith}
use Rattle.layout.specs.Layout.{value_count, value_at}
use Rattle.layout.specs.declared.RecordType.{RecordType}

-- value k of the type u, where t is u and i is k
pub nth : (u : RecordType) (k : ℕ) {t : RecordType} {i : ℕ} → t ≡ u → i ≡ k → value_at u k ≡ value_at t i
nth u k e f = ap₂ value_at (sym e) (sym f)

-- the last-value one
pub last_value : (u : RecordType) (k : ℕ) (t : RecordType) (i : ℕ) → t ≡ u → value_count u ≡ suc k → i < value_count t → k ≤ i → value_at u k ≡ value_at t i
last_value u k t i e n h l =
    let m : value_count t ≡ suc k = ap value_count e ∙ n in
    nth u k e (omega arith)
