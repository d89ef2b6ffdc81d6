-- The test of a line's date, by the 200 line of its rank, tells of its clause.
use Rattle.std.specs.Prelude.{◌≡◌, ℕ, zero, suc, ◌≤◌, ◌⊎◌, List, refl, Bool, true, false}
use Rattle.std.proofs.Common.{arith, inl, inr}
use Rattle.exact.specs.Faults.{unless, unless_zero}
use Rattle.columns.specs.Bytes.{same}
use Rattle.columns.proofs.BytesLaws.{same_eq}
use Rattle.columns.specs.Columns.{columns}
use Rattle.layout.specs.Layout.{date_width}
use Rattle.layout.specs.declared.RecordType.{RecordType}
use Rattle.layout.specs.declared.RecordType.TheVariants.{So2Concentration}
use Rattle.lines.specs.LineFaults.{date_on, date_fault}

module _ (facility : List ℕ) (t : RecordType) (hour line : List ℕ) where
  pub date_says : (c : ℕ) → date_fault c (date_on So2Concentration hour) line ≡ 0 → 1 ≤ c → columns c date_width line ≡ date_on So2Concentration hour
  unfolding date_fault
  date_says zero e h = absurd (omega arith)
  date_says (suc c) e h = (same_eq _ _).0 (unless_zero (same (columns (suc c) date_width line) (date_on So2Concentration hour)) 6 e)

  pub says_date : (c : ℕ) → (1 ≤ c → columns c date_width line ≡ date_on So2Concentration hour) → date_fault c (date_on So2Concentration hour) line ≡ 0
  unfolding date_fault
  says_date zero e = refl
  says_date (suc c) e = rw ((same_eq (columns (suc c) date_width line) (date_on So2Concentration hour)).1 (e (omega arith)))

  pub date_either : (c : ℕ) (date : List ℕ) → (date_fault c date line ≡ 0) ⊎ (date_fault c date line ≡ 7)
  unfolding date_fault
  date_either zero date = inl refl
  date_either (suc c) date = go (same (columns (suc c) date_width line) date)
    where
      go : (b : Bool) → (unless b 7 ≡ 0) ⊎ (unless b 7 ≡ 7)
      go true = inl refl
      go false = inr refl
