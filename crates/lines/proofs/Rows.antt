-- A line that has its type's shape, by the numbers of the type's row.
use Prim.Native.Nat.{ℕ, ◌+◌, ◌-◌, ◌≤◌}
use mathlib.Core.Path.{◌≡◌, sym, ap, ap₂, ◌∙◌}
use mathlib.Core.List.{List}
use mathlib.Core.Bool.{Bool, true}
use native.Mathlib.Omega.{arith}
use lib.ListN.{length, take}
use Rattle.layout.specs.Layout.{record_of, row_of, length_of, date_column, date_width}
use Rattle.layout.specs.LayoutLaws.{date_fits}
use Rattle.layout.proofs.TypeLaws.{gas_type}
use Rattle.layout.specs.declared.Row.{Row}
use Rattle.layout.specs.declared.RecordType.{RecordType}
use Rattle.layout.specs.declared.RecordType.TheVariants.{So2Concentration, So2Mass}
use Rattle.lines.specs.Lines.{first_line}
use Rattle.lines.specs.LineFaults.{shape_fault, date_on, date_fault, gas_fault}
use Rattle.lines.proofs.Shapes.{line_known, line_length_lem}

module _ (t : RecordType) (row : Row) (own : row ≡ row_of t) where
  pub sized : row.length ≡ length_of t
  sized = ap (λ (r : Row). r.length) own

  dated : row.date ≡ date_column t
  dated = ap (λ (r : Row). r.date) own

  gassed : row.gas ≡ (record_of t).gas
  gassed = ap (λ (r : Row). r.gas) own

  module _ (rest : List ℕ) (fine : shape_fault t (first_line rest) ≡ 0) where
    abbrev pub line : List ℕ
    line = take row.length rest

    pub known : first_line rest ≡ line
    known = line_known t rest fine row.length sized

    pub long : length line ≡ length_of t
    long = line_length_lem t rest fine row.length sized

    pub cut : row.length ≡ length line
    cut = sized ∙ sym long

    -- the 200 line of its rank
    module _ (hour : List ℕ) (ranked : 1 ≤ date_column t → length hour ≡ length_of So2Concentration) where
      -- there is room for the date and for GAS
      pub date_room : (row.date - 1 + date_width ≤ length line) × (1 ≤ row.date → length hour ≡ length_of So2Concentration)
      date_room = (omega (arith, long, dated, date_fits t), λ h. ranked (omega (arith, h, dated)))

      pub gas_room : row.gas ≡ true → (length_of So2Mass ≤ length line) × (length hour ≡ length_of So2Concentration)
      gas_room g =
          let m = gas_type t (sym gassed ∙ g) in
          (omega (arith, long, ap length_of m), ranked (omega (arith, ap date_column m)))

      -- what is looked for is what the definition has
      pub date_told : date_fault row.date (date_on So2Concentration hour) line ≡ date_fault (date_column t) (date_on So2Concentration hour) (first_line rest)
      date_told = ap₂ (λ (column : ℕ) (l : List ℕ). date_fault column (date_on So2Concentration hour) l) dated (sym known)

      pub gas_told : gas_fault row.gas hour line ≡ gas_fault (record_of t).gas hour (first_line rest)
      gas_told = ap₂ (λ (gas : Bool) (l : List ℕ). gas_fault gas hour l) gassed (sym known)
