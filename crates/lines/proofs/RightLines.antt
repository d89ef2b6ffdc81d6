-- What the tests of a line that fits its type's picture come to, by the numbers of the type's row.
use Rattle.std.proofs.Common.{◌≡◌, ℕ, ◌+◌, ◌-◌, ◌≤◌, List, length, take, true, sym, ◌∙◌}
use Rattle.layout.specs.Layout.{row_of, length_of, date_column, date_width}
use Rattle.layout.specs.declared.Row.{Row}
use Rattle.layout.specs.declared.RecordType.{RecordType}
use Rattle.layout.specs.declared.RecordType.TheVariants.{So2Concentration, So2Mass}
use Rattle.lines.specs.Lines.{first_line}
use Rattle.lines.specs.LineFaults.{shape_fault, date_on, date_fault, gas_fault, due_of, due_fault}
use Rattle.lines.specs.Pictured.{Pictured, NumbersIn, ranges_hold}
use Rattle.lines.proofs.FaultLaws.{common_shape, right_due}
use Rattle.lines.proofs.Pictures.{ranges_right}
use Rattle.lines.proofs.Rows as rows

module _ (facility rest : List ℕ) (t : RecordType) (row : Row) (own : row ≡ row_of t) (fits : Pictured facility t rest) where
  fine : shape_fault t (first_line rest) ≡ 0
  fine = common_shape facility t (first_line rest) fits.common

  pub line_cut : row.length ≡ length (take row.length rest)
  line_cut = rows.cut t row own rest fine

  pub line_long : length (take row.length rest) ≡ length_of t
  line_long = rows.long t row own rest fine

  -- the 200 line of its rank
  module _ (hour : List ℕ) (ranked : 1 ≤ date_column t → length hour ≡ length_of So2Concentration) where
    pub date_room : (row.date - 1 + date_width ≤ length (take row.length rest)) × (1 ≤ row.date → length hour ≡ length_of So2Concentration)
    date_room = rows.date_room t row own rest fine hour ranked

    pub gas_room : row.gas ≡ true → (length_of So2Mass ≤ length (take row.length rest)) × (length hour ≡ length_of So2Concentration)
    gas_room = rows.gas_room t row own rest fine hour ranked

    -- no fault of the date, none of GAS, and numbers of their ranges
    pub right_line : date_fault row.date (date_on So2Concentration hour) (take row.length rest) ≡ 0 → gas_fault row.gas hour (take row.length rest) ≡ 0 →
        ranges_hold t (take row.length rest) ≡ true → due_fault facility (due_of t hour) (first_line rest) ≡ 0
    right_line undated together ranged =
        let numbers : NumbersIn t (take row.length rest) = rw (← rows.sized t row own) at fits.numbers in
        right_due facility (due_of t hour) (first_line rest) (record {
          common = fits.common;
          date = sym (rows.date_told t row own rest fine hour ranked) ∙ undated;
          gas = sym (rows.gas_told t row own rest fine hour ranked) ∙ together;
          values = rw (rows.known t row own rest fine) (ranges_right t (take row.length rest) line_long numbers ranged);
        })
