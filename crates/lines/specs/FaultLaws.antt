-- What a line without fault is like: every value within its range, and the parts of a line that is due.
use Rattle.std.specs.Prelude.{ℕ, ◌<◌, ◌≡◌, List}
use Rattle.columns.specs.Number.{number_of}
use Rattle.columns.specs.declared.Field.TheVariants.{Malformed}
use Rattle.layout.specs.Layout.{record_of, date_column, values_of, value_count, value_at}
use Rattle.layout.specs.Values.{Within}
use Rattle.layout.specs.declared.RecordType.{RecordType}
use Rattle.layout.specs.declared.RecordType.TheVariants.{So2Concentration}
use Rattle.lines.specs.LineFaults.{common_fault, field_in, values_fault, date_on, Due, date_fault, gas_fault}

-- no value of a line of a type is malformed
abbrev pub ValuesFormed : RecordType → List ℕ → Type 0
ValuesFormed t line = (i : ℕ) → i < value_count t → field_in (value_at t i) line ≡ Malformed → ⊥

-- every value of a line of a type lies in its range
abbrev pub ValuesRight : RecordType → List ℕ → Type 0
ValuesRight t line = (i : ℕ) → i < value_count t → Within (value_at t i) (number_of (field_in (value_at t i) line))

-- a line that is due, part by part
pub record DueRight (facility : List ℕ) (d : Due) (line : List ℕ) : Type 0 where
  pub common : common_fault facility d.type line ≡ 0
  pub date : date_fault (date_column d.type) (date_on So2Concentration d.hour) line ≡ 0
  pub gas : gas_fault (record_of d.type).gas d.hour line ≡ 0
  pub values : values_fault (values_of d.type) line ≡ 0
